use Rattle.std.proofs.{Common.{◌+◌, ◌++◌, length, sym, ◌∙◌, ap, subst, arith}, lemmas.List.{take_all}}
use Rattle.memchr.specs.Find.{IsFirstByte, is_byte}
use Rattle.pmf_ledger.{specs.BlockReading.{HasTaken, RefusesFront}, proofs.lemmas.TextFrontLemmas.{all_taken, gives_same, line_end_within, line_unended, none_given, refuses_piece, rest_unended, text_more}}
use Rattle.pmf_ledger.proofs.block_reader.BlockReader.feed.Goals as goal

pub end_line-requires-clause-taken : goal.end_line-requires-clause-taken
end_line-requires-clause-taken c = let here = c.loop-length.invariant.taken c.requires.0 c.requires.1 c.requires.2 in (_, here.0, here.1)

pub end_line-requires-clause-unended : goal.end_line-requires-clause-unended
end_line-requires-clause-unended c = line_unended c.args.piece.now c.loop-length.taken c.loop-length.invariant.within c.in-Some.length (subst (IsFirstByte (is_byte 10) _) c.in-Some.is c.memchr.ensures)

pub returns-in-Err-clause-takes : goal.returns-in-Err-clause-takes
returns-in-Err-clause-takes c = λ text r taken.
    let piece = c.args.piece.now in let n = c.loop-length.taken in let len = c.in-Some.length in
    let here = c.loop-length.invariant.taken text r taken in
    let more = text_more piece n c.loop-length.invariant.within len (subst (IsFirstByte (is_byte 10) _) c.in-Some.is c.memchr.ensures) text in
    refuses_piece text piece (n + len + 1) c.in-Err.fault (subst (λ xs. RefusesFront xs c.in-Err.fault) more (c.in-Err.ensures _ here.0 here.1))

pub returns-then-is_some-clause-takes : goal.returns-then-is_some-clause-takes
returns-then-is_some-clause-takes c = λ text r taken.
    let here = c.loop-length.invariant.taken text r taken in
    let more = text_more c.args.piece.now c.loop-length.taken c.loop-length.invariant.within c.in-Some.length (subst (IsFirstByte (is_byte 10) _) c.in-Some.is c.memchr.ensures) text in
    let next = c.in-Ok.ensures _ here.0 here.1 in
    (next.0, subst (λ xs. HasTaken xs next.0 c.end_line.new.self) more next.1, gives_same r here.0 next.0 c.in-Ok.block here.2 next.2)

pub loop-length-preserved : goal.loop-length-preserved
loop-length-preserved c = record {
  within = line_end_within c.args.piece.now c.loop-length.taken c.loop-length.invariant.within c.in-Some.length (subst (IsFirstByte (is_byte 10) _) c.in-Some.is c.memchr.ensures);
  taken = λ text r taken.
      let here = c.loop-length.invariant.taken text r taken in
      let more = text_more c.args.piece.now c.loop-length.taken c.loop-length.invariant.within c.in-Some.length (subst (IsFirstByte (is_byte 10) _) c.in-Some.is c.memchr.ensures) text in
      let next = c.in-Ok.ensures _ here.0 here.1 in
      (next.0, subst (λ xs. HasTaken xs next.0 c.end_line.new.self) more next.1, none_given here.0 next.0 c.in-Ok.block (sym c.is_some.ensures ∙ c.if-is_some.false) next.2 ∙ here.2);
}

pub keep-requires : goal.keep-requires
keep-requires c = rest_unended c.args.piece.now c.loop-length.taken c.loop-length.invariant.within (subst (IsFirstByte (is_byte 10) _) c.in_default.is c.memchr.ensures)

pub returns-in-Ok-keep-clause-takes : goal.returns-in-Ok-keep-clause-takes
returns-in-Ok-keep-clause-takes c = λ text r taken.
    let here = c.loop-length.invariant.taken text r taken in
    let whole = all_taken c.args.piece.now c.loop-length.taken c.loop-length.invariant.within text ∙ ap (λ xs. text ++ xs) (sym (take_all (length c.args.piece.now) c.args.piece.now (omega arith))) in
    (here.0, subst (λ xs. HasTaken xs here.0 c.keep.new.self) whole (c.in-Ok-keep.ensures _ here.0 here.1), here.2)

pub returns-in-Err-keep-clause-takes : goal.returns-in-Err-keep-clause-takes
returns-in-Err-keep-clause-takes c = λ text r taken.
    let here = c.loop-length.invariant.taken text r taken in
    subst (λ xs. RefusesFront xs c.in-Err-keep.fault) (all_taken c.args.piece.now c.loop-length.taken c.loop-length.invariant.within text) (c.in-Err-keep.ensures _ here.0 here.1)
