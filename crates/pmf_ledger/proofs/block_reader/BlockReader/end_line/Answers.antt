use Rattle.std.proofs.{Common.{◌≡◌, [], ◌∷◌, ◌++◌, subst, rules}, lemmas.List.{nil_from_length}}
use Rattle.pmf_ledger.{specs.BlockReading.{EndsWithin}, proofs.lemmas.TextFrontLemmas.{line_taken, refuses_more, within-more}}
use Rattle.pmf_ledger.proofs.block_reader.BlockReader.end_line.Goals as goal

pub returns-then-is_empty : goal.returns-then-is_empty
returns-then-is_empty c = λ text r taken.
    let rest = c.args.rest.now in
    let none : c.args.self.now.front.items ≡ [] = nil_from_length _ (search rules) in
    let within = subst (λ xs. EndsWithin (text ++ rest) (xs ++ rest) taken.line r) none (within-more text c.args.self.now.front.items taken.line r taken.within rest c.requires.unended) in
    line_taken (text ++ rest) rest taken.line r (record { lines = c.follow.new.self; front = c.args.self.now.front }) within none c.follow.result (c.follow.ensures r taken.line taken.lines)

pub returns-in-Err : goal.returns-in-Err
returns-in-Err c = λ text r taken. refuses_more (text ++ c.args.rest.now) (10 ∷ []) c.in-Err.fault (c.in-Err.ensures text r taken)

pub follow-given-requires : goal.follow-given-requires
follow-given-requires c =
    let kept = c.in-Ok.ensures c.requires.taken.0 c.requires.taken.1 c.requires.taken.2 in (c.requires.taken.1, kept.line, kept.lines)

pub returns : goal.returns
returns c = λ text r taken.
    let kept = c.in-Ok.ensures text r taken in
    let given = rw c.deref.ensures.value at c.follow-given.ensures r kept.line kept.lines in
    line_taken (text ++ c.args.rest.now) c.keep.new.self.front.items kept.line r (record { lines = c.follow-given.new.self; front = c.clear.new.self }) kept.within c.clear.ensures.items c.follow-given.result given
