use Rattle.std.proofs.{Common.{Contains, ◌≡◌, ◌∷◌, ◌++◌, [], Some, refl, sym, ◌∙◌, ap, subst}, lemmas.Bool.{true≢false}, lemmas.Slice.Eq.{bytes_eq-Decides}}
use Rattle.pmf_ledger.specs.RawText.{RawBlock}
use Rattle.pmf_merge.{specs.RawWritten.{IsLastTold, IsRawWritten}, proofs.lemmas.FrontLemmas.{front_of_blocks}, proofs.lemmas.RawTellingLemmas.{adds_new, adds_same, one_raw, told_last}, proofs.lemmas.TellingLemmas.{OnOk_map}}
use Rattle.pmf_merge.proofs.raw_written.RawWritten.tell.Goals as goal

pub returns-then-eq-clause-told : goal.returns-then-eq-clause-told
returns-then-eq-clause-told g c = λ profile held out v written rises named is upto.
    let name = c.is_last.ensures.0 c.if-is_last.true in
    let last = subst (λ n. IsLastTold out n c.args.self.now.last.items) name written.last in
    let same = sym c.as_slice.ensures.value ∙ (bytes_eq-Decides c.as_slice.result.now c.args.block.now).0 (sym c.if-eq.ensures) in
    let one = one_raw v c.args.name c.args.self.now.last.items named (is ∙ sym same) in
    (out, adds_same out v (subst (λ b. Contains out b) (sym one) (told_last out c.args.name c.args.self.now.last.items last)) rises, written)

pub returns-else-eq-clause-refused : goal.returns-else-eq-clause-refused
returns-else-eq-clause-refused g c = λ profile held out v written named is.
    let name = c.is_last.ensures.0 c.if-is_last.true in
    let last = subst (λ n. IsLastTold out n c.args.self.now.last.items) name written.last in (
      record { name = c.args.name; bytes = c.args.self.now.last.items },
      told_last out c.args.name c.args.self.now.last.items last,
      refl,
      named,
      λ same. true≢false (sym ((bytes_eq-Decides c.as_slice.result.now c.args.block.now).1 (c.as_slice.ensures.value ∙ ap (λ (b : RawBlock). b.bytes) same ∙ is)) ∙ sym c.if-eq.ensures),
    )

pub returns-then-len-lt-ROOM-clause-told : goal.returns-then-len-lt-ROOM-clause-told
returns-then-len-lt-ROOM-clause-told g c = λ profile held out v written rises named is upto.
    let other = λ (same : c.args.self.now.name ≡ Some v.name). true≢false (sym (c.is_last.ensures.1 (same ∙ ap Some named)) ∙ c.if-is_last.false) in
    let one = one_raw v c.args.name c.args.block.now named is in
    (out ++ v ∷ [], adds_new out c.args.self.now.name c.args.self.now.last.items v written.last rises upto other, subst (λ b. IsRawWritten profile held (g.W.Sink.held c.args.writer.now) (out ++ b ∷ []) c.add.new.self) (sym one) (c.in-Ok.ensures profile held (g.W.Sink.held c.args.writer.now) out written))

pub returns-clause-told : goal.returns-clause-told
returns-clause-told g c = λ profile held out v written rises named is upto.
    let other = λ (same : c.args.self.now.name ≡ Some v.name). true≢false (sym (c.is_last.ensures.1 (same ∙ ap Some named)) ∙ c.if-is_last.false) in
    let one = one_raw v c.args.name c.args.block.now named is in
    let added = subst (λ b. IsRawWritten profile held (g.W.Sink.held c.args.writer.now) (out ++ b ∷ []) c.add.new.self) (sym one) (c.in-Ok.ensures profile held (g.W.Sink.held c.args.writer.now) out written) in
    OnOk_map c.write.result _ _ (c.write.ensures.written profile held (out ++ v ∷ []) added) (λ now. (out ++ v ∷ [], adds_new out c.args.self.now.name c.args.self.now.last.items v written.last rises upto other, now))

pub returns-else-eq-clause-front : goal.returns-else-eq-clause-front
returns-else-eq-clause-front g c = λ profile held out written.
    front_of_blocks profile held _ out c.args.self.now written

pub returns-in-Err-clause-front : goal.returns-in-Err-clause-front
returns-in-Err-clause-front g c = λ profile held out written.
    front_of_blocks profile held _ out c.args.self.now written

pub returns-clause-front : goal.returns-clause-front
returns-clause-front g c = λ profile held out written.
    c.write.ensures.front profile held (out ++ record { name = c.args.name; bytes = c.args.block.now } ∷ []) (c.in-Ok.ensures profile held (g.W.Sink.held c.args.writer.now) out written)
