use Rattle.std.proofs.Common.{ap, ◌∙◌, Ok, refl}
use Rattle.pmf_device.proofs.PageLemmas.{stops_so}
use Rattle.pmf_merge.{specs.{Refusing.{WritesFront}, Written.{IsTextOfSome}}, proofs.lemmas.FrontLemmas.{front_of_some}, proofs.lemmas.TellingLemmas.{OnOk_map, tells_new, tells_same}}
use Rattle.pmf_merge.proofs.merging.tell.Goals as goal

pub returns-then-branch-clause-told : goal.returns-then-branch-clause-told
returns-then-branch-clause-told g c = λ form profile held out written last rises by own.
    let told = tells_new out c.args.last.now c.args.verdict.now last rises (c.is_new.ensures.new (c.in_ok-is_new.was ∙ ap (λ b. Ok b) c.if-branch.true)) in
    OnOk_map c.tell.result _ _ (c.tell.ensures.told form profile held out written) (λ now. (_, told, (out, refl), now))

pub returns-else-branch-clause-told : goal.returns-else-branch-clause-told
returns-else-branch-clause-told g c = λ form profile held out written last rises by own.
    let same = c.is_new.ensures.same (c.in_ok-is_new.was ∙ ap (λ b. Ok b) c.if-branch.false) in
    let told = tells_same out c.args.last.now c.args.verdict.now same.0 profile last rises by own same.1 same.2 in
    (out, told.0, told.1, written)

pub returns-in_err-is_new-clause-front : goal.returns-in_err-is_new-clause-front
returns-in_err-is_new-clause-front g c = λ form profile held out written.
    stops_so _ (λ found. WritesFront (IsTextOfSome form) held (g.W.Sink.held c.args.writer.now)) c.from_residual.result c.in_err-is_new.field-0.0 c.from_residual.ensures
    (front_of_some form profile held _ out c.args.written.now written)
