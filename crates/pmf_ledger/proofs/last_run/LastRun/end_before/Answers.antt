use Rattle.std.proofs.Common.{◌≡◌, ◌++◌, OnOk, string_bytes, sym, ◌∙◌, ap, subst, append-nil}
use Rattle.pmf_ledger.{specs.Telling.{last_run}, proofs.lemmas.TellingLemmas.{between_other, between_same}}
use Rattle.pmf_ledger.proofs.last_run.LastRun.end_before.Goals as goal

pub returns-then-is_of : goal.returns-then-is_of
returns-then-is_of c = λ sections is.
    let text = string_bytes c.args.text.now in
    sym (append-nil text) ∙ ap (λ more. text ++ more) (sym (between_same (last_run sections) c.args.verdict.now (sym is.run ∙ c.is_of.ensures.of c.if-is_of.true)))

pub returns-else-is_of : goal.returns-else-is_of
returns-else-is_of c = λ sections is.
    subst (λ more. OnOk c.end.result (string_bytes c.end.new.text ≡ string_bytes c.args.text.now ++ more))
    (sym (between_other (last_run sections) c.args.verdict.now (λ named. c.is_of.ensures.other c.if-is_of.false (is.run ∙ named)))) (c.end.ensures sections is)
