use Rattle.std.proofs.Common.{◌≡◌, ◌∙◌, ap, subst, MatchOption}
use Rattle.pmf_ledger.{specs.Joining.{AgreeInNames, IsLeastDiffering}, specs.LedgerValue.{LedgerValue}, proofs.lemmas.JoiningLemmas.{AreBy, clash_found}}
use Rattle.pmf_ledger.proofs.ledger.Ledger.least_clash.Goals as goal

pub returns : goal.returns
returns c =
    let a = c.args.self.now in let b = c.args.other.now in let found = c.least_differing.result in
    let first : c.deref.result.now ≡ a.sections = c.deref.ensures.value ∙ ap (λ (l : LedgerValue). l.sections) c.self.view_is in
    let second : c.deref-2.result.now ≡ b.sections = c.deref-2.ensures.value ∙ ap (λ (l : LedgerValue). l.sections) c.other.view_is in
    let by_a : AreBy a.profile a.sections = subst (λ (l : LedgerValue). AreBy l.profile l.sections) c.self.view_is c.self.invariant.1 in
    let by_b : AreBy b.profile b.sections = subst (λ (l : LedgerValue). AreBy l.profile l.sections) c.other.view_is c.other.invariant.1 in clash_found a b by_a by_b found
    (subst (λ xs. MatchOption found (AgreeInNames xs b.sections) (IsLeastDiffering xs b.sections)) first
    (subst (λ ys. MatchOption found (AgreeInNames c.deref.result.now ys) (IsLeastDiffering c.deref.result.now ys)) second c.least_differing.ensures))
