use Rattle.std.proofs.Common.{◌≡◌, sym, ◌∙◌, ap, subst}
use Rattle.pmf_ledger.{specs.Joining.{Agree, IsMerged}, specs.LedgerValue.{LedgerValue}, proofs.lemmas.JoiningLemmas.{AreBy, AreBy-merged, Unites-merged, agree_checked}}
use Rattle.pmf_ledger.proofs.ledger.Ledger.unite.Goals as goal

pub merge-requires-clause-agree : goal.merge-requires-clause-agree
merge-requires-clause-agree c =
    let a = c.args.self in let b = c.args.other in let by_a : AreBy a.profile a.sections = subst (λ (l : LedgerValue). AreBy l.profile l.sections) c.self.view_is c.self.invariant.1 in
    let by_b : AreBy b.profile b.sections = subst (λ (l : LedgerValue). AreBy l.profile l.sections) c.other.view_is c.other.invariant.1 in
    let agree : Agree a.sections b.sections = agree_checked a b by_a by_b c.requires.profile c.requires.agree in
    subst (λ xs. Agree xs c.other.inside.verdicts.items) (ap (λ (l : LedgerValue). l.sections) (sym c.self.view_is))
    (subst (Agree a.sections) (ap (λ (l : LedgerValue). l.sections) (sym c.other.view_is)) agree)

pub invariant_of-result : goal.invariant_of-result
invariant_of-result c =
    let even : c.other.inside.profile ≡ c.self.inside.profile = ap (λ (l : LedgerValue). l.profile) c.other.view_is ∙ sym c.requires.profile ∙ ap (λ (l : LedgerValue). l.profile) (sym c.self.view_is) in (
      c.merge.ensures.rises,
      AreBy-merged c.self.inside.profile c.self.inside.verdicts.items c.other.inside.verdicts.items c.merge.result.items c.merge.ensures c.self.invariant.1
          (subst (λ p. AreBy p c.other.inside.verdicts.items) even c.other.invariant.1),
    )

pub returns-clause-checked : goal.returns-clause-checked
returns-clause-checked c =
    let even : c.other.inside.profile ≡ c.self.inside.profile = ap (λ (l : LedgerValue). l.profile) c.other.view_is ∙ sym c.requires.profile ∙ ap (λ (l : LedgerValue). l.profile) (sym c.self.view_is) in
    AreBy-merged c.self.inside.profile c.self.inside.verdicts.items c.other.inside.verdicts.items c.merge.result.items c.merge.ensures c.self.invariant.1
    (subst (λ p. AreBy p c.other.inside.verdicts.items) even c.other.invariant.1)

pub returns-clause-unites : goal.returns-clause-unites
returns-clause-unites c =
    let a = c.args.self in let b = c.args.other in Unites-merged a b _ c.requires.profile (ap (λ (l : LedgerValue). l.profile) c.self.view_is)
    (subst (λ xs. IsMerged xs b.sections c.merge.result.items) (ap (λ (l : LedgerValue). l.sections) c.self.view_is)
    (subst (λ ys. IsMerged c.self.inside.verdicts.items ys c.merge.result.items) (ap (λ (l : LedgerValue). l.sections) c.other.view_is) c.merge.ensures))
