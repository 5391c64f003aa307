use Rattle.std.proofs.Common.{◌≡◌, map, refl, sym, ◌∙◌, ap, subst, All}
use Rattle.pmf_event.specs.declared.profile.Profile.TheVariants.{Two}
use Rattle.pmf_verdict.specs.Checked.{Checked}
use Rattle.pmf_ledger.{specs.Gathered.{upgraded}, specs.LedgerValue.{LedgerValue}, specs.Names.{Rises}, proofs.lemmas.UpgradeLemmas.{All-upgraded, IsUpgradeOf-itself, IsUpgradeOf-upgraded, Rises-upgraded}}
use Rattle.pmf_ledger.proofs.ledger.Ledger.upgrade.Goals as goal

pub returns-in-Two : goal.returns-in-Two
returns-in-Two c =
    let rises = subst (λ (l : LedgerValue). Rises l.sections) c.self.view_is c.self.invariant.0 in
    let checked = subst (λ (l : LedgerValue). All (λ (v : Checked). v.profile ≡ l.profile) l.sections) c.self.view_is c.self.invariant.1 in
    let by : c.args.self.profile ≡ Two = ap (λ (l : LedgerValue). l.profile) (sym c.self.view_is) ∙ c.in-Two.is in IsUpgradeOf-itself c.args.self by rises checked

pub invariant_of-result : goal.invariant_of-result
invariant_of-result c = let items = c.self.inside.verdicts.items in rw (c.in-Ok.ensures, c.deref.ensures.value) (Rises-upgraded items c.self.invariant.0, All-upgraded items)

pub returns-in-Ok : goal.returns-in-Ok
returns-in-Ok c =
    let rises = subst (λ (l : LedgerValue). Rises l.sections) c.self.view_is c.self.invariant.0 in
    let checked = subst (λ (l : LedgerValue). All (λ (v : Checked). v.profile ≡ l.profile) l.sections) c.self.view_is c.self.invariant.1 in
    IsUpgradeOf-upgraded c.args.self _ refl (c.in-Ok.ensures ∙ ap (map upgraded) (c.deref.ensures.value ∙ ap (λ (l : LedgerValue). l.sections) c.self.view_is)) rises checked
    (λ by. let own : c.self.inside.profile ≡ Two = ap (λ (l : LedgerValue). l.profile) c.self.view_is ∙ by in absurd (c.in_default.not-Two own))
