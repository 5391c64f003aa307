use Rattle.std.proofs.Common.{◌≡◌, refl, sym, ◌∙◌, ap, subst, insert}
use Rattle.pmf_verdict.specs.Checked.{Checked}
use Rattle.pmf_ledger.{specs.LedgerValue.{LedgerValue}, specs.Places.{IsPlaceOf, LacksName}, proofs.lemmas.AddingLemmas.{Rises-insert, All-insert, Gains-insert}}
use Rattle.pmf_ledger.proofs.ledger.Ledger.add.Goals as goal

pub invariant_of-self-2 : goal.invariant_of-self-2
invariant_of-self-2 c =
    let items = c.self.inside.verdicts.items in let same : c.args.self.now.sections ≡ items = ap (λ (v : LedgerValue). v.sections) (sym c.self.view_is) in
    let by : c.args.self.now.profile ≡ c.self.inside.profile = ap (λ (v : LedgerValue). v.profile) (sym c.self.view_is) in let v = c.args.verdict in
    let place = subst (λ xs. IsPlaceOf xs v.section.name c.args.place) same c.requires.place in let absent = subst (λ xs. LacksName xs v.section.name) same c.requires.absent in
    let is = rw c.in_default.is at c.insert.ensures.items in
    rw is (
      Rises-insert items c.args.place v c.self.invariant.0 place absent,
      All-insert (λ (x : Checked). x.profile ≡ c.self.inside.profile) items c.args.place v (c.requires.profile ∙ by) c.self.invariant.1,
    )

pub returns-clause-added : goal.returns-clause-added
returns-clause-added c =
    let same = ap (λ (v : LedgerValue). v.sections) (sym c.self.view_is) in
    let is = rw c.in_default.is at c.insert.ensures.items in (
      refl,
      Gains-insert c.args.self.now _ c.args.place c.args.verdict c.requires.profile
          (ap (λ (v : LedgerValue). v.profile) c.self.view_is) (is ∙ ap (λ xs. insert xs c.args.place c.args.verdict) (sym same)),
    )

pub returns-clause-rises : goal.returns-clause-rises
returns-clause-rises c =
    let items = c.self.inside.verdicts.items in let same : c.args.self.now.sections ≡ items = ap (λ (v : LedgerValue). v.sections) (sym c.self.view_is) in let v = c.args.verdict in
    let place = subst (λ xs. IsPlaceOf xs v.section.name c.args.place) same c.requires.place in let absent = subst (λ xs. LacksName xs v.section.name) same c.requires.absent in
    rw (rw c.in_default.is at c.insert.ensures.items) (Rises-insert items c.args.place v c.self.invariant.0 place absent)
