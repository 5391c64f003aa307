use Rattle.std.proofs.{Common.{◌≡◌, sym, ◌∙◌, ap, subst, get_or, IsTrue, false}, lemmas.List.{get_or_default}}
use Rattle.pmf_verdict.specs.Checked.{Checked}
use Rattle.pmf_ledger.{specs.LedgerValue.{LedgerValue}, specs.Names.{Rises}, proofs.lemmas.PlaceLemmas.{LacksName-from_place}}
use Rattle.pmf_ledger.proofs.ledger.Ledger.find.Goals as goal

pub returns-else-is_same : goal.returns-else-is_same
returns-else-is_same c =
    let sections = c.args.self.now.sections in let same : sections ≡ c.self.inside.verdicts.items = ap (λ (v : LedgerValue). v.sections) (sym c.self.view_is) in
    let rises : Rises sections = subst Rises (sym same) c.self.invariant.0 in let k = c.place_of-place.result in let x = c.index-held.result.now in
    let is : x ≡ get_or sections k x = c.index-held.ensures ∙ ap (λ xs. get_or xs k x) (sym same) in (
      c.place_of-place.ensures,
      LacksName-from_place sections c.args.name k rises c.place_of-place.ensures (λ d inside held.
          let read = c.name.ensures ∙ ap (λ (v : Checked). v.section.name) (is ∙ get_or_default sections k x d inside) ∙ held in
          let wrong : IsTrue false = subst IsTrue c.if-is_same.false (c.is_same.ensures.1 read) in cc),
    )
