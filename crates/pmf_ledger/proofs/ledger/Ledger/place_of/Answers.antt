use Rattle.std.proofs.{Common.{◌≡◌, ℕ, ◌+◌, ◌-◌, ◌/◌, ◌<◌, ◌≤◌, List, ◌∙◌, sym, ap, subst, arith, get_or}, lemmas.Grind.{common_steps}}
use Rattle.pmf_event.specs.declared.name.Name.{Name}
use Rattle.pmf_verdict.specs.Checked.{Checked}
use Rattle.pmf_ledger.{specs.LedgerValue.{LedgerValue}, specs.Names.{IsBefore, Rises}, proofs.lemmas.NameLemmas.{before-unless_less}, proofs.lemmas.PlaceLemmas.{Window, Window-up, Window-down}, proofs.ledger.Ledger.place_of.Goals.{in-Less, in_default}}
use Rattle.pmf_ledger.proofs.ledger.Ledger.place_of.Goals as goal

-- the middle of what is left
settled : (sections : List Checked) (name : Name) (low high : ℕ) → Window sections name low high →
    record { window : Window sections name low high; reach : low ≤ low + (high - low) / 2; inside : low < high → low + (high - low) / 2 < high }
settled sections name low high window = grind (arith, common_steps)

pub loop-low-preserved : goal.loop-low-preserved
loop-low-preserved c =
    let sections = c.args.self.now.sections in let same : sections ≡ c.self.inside.verdicts.items = ap (λ (v : LedgerValue). v.sections) (sym c.self.view_is) in
    let rises : Rises sections = subst Rises (sym same) c.self.invariant.0 in let x = c.index.result.now in
    let is : x ≡ get_or sections c.loop-low.middle x = c.index.ensures ∙ ap (λ xs. get_or xs c.loop-low.middle x) (sym same) in let so_far = c.loop-low.invariant in
    elim c.match-order.branch [
      | in-Less w ↦
          let here = subst (λ n. IsBefore n c.args.name) c.name.ensures (c.order.ensures.less w.in-Less.is) in
          let up = Window-up sections c.args.name _ _ _ x rises so_far.window (so_far.inside c.loop-low-test.true) is here in
          settled _ _ c.match-order.low c.match-order.high (rw (w.low-is, w.high-is) up)
      | in_default w ↦
          let here = before-unless_less c.name.result c.args.name c.order.result w.in_default.not-Less c.order.ensures.equal c.order.ensures.greater in
          let down = Window-down sections c.args.name _ _ _ x rises so_far.window so_far.reach (so_far.inside c.loop-low-test.true) is (λ before. here (subst (λ n. IsBefore n c.args.name) (sym c.name.ensures) before)) in
          settled _ _ c.match-order.low c.match-order.high (rw (w.low-is, w.high-is) down)
    ]
