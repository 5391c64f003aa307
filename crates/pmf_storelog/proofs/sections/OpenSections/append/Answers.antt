use Rattle.std.proofs.{Common.{◌≡◌, ◌≢◌, ℕ, List, [], ◌∷◌, length, refl, arith}, lemmas.Grind.{common_steps}}
use Rattle.pmf_event.specs.declared.event.Event.{Event}
use Rattle.pmf_storelog.{specs.Ahead.{with_number_of}, specs.Rising.{with_number}, specs.Sections.{Opens}, proofs.SectionLemmas.{first_begun, first_ok}, proofs.sections.OpenSections.append.Goals.{then-is_empty-2+in_ok-open, else-is_empty-2}}
use Rattle.pmf_storelog.proofs.sections.OpenSections.append.Goals as goal

some_number : (numbers : List ℕ) (current : ℕ) (events : List Event) → length events ≢ 0 → with_number_of numbers current events ≡ with_number numbers current
some_number numbers current [] some = absurd (some refl)
some_number numbers current (event ∷ events) some = refl

pub returns : goal.returns
returns c = λ run numbers events current has.
    let some : length c.args.more.events ≢ 0 = grind (arith, common_steps) in
    rw (some_number numbers current c.args.more.events some) (elim c.if-is_empty-2.branch [
      | then-is_empty-2+in_ok-open w ↦
          let empty : length c.args.self.now.sections.items ≡ 0 = grind (arith, common_steps) in let opens : Opens 0 c.args.self.now c.if-is_empty-2.self = rw w.self-is w.in_ok-open.ensures.ok in
          first_ok run numbers events current c.args.self.now c.if-is_empty-2.self has empty opens c.args.more.events _ _
          (c.append_here.ensures run _ _ _ (first_begun run numbers events current c.args.self.now has c.if-is_empty-2.self empty opens))
      | else-is_empty-2 w ↦ c.append_here.ensures run numbers events current (rw w.self-is has)
    ])
