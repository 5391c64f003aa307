use Rattle.std.proofs.Common.{◌≡◌, ℕ, ap, sym, subst, ◌∙◌}
use Rattle.pmf_query.specs.Locating.{AreLocations}
use Rattle.pmf_why.{specs.Reasons.{is_asked}, proofs.SectionLemmas.{passed_by, taken_up}}
use Rattle.pmf_why.proofs.taking.Telling.meet.Goals as goal

pub returns-then-not-is_number_asked-clause-parts : goal.returns-then-not-is_number_asked-clause-parts
returns-then-not-is_number_asked-clause-parts c = λ asked bytes sections stands has.
    let at : c.name-number.result.number ≡ c.args.section.now.value.name.number = ap (λ n. n.number) c.name-number.ensures ∙ ap (λ s. s.name.number) c.deref.ensures in
    passed_by asked bytes sections c.args.section.now.value c.args.self.now has (ap (is_asked c.args.self.now.asked.section) (sym at) ∙ sym c.is_number_asked.ensures ∙ c.if-not-is_number_asked.true)

pub returns-clause-parts : goal.returns-clause-parts
returns-clause-parts c = λ asked bytes sections stands has.
    let at : c.name-number.result.number ≡ c.args.section.now.value.name.number = ap (λ n. n.number) c.name-number.ensures ∙ ap (λ s. s.name.number) c.deref.ensures in
    taken_up asked bytes sections c.args.section.now.value c.args.self.now has (ap (is_asked c.args.self.now.asked.section) (sym at) ∙ sym c.is_number_asked.ensures ∙ c.if-not-is_number_asked.false)
    c.take.result _ (c.take.ensures.parts asked bytes _ (subst (λ (n : ℕ). AreLocations bytes n c.in_section.result.now) at (c.in_section.ensures bytes stands)) has)
