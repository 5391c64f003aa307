use Rattle.std.proofs.Common.{◌≡◌, ℕ, List, Some, Contains, sym, subst, ◌∙◌}
use Rattle.pmf_event.specs.Section.{Trace}
use Rattle.pmf_why.{specs.Patching.{IsPatch, IsPatchOf, IsWell}, proofs.PatchLemmas.{made_so}, proofs.SectionLemmas.{missing, named_there}}
use Rattle.pmf_why.proofs.patch.try_patch.Goals as goal

pub returns-then-not-has_asked : goal.returns-then-not-has_asked
returns-then-not-has_asked c =
    let none = missing (λ s. s.value) c.args.asked.section c.sections.result.now (sym c.has_asked.ensures ∙ c.if-not-has_asked.true) in
    (c.in-Ok.read, c.in-Ok.ensures, (none.0, none.1, λ t found same. none.2 t (subst (λ (ts : List Trace). Contains ts t) (sym c.sections.ensures) found) same))

pub returns : goal.returns
returns c =
    let asked = c.args.asked in
    let named = subst (λ ts. (number : ℕ) → asked.section ≡ Some number → (t : Trace) × Contains ts t × (t.name.number ≡ number)) c.sections.ensures
    (named_there (λ s. s.value) asked.section c.sections.result.now (sym c.has_asked.ensures ∙ c.if-not-has_asked.false)) in
    made_so (λ text. text.items) c.in_ok-made.made (IsWell asked c.args.log.now) (IsPatchOf asked c.in-Ok.read) (IsPatch asked c.args.log.now) (c.in-Ok.read, c.in-Ok.ensures)
    (λ text is. (c.in-Ok.read, c.in-Ok.ensures, named, is)) c.in_ok-made.ensures
