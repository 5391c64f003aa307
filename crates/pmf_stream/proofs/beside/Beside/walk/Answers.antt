use Rattle.std.proofs.Common.{sym, subst}
use Rattle.pmf_event.specs.declared.name.Name.{Name}
use Rattle.pmf_verdict.specs.Partly.{HasChecked, IsFrontOf}
use Rattle.pmf_stream.{specs.Beside.{IsBeside}, proofs.lemmas.BesideLemmas.{all_of_it}}
use Rattle.pmf_stream.specs.declared.beside.Beside.TheVariants as beside
use Rattle.pmf_stream.proofs.beside.Beside.walk.Goals as goal

pub returns-in-Ok : goal.returns-in-Ok
returns-in-Ok c = λ profile es run bytes has front only.
    let events = c.events.ensures.value in
    let checked = subst (λ xs. HasChecked profile xs c.in-Ok.checker) events (c.in-Ok.ensures profile es has (subst (IsFrontOf es) (sym events) front)) in
    subst (λ (name : Name). IsBeside profile bytes (beside.Going name.number c.in-Ok.checker)) (sym c.name.ensures) (all_of_it profile run bytes c.args.section.now c.in-Ok.checker only checked)
