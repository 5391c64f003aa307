use Rattle.std.proofs.Common.{◌≡◌, ◌∷◌, [], map, get_or, sym, ◌∙◌, ap}
use Rattle.pmf_event.specs.{Section.{Trace}, declared.name.Name.{Name}}
use Rattle.pmf_stream.proofs.lemmas.BesideLemmas.{finishes, one_mapped}
use Rattle.pmf_stream.proofs.beside.Beside.finish.Goals as goal

pub finish-requires : goal.finish-requires
finish-requires c =
    let (profile, run, bytes, is, whole) = c.requires in
    let sections = c.args.sections.now in
    let checked = c.index-sections-0.result in
    let cloned = c.index-sections-0-2.result in
    let of_checked = one_mapped (λ s. s.value) sections checked c.if-sections-ne1.false c.index-sections-0.is in
    let of_cloned = one_mapped (λ s. s.value) sections cloned c.if-sections-ne1.false c.index-sections-0-2.is in
    let same : cloned.value ≡ checked.value = ap (λ list. get_or list 0 cloned.value) (sym of_cloned ∙ of_checked) in
    finishes profile run bytes c.args.self c.in-Going.number c.in-Going.checker (map (λ s. s.value) sections) c.in-Ok.section.value is c.in-Going.is whole
    (of_cloned ∙ ap (λ s. s ∷ []) (sym c.in-Ok.ensures))
    (ap (λ (s : Trace). s.name.number) (c.in-Ok.ensures ∙ same ∙ sym c.deref.ensures) ∙ ap (λ (n : Name). n.number) (sym c.name.ensures) ∙ c.if-name-number.false)
