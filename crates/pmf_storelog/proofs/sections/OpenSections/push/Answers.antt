use Rattle.std.proofs.Common.{◌≡◌, ◌++◌, [], ◌∷◌, set, refl, ap, ◌∙◌}
use Rattle.pmf_event.specs.Section.{Trace}
use Rattle.pmf_storelog.{specs.LogText.{section_named}, proofs.SectionLemmas.{taken, current_stands}}
use Rattle.pmf_storelog.proofs.sections.OpenSections.push.Goals as goal

pub returns-in-Ok-clause-ok : goal.returns-in-Ok-clause-ok
returns-in-Ok-clause-ok c = λ run numbers events current has.
    let its : c.index_mut.result.now ≡ section_named run current (events current) = c.index_mut.ensures.value ∙ (current_stands run numbers events current c.args.self.now has c.requires).1 _ in
    let pushed : c.push.new.self ≡ section_named run current (events current ++ c.args.event ∷ []) =
    c.in-Ok.ensures.ok ∙ ap (λ (t : Trace). record t { events = t.events ++ c.args.event ∷ [] }) its in
    taken run numbers events current c.args.self.now has (c.args.event ∷ []) _ c.requires refl refl refl (ap (set c.args.self.now.sections.items c.args.self.now.current) pushed)
