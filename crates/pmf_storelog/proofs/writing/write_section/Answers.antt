use Rattle.std.proofs.{Common.{◌∙◌, ◌++◌, ◌∷◌, [], sym, ap, subst, take, flat_map}, lemmas.Option.{get_or_from_slice_get, slice_get_within}, lemmas.List.{take_more, flat_map_more}, lemmas.List.Elements.{All-more}}
use Rattle.pmf_storelog.specs.{Canonical.{line_of_event, line_of_marker}, Spelling.{AllValid}}
use Rattle.pmf_storelog.proofs.writing.write_section.Goals as goal

pub loop-index-preserved : goal.loop-index-preserved
loop-index-preserved c =
    let es = c.events-events.result.now in
    let i = c.loop-index.index in
    let e = c.at.result in
    let within = slice_get_within es i e c.at.ensures.value in
    let is = get_or_from_slice_get es i e e c.at.ensures.value in
    let head = line_of_marker c.args.section.now.name.number in (
      c.in_ok-push_event.ensures.text
          ∙ ap (λ bs. bs ++ line_of_event e) c.loop-index.invariant.0
          ∙ flat_map_more line_of_event head (take i es) e
          ∙ ap (λ es. head ++ flat_map line_of_event es) (sym (take_more es i e within ∙ ap (λ x. take i es ++ x ∷ []) is)),
      All-more AllValid es i e within c.loop-index.invariant.1 (subst AllValid (sym is) c.in_ok-push_event.ensures.valid),
    )
