use Rattle.std.proofs.{Common.{◌++◌, ◌∷◌, [], ◌∙◌, flat_map, string_bytes, take, ap, sym, subst}, lemmas.Option.{get_or_from_slice_get, slice_get_within}, lemmas.List.{flat_map_more, take_more}, lemmas.List.Elements.{All-more}}
use Rattle.pmf_storelog.specs.{Canonical.{line_of_event}, Spelling.{AllValid}}
use Rattle.pmf_ledger.proofs.writing.push_events.Goals as goal

pub loop-index-preserved : goal.loop-index-preserved
loop-index-preserved c =
    let es = c.args.events.now in
    let i = c.loop-index.index in
    let e = c.at.result in
    let within = slice_get_within es i e c.at.ensures.value in
    let is = get_or_from_slice_get es i e e c.at.ensures.value in
    let front = string_bytes c.args.text.now in record {
      text = c.in_ok-push_event.ensures.text
          ∙ ap (λ bs. bs ++ line_of_event e) c.loop-index.invariant.text
          ∙ flat_map_more line_of_event front (take i es) e
          ∙ ap (λ es. front ++ flat_map line_of_event es) (sym (take_more es i e within ∙ ap (λ x. take i es ++ x ∷ []) is));
      valid = All-more AllValid es i e within c.loop-index.invariant.valid (subst AllValid (sym is) c.in_ok-push_event.ensures.valid);
    }
