use Rattle.std.proofs.{Common.{◌<◌, length, get_or, ◌∙◌, refl, arith}, lemmas.List.{get_or_read}}
use Rattle.pmf_event.specs.Store.{last_store}
use Rattle.pmf_images.{specs.{Horizons.{horizon_of, place_of}, Telling.{ArePlaces}, Walks.{count_at}}, proofs.ShownLemmas.{none, told_places, places_within, horizon-within, place-within, shown_is, shown_more}}
use Rattle.pmf_images.proofs.showing.show_all.Goals as goal

pub tell_all-requires-clause-within : goal.tell_all-requires-clause-within
tell_all-requires-clause-within c =
    let es = c.args.events.now in
    places_within (horizon_of es) c.args.asked.now c.deref.result.now (length es) (rw c.deref.ensures.value c.in_ok-horizons.ensures) (horizon-within es)

pub tell_all-requires-2-clause-within : goal.tell_all-requires-2-clause-within
tell_all-requires-2-clause-within c =
    let es = c.args.events.now in
    places_within (horizon_of es) c.args.asked.now c.deref-2.result.now (length es) (rw c.deref-2.ensures.value c.in_ok-horizons.ensures) (horizon-within es)

pub tell_all-requires-3-clause-within : goal.tell_all-requires-3-clause-within
tell_all-requires-3-clause-within c =
    let es = c.args.events.now in
    places_within (place_of es) c.args.asked.now c.deref-3.result.now (length es) (rw c.deref-3.ensures.value c.in_ok-places.ensures) (place-within es)

pub loop-index-preserved : goal.loop-index-preserved
loop-index-preserved c =
    let es = c.args.events.now in
    let asked = c.args.asked.now in
    let i = c.loop-index.index in
    let less : i < length asked = c.loop-index-test.true in
    let a = get_or asked i none in
    let horizons : ArePlaces (horizon_of es) asked c.deref.result.now = rw c.deref.ensures.value c.in_ok-horizons.ensures in
    let horizons2 : ArePlaces (horizon_of es) asked c.deref-2.result.now = rw c.deref-2.ensures.value c.in_ok-horizons.ensures in
    let places : ArePlaces (place_of es) asked c.deref-3.result.now = rw c.deref-3.ensures.value c.in_ok-places.ensures in
    let cuts = told_places (count_at es) (horizon_of es) asked c.deref.result.now c.in_ok-cuts.cuts.items horizons c.in_ok-cuts.ensures in
    let shows = told_places (last_store es) (horizon_of es) asked c.deref-2.result.now c.in_ok-shows.shows.items horizons2 c.in_ok-shows.ensures in
    let lasts = told_places (last_store es) (place_of es) asked c.deref-3.result.now c.in_ok-lasts.lasts.items places c.in_ok-lasts.ensures in
    let cut = get_or_read c.in_ok-cuts.cuts.items i c.index.result.now (omega (arith, cuts.long)) c.index.ensures 0 in
    let show = get_or_read c.in_ok-shows.shows.items i c.index-in-loop-index.result.now (omega (arith, shows.long)) c.index-in-loop-index.ensures 0 in
    let last = get_or_read c.in_ok-lasts.lasts.items i c.index-in-loop-index-2.result.now (omega (arith, lasts.long)) c.index-in-loop-index-2.ensures 0 in
    shown_more es asked i c.loop-index.shown.items c.push.new.self.items _ less c.in_ok-push.ensures.items
    (shown_is es a c.index.result.now c.index-in-loop-index.result.now c.index-in-loop-index-2.result.now (cut ∙ cuts.each i none less) (show ∙ shows.each i none less) (last ∙ lasts.each i none less) _ refl refl refl)
    c.loop-index.invariant

pub tell_all-requires-clause-starts : goal.tell_all-requires-clause-starts
tell_all-requires-clause-starts c = c.in_ok-new.ensures.none c.args.events.now
