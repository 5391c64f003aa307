use Rattle.std.proofs.{Common.{◌≡◌, ◌<◌, ◌+◌, length, get_or, ap, ◌∙◌, arith}, lemmas.List.{get_or_default, get_or_read, length_push}}
use Rattle.pmf_images.{specs.{Horizons.{crash_of, fence_of, flush_of, horizon_of}, Telling.{ArePlaces}, Walks.{last_fence, last_flush}}, proofs.ShownLemmas.{none, horizon_from, told_places, places_within, crash-within, fence-within, place_more}}
use Rattle.pmf_images.proofs.showing.horizons.Goals as goal

pub tell_all-requires-clause-within : goal.tell_all-requires-clause-within
tell_all-requires-clause-within c =
    let es = c.args.events.now in
    places_within (crash_of es) c.args.asked.now c.deref.result.now (length es) (rw c.deref.ensures.value c.in_ok-crashes.ensures) (crash-within es)

pub tell_all-requires-2-clause-within : goal.tell_all-requires-2-clause-within
tell_all-requires-2-clause-within c =
    let es = c.args.events.now in
    let crashes : ArePlaces (crash_of es) c.args.asked.now c.deref.result.now = rw c.deref.ensures.value c.in_ok-crashes.ensures in
    places_within (fence_of es) c.args.asked.now c.deref-2.result.now (length es)
    (rw c.deref-2.ensures.value (told_places (last_fence es) (crash_of es) c.args.asked.now c.deref.result.now c.in_ok-fences.fences.items crashes c.in_ok-fences.ensures)) (fence-within es)

pub loop-index-preserved : goal.loop-index-preserved
loop-index-preserved c =
    let es = c.args.events.now in
    let asked = c.args.asked.now in
    let i = c.loop-index.index in
    let less : i < length asked = c.loop-index-test.true in
    let items = c.in_ok-push.ensures.items in
    let old = c.loop-index.invariant in
    let crashes : ArePlaces (crash_of es) asked c.deref.result.now = rw c.deref.ensures.value c.in_ok-crashes.ensures in
    let fences : ArePlaces (fence_of es) asked c.deref-2.result.now =
    rw c.deref-2.ensures.value (told_places (last_fence es) (crash_of es) asked c.deref.result.now c.in_ok-fences.fences.items crashes c.in_ok-fences.ensures) in
    let flushes : ArePlaces (flush_of es) asked c.in_ok-flushes.flushes.items =
    told_places (last_flush es) (fence_of es) asked c.deref-2.result.now c.in_ok-flushes.flushes.items fences c.in_ok-flushes.ensures in
    let crash = get_or_read c.deref.result.now i c.index.result.now (omega (arith, crashes.long)) (rw c.deref.ensures.value c.index.ensures) 0 in
    let flush = get_or_read c.in_ok-flushes.flushes.items i c.index-in-loop-index.result.now (omega (arith, flushes.long)) c.index-in-loop-index.ensures 0 in
    let own : c.horizon.result ≡ horizon_of es (get_or asked i none) =
    horizon_from es (get_or asked i none) c.index.result.now c.index-in-loop-index.result.now c.horizon.result (crash ∙ crashes.each i none less) (flush ∙ flushes.each i none less) c.horizon.ensures in
    record {
      long = ap length items ∙ length_push c.loop-index.horizons.items c.horizon.result ∙ (let more : length c.loop-index.horizons.items + 1 ≡ i + 1 = let long = old.long in omega arith in more);
      each = place_more (horizon_of es) asked i c.horizon.result c.loop-index.horizons.items c.push.new.self.items old.long items
          (λ a. own ∙ ap (horizon_of es) (get_or_default asked i none a less)) old.each;
    }
