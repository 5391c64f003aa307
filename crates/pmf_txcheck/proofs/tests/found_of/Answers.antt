use Rattle.std.proofs.{Common.{◌≡◌, suc, ◌+◌, length, refl, sym, add-one, arith, Some}, lemmas.Option.{slice_get_read}}
use Rattle.pmf_event.specs.Store.{event_at}
use Rattle.pmf_shadow.proofs.StandsLemmas.{follows-within, stands-fences}
use Rattle.pmf_txcheck.proofs.TrackLemmas.{follows-within as tracks-within}
use Rattle.pmf_txcheck.proofs.tests.found_of.Goals as goal

pub loop-index-init : goal.loop-index-init
loop-index-init g c = record {
  stands = c.new-shadow.ensures (λ k. k) c.args.events.now;
  tracks = c.new-state.ensures (λ k. k) c.args.events.now;
}

pub follow-requires : goal.follow-requires
follow-requires g c = let few = stands-fences _ (λ k. k) c.args.events.now c.loop-index.index c.loop-index.invariant.stands in omega arith

pub loop-index-preserved : goal.loop-index-preserved
unfolding event_at
loop-index-preserved g c =
    let es = c.args.events.now in
    let i = c.loop-index.index in
    let here : event_at es (suc i) ≡ Some c.index-events-index.result = slice_get_read es (length es) i c.index-events-index.result refl (omega arith) c.index-events-index.is in
    record {
      stands = rw add-one (follows-within (i + 1) _ _ _ c.in_ok-follow.ensures.follows (λ k. k) es i here (sym (add-one i)) c.loop-index.invariant.stands);
      tracks = rw add-one (tracks-within (i + 1) _ _ _ c.in-Ok.ensures (λ k. k) es i here (sym (add-one i)) c.loop-index.invariant.tracks);
    }
