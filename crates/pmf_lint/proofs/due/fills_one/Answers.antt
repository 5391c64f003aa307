use Rattle.std.proofs.Common.{◌≡◌, suc, ◌+◌, true, Some, not, ◌&&◌, length, refl, sym, ap, subst, ◌∙◌, arith}
use Rattle.pmf_event.{specs.Places.{count}, specs.Store.{at}, proofs.PlacesLemmas.{count-zero}}
use Rattle.pmf_shadow.{specs.Shadow.{FollowsAt, StandsFor}, proofs.StandsLemmas.{follows-within, stands-fences}}
use Rattle.pmf_lint.{specs.Misread.{is_unmet}, specs.Summing.{asserts}, proofs.DueLemmas.{both_hold, filled_from, filled_here, filled_nowhere, lacking, lacks_as, none_here}, proofs.EmptyLemmas.{unmet_here}}
use Rattle.pmf_lint.proofs.due.fills_one.Goals as goal

pub loop-index-init : goal.loop-index-init
loop-index-init c = record { place = refl; stands = c.for_walk-shadow.ensures (λ k. k) c.args.events.now; none = count-zero (is_unmet c.args.events.now) ∙ sym (count-zero (at asserts c.args.events.now)) }

pub follow-requires : goal.follow-requires
follow-requires c =
    let stands = c.settle_for.ensures (λ k. k) c.args.events.now c.loop-index.index c.loop-index.invariant.stands in
    let few = stands-fences c.settle_for.new.self (λ k. k) c.args.events.now c.loop-index.index stands in omega (arith, few, c.loop-index-test.true, c.requires)

pub returns-then-both : goal.returns-then-both
returns-then-both c =
    let es = c.args.events.now in
    let p = c.loop-index.index in
    let e = c.at-event.result in
    let stands = c.settle_for.ensures (λ k. k) es p c.loop-index.invariant.stands in
    let here = c.at-event.ensures.place in
    let is = unmet_here c.settle_for.new.self es p e c.lacks_bytes-unmet.result _ refl here stands c.lacks_bytes-unmet.ensures in
    let parts = both_hold (asserts e) c.lacks_bytes-unmet.result (ap (λ b. b && not c.lacks_bytes-unmet.result) (sym c.asserts.ensures) ∙ sym c.both.ensures ∙ c.if-both.true) in
    filled_from es (suc p) (omega (arith, c.loop-index-test.true)) (filled_here es p e c.lacks_bytes-unmet.result here is c.loop-index.invariant.none parts.0 parts.1)

pub loop-index-preserved : goal.loop-index-preserved
loop-index-preserved c =
    let es = c.args.events.now in
    let p = c.loop-index.index in
    let e = c.at-event.result in
    let unmet = c.lacks_bytes-unmet.result in
    let next : suc p ≡ p + 1 = omega arith in
    let place : c.loop-index.place + 1 ≡ suc p = omega (arith, c.loop-index.invariant.place) in
    let stands = c.settle_for.ensures (λ k. k) es p c.loop-index.invariant.stands in
    let here = c.at-event.ensures.place in
    let is = unmet_here c.settle_for.new.self es p e unmet _ refl here stands c.lacks_bytes-unmet.ensures in
    let so = λ (one : unmet ≡ true). lacking es p (Some e) (sym (c.lacks_bytes-unmet.ensures (λ k. k) es p stands) ∙ one) in
    let same = lacks_as (asserts e) unmet so (ap (λ b. b && not unmet) (sym c.asserts.ensures) ∙ sym c.both.ensures ∙ c.if-both.false) in record {
      place = omega (arith, c.loop-index.invariant.place);
      stands = subst (StandsFor c.follow.new.self (λ k. k) es) next
          (follows-within (suc p) c.settle_for.new.self c.follow.new.self e (subst (λ n. FollowsAt n c.settle_for.new.self c.follow.new.self e) place c.in_ok-follow.ensures.follows) (λ k. k) es p here refl stands);
      none = subst (λ n. count (is_unmet es) n ≡ count (at asserts es) n) next (none_here es p e unmet here is c.loop-index.invariant.none same);
    }

pub returns : goal.returns
returns c =
    let es = c.args.events.now in
    let end : c.loop-index.index ≡ length es = omega arith in
    filled_nowhere es (subst (λ n. count (is_unmet es) n ≡ count (at asserts es) n) end c.loop-index.invariant.none)
