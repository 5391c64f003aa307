use Rattle.std.proofs.Common.{refl, suc, ◌+◌, ◌≡◌, ap, subst, length, arith}
use Rattle.pmf_lint.{specs.Upkeep.{HasWalkedOver}}
use Rattle.pmf_lint.proofs.upkeep.Walk.over.Goals as goal

pub loop-index-init : goal.loop-index-init
loop-index-init c = record { place = refl; walked = c.new-walk.ensures c.args.events.now }

pub loop-index-preserved : goal.loop-index-preserved
loop-index-preserved c =
    let k = c.loop-index.index in
    let place = c.loop-index.invariant.place in
    let next : suc c.loop-index.index ≡ c.loop-index.index + 1 = omega arith in record {
      place = ap (λ n. n + 1) place;
      walked = subst (HasWalkedOver c.follow.new.self c.args.events.now) next
          (c.in_ok-follow.ensures c.args.events.now c.loop-index.index (c.in_ok-settle_for.ensures c.args.events.now c.loop-index.index c.loop-index.invariant.walked)
          c.at-event.ensures.place (omega (arith, place)));
    }

pub returns : goal.returns
returns c =
    let end : c.loop-index.index ≡ length c.args.events.now = omega arith in
    c.in_ok-settle.ensures c.args.events.now (length c.args.events.now) (subst (HasWalkedOver c.loop-index.walk c.args.events.now) end c.loop-index.invariant.walked)
