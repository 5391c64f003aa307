use Rattle.std.proofs.Common.{◌≡◌, ◌+◌, ◌&&◌, suc, refl, sym, ap, subst, ◌∙◌, false, length, arith}
use Rattle.pmf_shadow.{specs.Shadow.{FollowsAt, StandsFor}, proofs.StandsLemmas.{follows-within, stands-fences}}
use Rattle.pmf_lint.{specs.Misread.{is_misread, misread_among}, proofs.{MisreadLemmas.{among_here, among_more, among_none}, UpkeepLemmas.{misread_here}}}
use Rattle.pmf_lint.proofs.misread.is_any_misread.Goals as goal

pub loop-index-init : goal.loop-index-init
loop-index-init c = record { place = refl; stands = c.for_walk-shadow.ensures (λ k. k) c.args.events.now; none = among_none c.args.events.now c.args.located.now }

pub returns-then-branch : goal.returns-then-branch
returns-then-branch c =
    let es = c.args.events.now in
    let p = c.loop-index.index in
    let stands = c.settle_for.ensures (λ k. k) es p c.loop-index.invariant.stands in
    let here = misread_here es p c.at-event.result c.at-event.ensures.place in
    let is = sym (c.in_ok-is_misread_here.ensures (λ k. k) es p stands) ∙ c.if-branch.true in
    sym (among_here es c.args.located.now (length es) p (omega (arith, c.loop-index-test.true))
    (ap (λ d. d && is_misread es (suc p)) (sym c.is_decimal_there-decimal.ensures) ∙ ap (λ m. c.is_decimal_there-decimal.result && m) here ∙ is))

pub follow-requires : goal.follow-requires
follow-requires c =
    let stands = c.settle_for.ensures (λ k. k) c.args.events.now c.loop-index.index c.loop-index.invariant.stands in
    let few = stands-fences c.settle_for.new.self (λ k. k) c.args.events.now c.loop-index.index stands in omega (arith, few, c.loop-index-test.true, c.requires)

pub loop-index-preserved : goal.loop-index-preserved
loop-index-preserved c =
    let es = c.args.events.now in
    let p = c.loop-index.index in
    let e = c.at-event.result in
    let next : suc p ≡ p + 1 = omega arith in
    let place : c.loop-index.place + 1 ≡ suc p = omega (arith, c.loop-index.invariant.place) in
    let stands = c.settle_for.ensures (λ k. k) es p c.loop-index.invariant.stands in
    let here = misread_here es p e c.at-event.ensures.place in
    let not_it = sym (c.in_ok-is_misread_here.ensures (λ k. k) es p stands) ∙ c.if-branch.false in record {
      place = omega (arith, c.loop-index.invariant.place);
      stands = subst (StandsFor c.follow.new.self (λ k. k) es) next
          (follows-within (suc p) c.settle_for.new.self c.follow.new.self e (subst (λ n. FollowsAt n c.settle_for.new.self c.follow.new.self e) place c.in_ok-follow.ensures.follows) (λ k. k) es p c.at-event.ensures.place refl stands);
      none = subst (λ n. misread_among es c.args.located.now n ≡ false) next (among_more es c.args.located.now p c.loop-index.invariant.none
          (ap (λ d. d && is_misread es (suc p)) (sym c.is_decimal_there-decimal.ensures) ∙ ap (λ m. c.is_decimal_there-decimal.result && m) here ∙ not_it));
    }
