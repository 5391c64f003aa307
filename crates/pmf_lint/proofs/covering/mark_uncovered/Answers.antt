use Rattle.std.proofs.{Common.{◌≡◌, ◌-◌, ◌<◌, suc, length, ◌∙◌, subst, arith}, lemmas.List.{length-set}}
use Rattle.pmf_lint.{specs.Covering.{is_inside, is_uncovered, StandsAfter}, proofs.CoverLemmas.{kept_before, marked_from}}
use Rattle.pmf_lint.proofs.covering.mark_uncovered.Goals as goal

pub loop-left-preserved : goal.loop-left-preserved
loop-left-preserved c =
    let within = c.loop-left.invariant.within in
    let less : c.loop-left.left - 1 < length c.args.events.now = omega arith in
    let next : c.loop-left.left ≡ suc (c.loop-left.left - 1) = omega arith in
    let here = c.at-event.ensures.place in
    let after : StandsAfter c.loop-left.later c.args.events.now (suc (c.loop-left.left - 1)) = subst (StandsAfter c.loop-left.later c.args.events.now) next c.loop-left.invariant.later in
    let inside : c.index.result.now ≡ is_inside c.args.events.now (suc (c.loop-left.left - 1)) = c.index.ensures ∙ c.loop-left.invariant.inside (c.loop-left.left - 1) c.index.result.now (omega (arith, next)) in
    let miss = c.misses-missed.ensures c.args.events.now (c.loop-left.left - 1) here inside after in
    record {
      within = omega arith;
      long = length-set c.loop-left.marks.items (c.loop-left.left - 1) c.misses-missed.result ∙ c.loop-left.invariant.long;
      later = c.in_ok-follow.ensures c.args.events.now (c.loop-left.left - 1) here less after;
      inside = λ k d before. kept_before c.loop-left.marks.items (c.loop-left.left - 1) k c.misses-missed.result d before ∙ c.loop-left.invariant.inside k d (omega (arith, before));
      marked = marked_from (is_uncovered c.args.events.now) c.loop-left.marks.items (c.loop-left.left - 1) (length c.args.events.now) c.misses-missed.result c.loop-left.invariant.long less miss
          (λ k d from below. c.loop-left.invariant.marked k d (omega (arith, from, next)) below);
    }
