use Rattle.std.proofs.Common.{◌∙◌, ◌||◌, sym, ap, arith}
use Rattle.pmf_lint.{specs.Leaving.{is_left, is_left_unwritten, some_below}, proofs.LeavingLemmas.{all_there, hit_more, none_before, some_place}}
use Rattle.pmf_lint.proofs.leaving.left_in.Goals as goal

pub loop-first-init : goal.loop-first-init
loop-first-init c = record {
  within = omega (arith, c.end-end.ensures.value, c.first-first.ensures.value);
  so_far = λ es stands here.
      let none = none_before es c.args.place c.args.span (some_place es c.args.place _ here) here in
      let at = sym c.first-first.ensures.value in (
        sym none.0 ∙ ap (some_below (is_left es c.args.place)) at,
        sym none.1 ∙ ap (some_below (is_left_unwritten es c.args.place)) at,
      );
}

pub loop-first-preserved : goal.loop-first-preserved
loop-first-preserved c = record {
  within = c.open_from-next.ensures.within;
  so_far = λ es stands here.
      let so = c.loop-first.invariant.so_far es stands here in
      let more = hit_more es c.args.place c.loop-first.first c.open_from-next.result.1 c.open_from-next.result.0 c.loop-first.left c.loop-first.unwritten c.is_hit-hit.result
      c.open_from-next.ensures.further (c.open_from-next.ensures.opened (λ k. k) es _ stands) c.is_hit-hit.ensures so.0 so.1 in (
        c.either-left.ensures ∙ more.0,
        c.either-unwritten.ensures ∙ ap (λ b. c.loop-first.unwritten || b) c.both.ensures ∙ more.1,
      );
}

pub returns : goal.returns
returns c = λ es stands here.
    let so = c.loop-first.invariant.so_far es stands here in
    let there = all_there es c.args.place c.args.span (some_place es c.args.place _ here) here c.loop-first.first 9223372036854775808
    (omega (arith, c.end-end.ensures.value, c.loop-first-test.false)) (omega (arith, c.loop-first.invariant.within, c.end-end.ensures.value, c.end-end.ensures.valid.ends)) in (so.0 ∙ there.0, so.1 ∙ there.1)
