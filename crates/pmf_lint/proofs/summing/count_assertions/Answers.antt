use Rattle.std.proofs.Common.{◌∙◌, ap, arith, cond}
use Rattle.pmf_lint.{specs.Summing.{asserts}, proofs.{TallySumLemmas.{counted_more}, UpkeepLemmas.{one_few}}}
use Rattle.pmf_lint.proofs.summing.count_assertions.Goals as goal

pub loop-index-preserved : goal.loop-index-preserved
loop-index-preserved c =
    let one = one_few c.asserts.result c.one_if-count.result c.one_if-count.ensures in record {
      few = omega (arith, one, c.loop-index.invariant.few);
      counted = counted_more (λ e. asserts e) c.args.events.now c.loop-index.index c.at.result c.loop-index.count c.one_if-count.result c.at.ensures.value c.loop-index.invariant.counted
          (c.one_if-count.ensures ∙ ap (λ b. cond b 1 0) c.asserts.ensures);
    }
