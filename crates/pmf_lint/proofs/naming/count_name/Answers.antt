use Rattle.std.proofs.{Common.{◌∙◌, ap, slice_set, arith}, lemmas.List.Edits.{map_over_more}}
use Rattle.pmf_lint.specs.Naming.{counting}
use Rattle.pmf_lint.proofs.naming.count_name.Goals as goal

pub loop-index-preserved : goal.loop-index-preserved
loop-index-preserved c = ap (slice_set c.loop-index.counts.items c.loop-index.index) c.counting.ensures
    ∙ map_over_more (counting c.args.name.now) c.args.counts.now.items c.loop-index.counts.items c.loop-index.index c.index-count.result.now (omega arith) c.loop-index.invariant c.index-count.ensures
