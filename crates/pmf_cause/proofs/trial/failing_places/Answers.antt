use Rattle.std.proofs.Common.{◌<◌, length, arith}
use Rattle.pmf_cause.specs.Cure.{fails_at}
use Rattle.pmf_cause.proofs.TrialLemmas.{any_more, fails_here}
use Rattle.pmf_cause.proofs.trial.failing_places.Goals as goal

pub loop-row-preserved : goal.loop-row-preserved
loop-row-preserved c = λ p.
    let less : c.loop-row.row-index < length c.args.rows.now = omega arith in
    any_more (fails_at p) c.args.rows.now c.loop-row.row-index _ _ _ _ less (c.loop-row.invariant p) (fails_here p _ c.fails.result c.fails.ensures) (c.in_ok-put_if.ensures p)
