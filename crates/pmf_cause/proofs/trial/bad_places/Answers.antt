use Rattle.std.proofs.Common.{◌<◌, length, arith}
use Rattle.pmf_cause.specs.Cure.{bad_at}
use Rattle.pmf_cause.proofs.TrialLemmas.{any_more, bad_here}
use Rattle.pmf_cause.proofs.trial.bad_places.Goals as goal

pub loop-row-preserved : goal.loop-row-preserved
loop-row-preserved c = λ p.
    let less : c.loop-row.row-index < length c.args.rows.now = omega arith in
    any_more (bad_at c.args.places.now p) c.args.rows.now c.loop-row.row-index _ _ _ _ less (c.loop-row.invariant p)
    (bad_here c.args.places.now p c.old_place.result _ c.is_bad.result c.is_bad.ensures c.old_place.ensures) (c.in_ok-put_if.ensures p)
