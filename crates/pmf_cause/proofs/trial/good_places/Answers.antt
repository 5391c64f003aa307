use Rattle.std.proofs.Common.{◌<◌, length, arith}
use Rattle.pmf_cause.specs.Cure.{passes_at}
use Rattle.pmf_cause.proofs.TrialLemmas.{good_here, some_more}
use Rattle.pmf_cause.proofs.trial.good_places.Goals as goal

pub loop-row-preserved : goal.loop-row-preserved
loop-row-preserved c = λ p.
    let less : c.loop-row.row-index < length c.args.rows.now = omega arith in
    some_more (passes_at c.args.places.now p) c.args.rows.now c.loop-row.row-index _ _ _ _ less (c.loop-row.invariant p)
    (good_here c.args.places.now p c.old_place-place.result _ c.passes_again.result _ c.passes_again.ensures c.old_place-place.ensures) (c.in_ok-put_if.ensures p)
