use Rattle.std.proofs.Common.{◌<◌, length, arith}
use Rattle.pmf_cause.proofs.TrialLemmas.{rises_more, rises_end}
use Rattle.pmf_cause.proofs.trial.rises.Goals as goal

pub loop-edit-preserved : goal.loop-edit-preserved
loop-edit-preserved c = λ rises.
    let less : c.loop-edit.edit-index < length c.args.edits.now = omega arith in
    c.loop-edit.invariant (rises_more c.args.edits.now c.loop-edit.edit-index c.loop-edit.least c.place-least.result c.edit-item.result less c.edit-item.is c.place-least.ensures (grind arith) rises)

pub returns : goal.returns
returns c = λ so. c.loop-edit.invariant (rises_end c.args.edits.now c.loop-edit.edit-index c.loop-edit.least (omega arith))
