use Rattle.pmf_cause.proofs.ChangedLemmas.{putting_put, putting_left}
use Rattle.pmf_cause.proofs.changing.put_here.Goals as goal

pub loop-edit-preserved-in_ok-push-in-Put : goal.loop-edit-preserved-in_ok-push-in-Put
loop-edit-preserved-in_ok-push-in-Put c =
    putting_put c.args.place c.args.made.now c.loop-edit.made c.push.new.self c.args.edits.now c.loop-edit.rest.now c.in-Some.more.now c.loop-edit.left_out c.in-Some.edit.now c.in-Put.before c.in-Put.event
    c.loop-edit.invariant c.in-Some.ensures.0 c.in-Put.is c.in-Some.ensures.1 c.in_ok-push-in-Put.ensures

pub loop-edit-preserved : goal.loop-edit-preserved
loop-edit-preserved c =
    putting_left c.args.place c.args.made.now c.loop-edit.made c.args.edits.now c.loop-edit.rest.now c.in-Some.more.now c.loop-edit.left_out c.in-Some.edit.now c.in-LeaveOut.place
    c.loop-edit.invariant c.in-Some.ensures.0 c.in-LeaveOut.is c.in-Some.ensures.1
