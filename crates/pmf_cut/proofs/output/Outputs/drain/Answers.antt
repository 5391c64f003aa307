use Rattle.std.proofs.{Common.{refl}}
use Rattle.pmf_cut.proofs.OutputLemmas.{drained-push, hands-out}
use Rattle.pmf_cut.proofs.output.Outputs.drain.Goals as goal

pub loop-file-preserved : goal.loop-file-preserved
loop-file-preserved c =
    let took = c.take_text-bytes.ensures in
    rw c.in_ok-push.ensures.items
    (drained-push _ c.loop-file.self _ _ c.loop-file.file-index _ _ _ refl c.loop-file.invariant took.taken took.none_left took.others took.currents took.count _ refl refl)

pub returns : goal.returns
returns c =
    let so_far = c.loop-file.invariant in
    hands-out c.args.self.now _ c.deref-file-items.result.now c.loop-file.file-index _ (cc) c.loop-file-test.false
    (record { kept = so_far.kept; gone = so_far.gone; currents = so_far.currents; count = so_far.count })
