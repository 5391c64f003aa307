use Rattle.std.proofs.Common.{◌-◌, arith}
use Rattle.pmf_cause.proofs.later.Later.go_to.Goals as goal

pub loop-self-preserved : goal.loop-self-preserved
loop-self-preserved c =
    let es = c.args.events.now in
    let p = c.loop-self.self.place - 1 in
    let within = c.loop-self.invariant.within in
    let next = c.in_ok-follow.ensures.place in
    record {
      later = c.in_ok-follow.ensures.later es p (omega arith) c.at.ensures.place (omega arith) c.loop-self.invariant.later;
      behind = omega arith;
      within = omega arith;
    }
