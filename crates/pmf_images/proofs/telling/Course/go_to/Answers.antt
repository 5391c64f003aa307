use Rattle.std.proofs.Common.{add-one, arith}
use Rattle.pmf_images.proofs.telling.Course.go_to.Goals as goal

pub loop-self-preserved : goal.loop-self-preserved
loop-self-preserved g c =
    let es = c.args.events.now in
    let p = c.loop-self.self.place in
    let old = c.loop-self.invariant in
    record {
      sound = c.in_ok-follow.ensures.sound;
      knows = λ byte known. c.in_ok-follow.ensures.knows byte (old.knows byte known);
      keeps = rw add-one (c.in_ok-follow.ensures.keeps es p c.at.ensures.place (add-one p) old.keeps);
      before = omega arith;
    }
