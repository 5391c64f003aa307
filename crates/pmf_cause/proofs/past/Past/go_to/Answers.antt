use Rattle.std.proofs.Common.{◌∙◌, arith}
use Rattle.pmf_event.proofs.TransactionLemmas.{depth-bound}
use Rattle.pmf_cause.proofs.past.Past.go_to.Goals as goal

pub follow-requires-clause-shallow : goal.follow-requires-clause-shallow
follow-requires-clause-shallow c =
    let depth = c.loop-self.invariant.past.marks.depth in
    let bound = depth-bound c.args.events.now c.loop-self.self.place in
    omega arith

pub loop-self-preserved : goal.loop-self-preserved
loop-self-preserved c = record {
  past = c.in_ok-follow.ensures.past c.args.events.now c.at.ensures.place c.loop-self.invariant.past;
  watch = c.in_ok-follow.ensures.watch ∙ c.loop-self.invariant.watch;
  before = let next = c.in_ok-follow.ensures.place in omega arith;
}
