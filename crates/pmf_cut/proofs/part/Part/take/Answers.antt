use Rattle.std.proofs.Common.{◌+◌, refl, arith}
use Rattle.pmf_cut.proofs.{PartLemmas.{list-next, follows-part}, WholeLemmas.{part-next}}
use Rattle.pmf_cut.proofs.part.Part.take.Goals as goal

pub invariant_of-self-2 : goal.invariant_of-self-2
invariant_of-self-2 c = record {
  few = let few = c.args.self.now.few in omega arith;
  shallow = let shallow = c.args.self.now.shallow in let bound = c.depth_after-self.ensures.bound in omega arith;
  some = list-next c.args.self.now.shadow c.follow.new.self c.args.self.now.events (c.args.self.now.events + 1) c.args.event c.in_ok-follow.ensures.follows refl c.args.self.now.some;
}

pub returns-clause-follows : goal.returns-clause-follows
returns-clause-follows c =
    follows-part c.args.self.now _ c.args.event c.has_valid_spans.ensures c.in_ok-follow.ensures.follows refl c.depth_after-self.ensures.is c.scope_after-self.ensures

pub returns-clause-part : goal.returns-clause-part
returns-clause-part c =
    part-next c.args.self.now _ c.args.event
    (follows-part c.args.self.now _ c.args.event c.has_valid_spans.ensures c.in_ok-follow.ensures.follows refl c.depth_after-self.ensures.is c.scope_after-self.ensures)
