use Rattle.std.proofs.Common.{◌+◌, ◌∙◌, ap}
use Rattle.pmf_runs.{specs.Ranks.{with_two}, proofs.TwoLemmas.{two-bounds, two-same}}
use Rattle.pmf_runs.proofs.leaf.Leaf.put_keys.Goals as goal

pub returns-clause-bounds : goal.returns-clause-bounds
returns-clause-bounds g c =
    two-bounds c.args.self.now _ c.args.first c.args.end c.args.index c.requires.rank c.requires.order c.requires.within
    (c.put_two.ensures.items ∙ ap (λ l. with_two l c.args.index c.args.first c.args.end) c.make_room-2.ensures.items)

pub returns-clause-same : goal.returns-clause-same
returns-clause-same g c =
    two-same c.args.self.now _ c.args.first c.args.end c.args.index c.index-state.result.now c.requires.rank c.requires.order c.requires.within c.index-state.ensures
    (c.put_two.ensures.items ∙ ap (λ l. with_two l c.args.index c.args.first c.args.end) c.make_room-2.ensures.items)
    (c.put_two-2.ensures.items ∙ ap (λ l. with_two l (c.args.index + 1) c.index-state.result.now c.index-state.result.now) c.make_room.ensures.items)
