use Rattle.std.proofs.Common.{◌+◌, refl, sym, ap, subst, arith}
use Rattle.pmf_shadow.specs.Shadow.{FollowsAt}
use Rattle.pmf_lint.proofs.{EmptyLemmas.{unmet_here}, UpkeepLemmas.{one_few, walked_few, walked_more}}
use Rattle.pmf_lint.proofs.upkeep.Walk.follow.Goals as goal

pub overflow_add-self : goal.overflow_add-self
overflow_add-self c =
    let few = walked_few c.args.self.now c.requires.0 c.requires.1 c.requires.2 in
    let one = one_few c.lacks_bytes-unmet.result c.one_if.result c.one_if.ensures in omega (arith, few.empty, c.requires.3, one)

pub overflow_add-self-2 : goal.overflow_add-self-2
overflow_add-self-2 c =
    let few = walked_few c.args.self.now c.requires.0 c.requires.1 c.requires.2 in
    let one = one_few c.overwrites-overwrites.result c.one_if-2.result c.one_if-2.ensures in omega (arith, few.overwriting, c.requires.3, one)

pub overflow_add-self-3 : goal.overflow_add-self-3
overflow_add-self-3 c =
    let few = walked_few c.args.self.now c.requires.0 c.requires.1 c.requires.2 in
    let one = one_few c.is_fence-fence.result c.one_if-3.result c.one_if-3.ensures in omega (arith, few.fences, c.requires.3, one)

pub overflow_add-self-4 : goal.overflow_add-self-4
overflow_add-self-4 c =
    let few = walked_few c.args.self.now c.requires.0 c.requires.1 c.requires.2 in
    let one = one_few c.both.result c.one_if-4.result c.one_if-4.ensures in omega (arith, few.idle, c.requires.3, one)

pub follow-requires : goal.follow-requires
follow-requires c = let few = walked_few c.args.self.now c.requires.0 c.requires.1 c.requires.2 in omega (arith, few.shadowed, c.requires.3)

pub returns : goal.returns
returns c = λ es p walked here place.
    walked_more es p c.args.event.now here c.args.self.now _ c.lacks_bytes-unmet.result c.overwrites-overwrites.result c.is_fence-fence.result c.both.result walked
    (unmet_here c.args.self.now.shadow es p c.args.event.now c.lacks_bytes-unmet.result _ refl here walked.shadow c.lacks_bytes-unmet.ensures)
    (c.overwrites-overwrites.ensures (λ k. k) es p walked.shadow) c.is_fence-fence.ensures c.both.ensures
    (subst (λ place. FollowsAt place c.args.self.now.shadow c.follow.new.self c.args.event.now) (sym place) c.in_ok-follow.ensures.follows) c.flushed_after-self.ensures
    (ap (λ n. c.args.self.now.empty + n) c.one_if.ensures) (ap (λ n. c.args.self.now.overwriting + n) c.one_if-2.ensures)
    (ap (λ n. c.args.self.now.fences + n) c.one_if-3.ensures) (ap (λ n. c.args.self.now.idle + n) c.one_if-4.ensures)
