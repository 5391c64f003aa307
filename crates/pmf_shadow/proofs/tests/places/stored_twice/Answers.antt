use Rattle.std.proofs.Common.{ℕ, ◌==◌, if◌then◌else◌, [], ◌∷◌, refl, arith}
use Rattle.pmf_event.specs.declared.event.Event.TheVariants.{Store, Fence}
use Rattle.pmf_shadow.proofs.StandsLemmas.{stands-fences}
use Rattle.pmf_shadow.proofs.tests.places.stored_twice.Goals as goal

pub fence-requires : goal.fence-requires
fence-requires c =
    let told = λ (k : ℕ). if k == 1 then c.args.one else c.args.other in
    let few = stands-fences _ told (Store c.in_ok-here.here ∷ []) 1 (c.in_ok-store.ensures.follows told [] refl (c.new-shadow.ensures told [])) in omega arith

pub fence-requires-2 : goal.fence-requires-2
fence-requires-2 c =
    let told = λ (k : ℕ). if k == 1 then c.args.one else c.args.other in
    let one = c.in_ok-store.ensures.follows told [] refl (c.new-shadow.ensures told []) in
    let fenced = c.fence.ensures c.args.other told (Store c.in_ok-here.here ∷ []) refl one in
    let few = stands-fences _ told (Store c.in_ok-here.here ∷ Fence ∷ Store c.in_ok-next.next ∷ []) 3 (c.in_ok-store-2.ensures.follows told (Store c.in_ok-here.here ∷ Fence ∷ []) refl fenced) in omega arith
