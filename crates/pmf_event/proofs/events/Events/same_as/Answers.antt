use Rattle.std.proofs.Common.{map, refl, sym, ◌∙◌, ap}
use Rattle.pmf_event.specs.Packed.{event_of}
use Rattle.pmf_event.proofs.events.Events.same_as.Goals as goal

pub returns-then-are_pairs : goal.returns-then-are_pairs
returns-then-are_pairs c =
    let packed = sym c.deref.ensures.value ∙ c.if-is_kept.ensures refl ∙ c.deref-2.ensures.value in
    let pairs = sym c.deref-then-is_kept.ensures.value ∙ c.if-are_pairs.ensures refl ∙ c.deref-then-is_kept-2.ensures.value in (
      λ _. sym c.self.view_is ∙ ap (λ l. map (event_of l) c.self.inside.packed.items) pairs ∙ ap (map (event_of c.other.inside.pairs.items)) packed ∙ c.other.view_is,
      λ _. refl,
    )
