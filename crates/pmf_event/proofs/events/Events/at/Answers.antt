use Rattle.std.proofs.Common.{length, Some, sym, ◌∙◌, ap, subst}
use Rattle.pmf_event.specs.{Packed.{event_of, IsWithin}, Store.{event_at}}
use Rattle.pmf_event.proofs.PackedLemmas.{kept_at, event_at_is, one_of}
use Rattle.pmf_event.proofs.events.Events.at.Goals as goal

pub event-requires : goal.event-requires
event-requires c =
    let here = kept_at c.self.inside.pairs.items c.self.inside.packed.items c.args.self.now c.args.index c.index.result.now c.self.view_is c.requires c.index.ensures in
    subst (λ ps. IsWithin (length ps) c.index.result.now) (sym c.deref.ensures.value) (one_of _ c.self.inside.packed.items c.args.index c.index.result.now c.self.invariant.2 here)

pub returns-clause-value : goal.returns-clause-value
returns-clause-value c =
    let here = kept_at c.self.inside.pairs.items c.self.inside.packed.items c.args.self.now c.args.index c.index.result.now c.self.view_is c.requires c.index.ensures in
    event_at_is c.self.inside.pairs.items c.self.inside.packed.items c.args.self.now c.args.index c.index.result.now c.self.view_is here
    ∙ ap (λ e. Some e) (sym (c.event.ensures ∙ ap (λ ps. event_of ps c.index.result.now) c.deref.ensures.value))

pub returns-clause-place : goal.returns-clause-place
unfolding event_at
returns-clause-place c =
    let here = kept_at c.self.inside.pairs.items c.self.inside.packed.items c.args.self.now c.args.index c.index.result.now c.self.view_is c.requires c.index.ensures in
    event_at_is c.self.inside.pairs.items c.self.inside.packed.items c.args.self.now c.args.index c.index.result.now c.self.view_is here
    ∙ ap (λ e. Some e) (sym (c.event.ensures ∙ ap (λ ps. event_of ps c.index.result.now) c.deref.ensures.value))
