use Rattle.std.proofs.Common.{◌≡◌, true, sym, subst, arith}
use Rattle.pmf_event.specs.{declared.event.Event.{Event}, declared.event.Event.TheVariants.{Store, Flush, Fence, Exclude, Include}, Span.{Extent}}
use Rattle.pmf_shadow.{specs.Laws.{is_unseen}, specs.Shadow.{FollowsAt}, proofs.StandsLemmas.{unseen-follows}}
use Rattle.pmf_shadow.proofs.shadow.Shadow.follow.Goals as goal

unseen-unless : (e : Event) → ((s : Extent) → e ≡ Store s → ⊥) → ((s : Extent) → e ≡ Flush s → ⊥) → (e ≡ Fence → ⊥) → ((s : Extent) → e ≡ Exclude s → ⊥) → ((s : Extent) → e ≡ Include s → ⊥) →
    is_unseen e ≡ true
unfolding is_unseen
unseen-unless e no_store no_flush no_fence no_exclude no_include = grind arith

pub returns-in_ok-store-in-Store-clause-follows : goal.returns-in_ok-store-in-Store-clause-follows
returns-in_ok-store-in-Store-clause-follows c = subst (FollowsAt c.args.place c.args.self.now c.store.new.self) (sym c.in-Store.is) c.in_ok-store-in-Store.ensures.follows

pub returns-in_ok-flush-in-Flush-clause-follows : goal.returns-in_ok-flush-in-Flush-clause-follows
returns-in_ok-flush-in-Flush-clause-follows c = subst (FollowsAt c.args.place c.args.self.now c.flush.new.self) (sym c.in-Flush.is) (c.in_ok-flush-in-Flush.ensures.follows c.args.place)

pub returns-in-Fence-clause-follows : goal.returns-in-Fence-clause-follows
returns-in-Fence-clause-follows c = subst (FollowsAt c.args.place c.args.self.now c.fence.new.self) (sym c.in-Fence.is) (c.fence.ensures c.args.place)

pub returns-in_ok-exclude-in-Exclude-clause-follows : goal.returns-in_ok-exclude-in-Exclude-clause-follows
returns-in_ok-exclude-in-Exclude-clause-follows c = subst (FollowsAt c.args.place c.args.self.now c.exclude.new.self) (sym c.in-Exclude.is) (c.in_ok-exclude-in-Exclude.ensures.follows c.args.place)

pub returns-in_ok-include-in-Include-clause-follows : goal.returns-in_ok-include-in-Include-clause-follows
returns-in_ok-include-in-Include-clause-follows c = subst (FollowsAt c.args.place c.args.self.now c.include.new.self) (sym c.in-Include.is) (c.in_ok-include-in-Include.ensures.follows c.args.place)

pub returns-in_default-clause-follows : goal.returns-in_default-clause-follows
returns-in_default-clause-follows c =
    let other = c.in_default in
    unseen-follows c.args.self.now c.args.event (unseen-unless c.args.event other.not-Store other.not-Flush other.not-Fence other.not-Exclude other.not-Include) c.args.place
