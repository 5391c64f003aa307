-- Laws of what a shadow stands for, which its empty public functions prove.
use Rattle.std.specs.Prelude.{◌≡◌, ℕ, suc, ◌≤◌, Bool, true, false, List, length, Some}
use Rattle.pmf_event.specs.{declared.event.Event.{Event}, declared.event.Event.TheVariants.{Store, Flush, Fence, Exclude, Include}, Store.{event_at}}
use Rattle.pmf_shadow.specs.{declared.shadow.Shadow.{Shadow}, Shadow.{StandsFor, FollowsAt, Follows}}

-- whether the event changes nothing that a shadow keeps
unfoldable pub is_unseen : Event → Bool
is_unseen (Store s) = false
is_unseen (Flush s) = false
is_unseen Fence = false
is_unseen (Exclude s) = false
is_unseen (Include s) = false
is_unseen _ = true

-- a shadow stands for one such event more, wherever it was told and without being told of it
abbrev pub UnseenEventsChangeNothing : Type 0
UnseenEventsChangeNothing = (shadow : Shadow) (e : Event) → is_unseen e ≡ true → Follows shadow shadow e

-- the two lists have the same event at each place up to p
abbrev pub SameEvents : List Event → List Event → ℕ → Type 0
SameEvents es fs p = (k : ℕ) → k ≤ p → event_at es k ≡ event_at fs k

-- the same place is told for each event up to p
abbrev pub SamePlaces : (ℕ → ℕ) → (ℕ → ℕ) → ℕ → Type 0
SamePlaces told tells p = (k : ℕ) → k ≤ p → told k ≡ tells k

-- a shadow looks only at the events that have happened: what stands for one list at p stands for every
-- other whose events up to p are the same, told at the same places
abbrev pub OnlyPastEventsCount : Type 0
OnlyPastEventsCount = (shadow : Shadow) (told tells : ℕ → ℕ) (es fs : List Event) (p : ℕ) →
    SameEvents es fs p → SamePlaces told tells p → StandsFor shadow told es p → StandsFor shadow tells fs p

-- a step that follows an event at the end of each list follows it at its place within each list too
abbrev pub StepsFollowWithin : Type 0
StepsFollowWithin = (place : ℕ) (old new : Shadow) (e : Event) → FollowsAt place old new e →
    (told : ℕ → ℕ) (es : List Event) (p : ℕ) → event_at es (suc p) ≡ Some e → told (suc p) ≡ place →
    StandsFor old told es p → StandsFor new told es (suc p)

-- the shadow stands for some list, told at some places
abbrev pub StandsForSome : Shadow → Type 0
StandsForSome shadow = (told : ℕ → ℕ) × (es : List Event) × StandsFor shadow told es (length es)

-- what stands for some list does so after each step, wherever it is told
abbrev pub StepsStandForSome : Type 0
StepsStandForSome = (place : ℕ) (old new : Shadow) (e : Event) → FollowsAt place old new e → StandsForSome old → StandsForSome new
