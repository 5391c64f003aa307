-- Laws of what a state stands for and of its findings, which its empty public functions prove.
use Rattle.std.specs.Prelude.{◌≡◌, ℕ, suc, Bool, true, false, List, length, Some}
use Rattle.pmf_event.specs.{declared.event.Event.{Event}, declared.event.Event.TheVariants.{Store, TxBegin, TxAdd, TxEnd, CheckStart, CheckEnd}, Span.{Extent}, Store.{event_at}, Transactions.{store_finding, check_finding}}
use Rattle.pmf_shadow.specs.Laws.{SameEvents, SamePlaces}
use Rattle.pmf_txcheck.specs.{declared.state.TxState.{TxState}, Tracking.{Tracks, FollowsAt, Follows}, Findings.{store_finding_by, check_finding_by}}

-- whether the event changes nothing that the state keeps
unfoldable pub is_untracked : Event → Bool
is_untracked (Store s) = false
is_untracked TxBegin = false
is_untracked (TxAdd s) = false
is_untracked TxEnd = false
is_untracked CheckStart = false
is_untracked CheckEnd = false
is_untracked _ = true

-- a state stands for one such event more, wherever it was told and without being told of it
abbrev pub UntrackedEventsChangeNothing : Type 0
UntrackedEventsChangeNothing = (state : TxState) (e : Event) → is_untracked e ≡ true → Follows state state e

-- a state looks only at the events that have happened: what stands for one list at p stands for every other whose
-- events up to p are the same, told at the same places
abbrev pub OnlyPastEventsCount : Type 0
OnlyPastEventsCount = (state : TxState) (told tells : ℕ → ℕ) (es fs : List Event) (p : ℕ) →
    SameEvents es fs p → SamePlaces told tells p → Tracks state told es p → Tracks state tells fs p

-- a step that follows an event at the end of each list follows it at its place within each list too
abbrev pub StepsFollowWithin : Type 0
StepsFollowWithin = (place : ℕ) (old new : TxState) (e : Event) → FollowsAt place old new e →
    (told : ℕ → ℕ) (es : List Event) (p : ℕ) → event_at es (suc p) ≡ Some e → told (suc p) ≡ place →
    Tracks old told es p → Tracks new told es (suc p)

-- the state stands for some list, told at some places
abbrev pub TracksSome : TxState → Type 0
TracksSome state = (told : ℕ → ℕ) × (es : List Event) × Tracks state told es (length es)

-- what stands for some list does so after each step, wherever it is told
abbrev pub StepsTrackSome : Type 0
StepsTrackSome = (place : ℕ) (old new : TxState) (e : Event) → FollowsAt place old new e → TracksSome old → TracksSome new

-- where both stand for one list, and the shadow has followed the event already, the findings by two lists are those
-- that the definitions give
pub record OneListIsACase : Type 0 where
  pub store : (es : List Event) (p : ℕ) (s : Extent) → store_finding_by es p es (suc p) s ≡ store_finding es p s
  pub check : (es : List Event) (p : ℕ) → check_finding_by es p es (suc p) ≡ check_finding es p
