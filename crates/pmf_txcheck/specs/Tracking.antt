-- What the transaction checker's state stands for: what is kept is what the definitions say of the first
-- p events of a list, with the places that were told of the events that opened a scope.
use Rattle.std.specs.Prelude.{◌≡◌, ℕ, suc, true, ◌==◌, [], ◌∷◌, ◌++◌, List, length, Option, None, Some, if◌then◌else◌}
use Rattle.pmf_event.specs.{declared.event.Event.{Event}, Transactions.{depth_at, in_transaction, is_backed, scope_at, in_scope, is_scoped}}
use Rattle.pmf_runs.specs.Runs.{state_at}
use Rattle.pmf_txcheck.specs.declared.state.TxState.{TxState}

-- the place that was told of the event that opened a scope, if there is one
abbrev pub scope_as_told : (ℕ → ℕ) → ℕ → Option ℕ
scope_as_told told start = if start == 0 then None else Some (told start)

-- the depth that is kept
abbrev pub depth_of : TxState → ℕ
depth_of state = state.depth

-- the state stands for the first p events of a list, each of which was told at the place that is given for it:
-- the depth and the scope are theirs; in a transaction the bytes that are backed up, and in a scope its bytes
pub record Tracks (state : TxState) (told : ℕ → ℕ) (es : List Event) (p : ℕ) : Type 0 where
  pub depth : state.depth ≡ depth_at es p
  pub backup : in_transaction es p ≡ true → (b : ℕ) → state_at state.backup b ≡ is_backed es p b
  pub scope : state.scope ≡ scope_as_told told (scope_at es p)
  pub stored : in_scope es p ≡ true → (b : ℕ) → state_at state.stored b ≡ is_scoped es p b

-- this is so of each list that the state stands for, with the places that were told and the number of events
abbrev pub ForEachList : TxState → ((ℕ → ℕ) → List Event → ℕ → Type 0) → Type 0
ForEachList state says = (told : ℕ → ℕ) (es : List Event) (p : ℕ) → Tracks state told es p → says told es p

-- whatever list the old state stood for, the new one stands for that list with the event at its end, which
-- was told at this place
abbrev pub FollowsAt : ℕ → TxState → TxState → Event → Type 0
FollowsAt place old new e = (told : ℕ → ℕ) (es : List Event) → told (suc (length es)) ≡ place →
    Tracks old told es (length es) → Tracks new told (es ++ e ∷ []) (suc (length es))

-- the same of an event whose place is not kept: it was told at any place
abbrev pub Follows : TxState → TxState → Event → Type 0
Follows old new e = (place : ℕ) → FollowsAt place old new e

-- the new state stands for all that the old one stood for
abbrev pub Keeps : TxState → TxState → Type 0
Keeps old new = ForEachList old (Tracks new)
