-- What the walk over a section keeps. No public clause cites this.
use Rattle.std.specs.Prelude.{◌≡◌, ℕ, suc, List, ◌++◌, Some, length}
use Rattle.pmf_event.specs.{declared.event.Event.{Event}, Store.{event_at}}
use Rattle.pmf_shadow.specs.Shadow.{StandsFor}
use Rattle.pmf_txcheck.specs.Tracking.{Tracks}
use Rattle.pmf_verdict.specs.{declared.checking.Walk.{Walk}, Rows.{rows_upto}}

-- the shadow and the state of transactions stand for the first p events, each told at its own place, and the rows
-- are theirs, by the walk's profile
pub record Walks (walk : Walk) (es : List Event) (p : ℕ) : Type 0 where
  pub stands : StandsFor walk.shadow (λ k. k) es p
  pub tracks : Tracks walk.transactions (λ k. k) es p
  pub rows_are : walk.rows ≡ rows_upto walk.profile es p

-- the walk has followed the event at this place
abbrev pub Follows : Walk → Walk → ℕ → Event → Type 0
Follows old new place e = (es : List Event) (p : ℕ) → Walks old es p → event_at es (suc p) ≡ Some e → place ≡ suc p → Walks new es (suc p)

-- so many events, these, were walked over, whatever follows them
abbrev pub HasWalked : Walk → List Event → ℕ → Type 0
HasWalked walk es walked = ((more : List Event) → Walks walk (es ++ more) walked) × (walked ≡ length es)
