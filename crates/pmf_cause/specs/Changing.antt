-- What is kept while a section is changed. No public clause cites this.
use Rattle.std.specs.{Prelude.{◌≡◌, ℕ, suc, ◌<◌, Bool, List, ◌++◌}, List.{list_any}}
use Rattle.pmf_event.specs.declared.event.Event.{Event}
use Rattle.pmf_cause.specs.{declared.edit.Edit.{Edit}, declared.changing.Changed.{Changed}, Changed.{leaves_out, no_places, put_at, RisesFrom}}

-- these events came to the end of the section, and these places to that of the places
pub record Grows (old new : Changed) (es : List Event) (ps : List ℕ) : Type 0 where
  pub name : new.section.name ≡ old.section.name
  pub events : new.section.events ≡ old.section.events ++ es
  pub places : new.places.items ≡ old.places.items ++ ps

-- the changes that name the place are made: what they put came to the end, whether one leaves the event out is told, and those behind
-- them are left
pub record Puts (place : ℕ) (old new : Changed) (edits rest : List Edit) (left_out : Bool) : Type 0 where
  pub grows : Grows old new (put_at edits place) (no_places edits place)
  pub left : left_out ≡ list_any (leaves_out place) edits
  pub rises : RisesFrom (suc place) rest
  pub put : (k : ℕ) → place < k → put_at edits k ≡ put_at rest k
  pub leaves : (k : ℕ) → place < k → list_any (leaves_out k) edits ≡ list_any (leaves_out k) rest
