-- A section with some changes. Defined here.
use Rattle.std.specs.{Prelude.{ℕ, suc, ◌≤◌, ◌-◌, Bool, false, ◌==◌, List, [], ◌∷◌, ◌++◌, map, flat_map, slice_index_or, if◌then◌else◌}, List.{list_any}}
use Rattle.pmf_event.specs.declared.event.Event.{Event}
use Rattle.pmf_cause.specs.declared.edit.{Edit.{Edit}, Edit.TheVariants.{Put, LeaveOut}}

-- the place that a change names
abbrev pub place_of : Edit → ℕ
place_of (Put before event) = before
place_of (LeaveOut place) = place

-- what a change puts in front of place k
unfoldable pub put_by : ℕ → Edit → List Event
put_by k (Put before event) = if before == k then event ∷ [] else []
put_by k (LeaveOut place) = []

-- what the changes put in front of place k, in their order
unfoldable pub put_at : List Edit → ℕ → List Event
put_at edits k = flat_map (put_by k) edits

-- whether a change leaves out the event at place k
unfoldable pub leaves_out : ℕ → Edit → Bool
leaves_out k (Put before event) = false
leaves_out k (LeaveOut place) = place == k

-- what stays of the thing at place k: nothing, where one of the changes leaves it out
unfoldable pub kept_at : {A : Type 0} → List Edit → ℕ → A → List A
kept_at edits k it = if list_any (leaves_out k) edits then [] else it ∷ []

-- the events from place k on, with the changes
unfoldable pub changed_from : List Edit → ℕ → List Event → List Event
changed_from edits k [] = put_at edits k
changed_from edits k (e ∷ es) = put_at edits k ++ kept_at edits k e ++ changed_from edits (suc k) es

-- a section's events with the changes
abbrev pub changed : List Edit → List Event → List Event
changed edits es = changed_from edits 1 es

-- 0 for each event that is put in front of place k
abbrev pub no_places : List Edit → ℕ → List ℕ
no_places edits k = map (λ e. 0) (put_at edits k)

-- for each event of the changed section from place k on, and for its end, the place that it had: 0 for one that was put in
unfoldable pub places_from : List Edit → ℕ → List Event → List ℕ
places_from edits k [] = no_places edits k ++ k ∷ []
places_from edits k (e ∷ es) = no_places edits k ++ kept_at edits k k ++ places_from edits (suc k) es

-- the same of the whole section
abbrev pub old_places : List Edit → List Event → List ℕ
old_places edits es = places_from edits 1 es

-- the place that had what stands at place q of the changed section; 0 for what was put in
abbrev pub old_place : List ℕ → ℕ → ℕ
old_place places q = slice_index_or places (q - 1) 0

-- the places that the changes name rise from k on, or stay
unfoldable pub RisesFrom : ℕ → List Edit → Type 0
RisesFrom k [] = Unit {0}
RisesFrom k (x ∷ xs) = (k ≤ place_of x) × RisesFrom (place_of x) xs
