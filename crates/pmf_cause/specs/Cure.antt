-- What a cure is: changes of a section by which nothing fails that didn't, and a row passes, or is gone. Defined here.
use Rattle.std.specs.{Prelude.{◌≡◌, ℕ, Bool, true, false, not, ◌&&◌, ◌||◌, ◌==◌, List}, List.{list_any}}
use Rattle.pmf_event.specs.{declared.event.{Event.{Event}, Event.TheVariants.{Exclude, Include}}, declared.row.Row.{Row}, Store.{at}}
use Rattle.pmf_verdict.specs.{declared.outcome.{Outcome.TheVariants.{Fail, Pass, Warn}}, Outcome.{is_same, outcome_of}, Checked.{Checked, rows_in}}
use Rattle.pmf_runs.specs.{declared.members.Members.{Members}, declared.runs.RunMap.{RunMap}, contracts.members.BoolState.TheImpl.{ghosts}, Runs.{state_at}}
use Rattle.pmf_cause.specs.{declared.edit.{Edit.{Edit}, Edit.TheVariants.{Put, LeaveOut}}, declared.trial.Trial.{Trial}, Changed.{changed, old_place, old_places}, Later.{asks_byte}}

-- whether the row counts as fail; whether as fail or as a warning
abbrev pub fails : Row → Bool
fails row = is_same Fail (outcome_of row.finding)

abbrev pub is_bad : Row → Bool
is_bad row = fails row || is_same Warn (outcome_of row.finding)

-- the section with the changes, checked by the same profile
unfoldable pub cured : Checked → List Edit → Checked
cured checked edits = record {
  section = record { name = checked.section.name; events = changed edits checked.section.events };
  profile = checked.profile;
}

-- whether a row fails at place p
unfoldable pub fails_at : ℕ → Row → Bool
fails_at p row = fails row && (row.place == p)

-- the set has the places at which these rows fail
abbrev pub IsFailing : List Row → RunMap Bool Members ghosts → Type 0
IsFailing rows set = (p : ℕ) → state_at set p ≡ list_any (fails_at p) rows

-- whether a row of the changed section is bad, and what stands there had place p
unfoldable pub bad_at : List ℕ → ℕ → Row → Bool
bad_at places p row = is_bad row && (old_place places row.place == p)

-- whether a row of the changed section fails, and none of these rows did at the place that it had
unfoldable pub is_new : List ℕ → List Row → Row → Bool
is_new places rows row = fails row && not (list_any (fails_at (old_place places row.place)) rows)

-- the changes of a checked section make nothing fail that didn't
abbrev pub SpoilsNothing : Checked → List Edit → Type 0
SpoilsNothing checked edits = list_any (is_new (old_places edits checked.section.events) (rows_in checked)) (rows_in (cured checked edits)) ≡ false

-- whether a row of the changed section counts as pass, and what stands there had place p
unfoldable pub passes_at : List ℕ → ℕ → Row → Bool
passes_at places p row = is_same Pass (outcome_of row.finding) && (old_place places row.place == p)

-- whether the event excludes bytes from what is checked, or includes some anew
unfoldable pub excludes : Event → Bool
excludes (Exclude span) = true
excludes (Include span) = true
excludes _ = false

-- whether the change of these events puts such an event in, or leaves one out
unfoldable pub excludes_anew : List Event → Edit → Bool
excludes_anew es (Put before event) = excludes event
excludes_anew es (LeaveOut place) = at excludes es place

-- what stood at place p still stands in the changed section, checks the bytes that it checked, and passes
pub record StillPasses (checked : Checked) (edits : List Edit) (p : ℕ) : Type 0 where
  pub passes : list_any (passes_at (old_places edits checked.section.events) p) (rows_in (cured checked edits)) ≡ true
  pub checks_alike : list_any (excludes_anew checked.section.events) edits ≡ false

-- the changes cure the row: of what stood at its place no row is left that is bad; and an assertion whose bytes were not durable passes
pub record Cures (checked : Checked) (edits : List Edit) (row : Row) : Type 0 where
  pub gone : list_any (bad_at (old_places edits checked.section.events) row.place) (rows_in (cured checked edits)) ≡ false
  pub passes : asks_byte row.finding ≡ true → StillPasses checked edits row.place
  pub spoils_nothing : SpoilsNothing checked edits

-- what is kept of a section that was checked with the changes: its verdict, the places that had what is bad in it, some that had what
-- passes, and whether all of its assertions check the bytes that they checked
pub record IsTrial (checked : Checked) (edits : List Edit) (trial : Trial) : Type 0 where
  pub verdict : trial.verdict ≡ cured checked edits
  pub bad : (p : ℕ) → state_at trial.bad p ≡ list_any (bad_at (old_places edits checked.section.events) p) (rows_in (cured checked edits))
  pub good : (p : ℕ) → state_at trial.good p ≡ true → list_any (passes_at (old_places edits checked.section.events) p) (rows_in (cured checked edits)) ≡ true
  pub checks_alike : trial.checks_alike ≡ true → list_any (excludes_anew checked.section.events) edits ≡ false
  pub spoils_nothing : SpoilsNothing checked edits
