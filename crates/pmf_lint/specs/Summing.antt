-- What the sections of a log hold, in numbers. Defined here.
use Rattle.std.specs.Prelude.{ℕ, ◌+◌, ◌≤◌, Bool, true, false, List, length, count_by, sum_by}
use Rattle.pmf_event.specs.{declared.event.Event.{Event}, declared.event.Event.TheVariants.{Store, Persist, Ordered, CheckEnd}, declared.profile.Profile.TheVariants.{One}, declared.row.Row.{Row}, Section.{Trace}}
use Rattle.pmf_verdict.specs.{declared.outcome.Outcome.TheVariants.{Empty}, Outcome.{outcome_of, is_same}, Rows.{rows_of}}
use Rattle.pmf_lint.specs.{Covering.{uncovered_of}, declared.{summing.Sums.{Sums}, upkeep.Upkeep.{Upkeep}}, Upkeep.{IsUpkeepWithin, upkeep_of}}

-- whether the event asserts something: that bytes are durable, that two were made in order, or what its scope stored
unfoldable pub asserts : Event → Bool
asserts (Persist s) = true
asserts (Ordered s t) = true
asserts CheckEnd = true
asserts _ = false

-- whether the event is a store
unfoldable pub is_store : Event → Bool
is_store (Store s) = true
is_store _ = false

-- whether the row is of an assertion that had nothing to check
unfoldable pub is_empty_row : Row → Bool
is_empty_row row = is_same Empty (outcome_of row.finding)

-- how many rows of the section are of such an assertion; the profile changes none of them
unfoldable pub empty_of : Trace → ℕ
empty_of t = count_by (λ row. is_empty_row row) (rows_of One t.events)

-- how the stores of the sections are made durable, in numbers
unfoldable pub upkeeps_of : List Trace → Upkeep
upkeeps_of sections = record {
  unwritten = sum_by (λ (t : Trace). (upkeep_of t.events).unwritten) sections;
  unfenced = sum_by (λ (t : Trace). (upkeep_of t.events).unfenced) sections;
  overwriting = sum_by (λ (t : Trace). (upkeep_of t.events).overwriting) sections;
  fences = sum_by (λ (t : Trace). (upkeep_of t.events).fences) sections;
  idle = sum_by (λ (t : Trace). (upkeep_of t.events).idle) sections;
}

-- how many events the sections have, how many of these assert something, how many rows are empty, how many events are stores, how many of
-- these no later assertion covers, and how they are made durable
unfoldable pub sums_of : List Trace → Sums
sums_of sections = record {
  events = sum_by (λ (t : Trace). length t.events) sections;
  assertions = sum_by (λ (t : Trace). count_by (λ e. asserts e) t.events) sections;
  empty = sum_by (λ (t : Trace). empty_of t) sections;
  stores = sum_by (λ (t : Trace). count_by (λ e. is_store e) t.events) sections;
  unasserted = sum_by (λ (t : Trace). uncovered_of t.events) sections;
  upkeep = upkeeps_of sections;
}

-- the numbers of both
abbrev pub kept_both : Upkeep → Upkeep → Upkeep
kept_both a b = record {
  unwritten = a.unwritten + b.unwritten;
  unfenced = a.unfenced + b.unfenced;
  overwriting = a.overwriting + b.overwriting;
  fences = a.fences + b.fences;
  idle = a.idle + b.idle;
}

-- the sums of both
abbrev pub both : Sums → Sums → Sums
both a b = record {
  events = a.events + b.events;
  assertions = a.assertions + b.assertions;
  empty = a.empty + b.empty;
  stores = a.stores + b.stores;
  unasserted = a.unasserted + b.unasserted;
  upkeep = kept_both a.upkeep b.upkeep;
}

-- none of the sums is above this number
pub record IsWithin (most : ℕ) (sums : Sums) : Type 0 where
  pub events_within : sums.events ≤ most
  pub assertions_within : sums.assertions ≤ most
  pub empty_within : sums.empty ≤ most
  pub stores_within : sums.stores ≤ most
  pub unasserted_within : sums.unasserted ≤ most
  pub upkeep_within : IsUpkeepWithin most sums.upkeep
