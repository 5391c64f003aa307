-- Laws of causes, which the empty public functions prove.
use Rattle.std.specs.Prelude.{◌≡◌, ◌<◌, ◌≤◌, ◌-◌, ℕ, Bool, true, false, List, length, Contains, None, Some, is_some}
use Rattle.pmf_event.specs.{declared.event.Event.{Event}, declared.profile.Profile.{Profile}, declared.row.Row.{Row}, Span.{Extent, covers_byte}, Line.{line_of_byte}, Store.{at, flushes, is_fence, last_store}, Persist.{is_checked}}
use Rattle.pmf_image.specs.Holds.{OrderedHolds, PersistHolds}
use Rattle.pmf_verdict.specs.{declared.outcome.Outcome.{Outcome}, declared.outcome.Outcome.TheVariants.{Fail, Warn}, Outcome.{outcome_of}, Rows.{rows_of}}
use Rattle.pmf_cause.specs.{declared.{lack.Lack.{Lack}, need.Need.{Need}}, Cause.{cause_of, lack_of}}
use Rattle.pmf_cause.specs.declared.lack.Lack.TheVariants as lack

-- whether a row that counts so has a cause
abbrev pub asks_why : Outcome → Bool
asks_why Fail = true
asks_why Warn = true
asks_why _ = false

-- of a section's rows just those that count as fail or as a warning have a cause
abbrev pub EachFailureHasItsCause : Type 0
EachFailureHasItsCause = (profile : Profile) (es : List Event) (row : Row) →
    Contains (rows_of profile es) row → is_some (cause_of es row) ≡ asks_why (outcome_of row.finding)

-- where each checked byte of the span lacks nothing by the place of a persist assertion, that holds: its line was written back behind its
-- last store, and fenced, in front of that place
abbrev pub WhatIsFencedInTimeHolds : Type 0
WhatIsFencedInTimeHolds = (es : List Event) (p : ℕ) (s : Extent) →
    ((b : ℕ) → covers_byte s b ≡ true → is_checked es p b ≡ true → lack_of es (record { byte = b; last = last_store es p b; due = p }) ≡ None) → PersistHolds es p s

-- where each checked byte of the one span lacks nothing by the last store of each of the other, the order assertion holds
abbrev pub WhatIsFencedBeforeHolds : Type 0
WhatIsFencedBeforeHolds = (es : List Event) (p : ℕ) (a b : Extent) →
    ((x y : ℕ) → covers_byte a x ≡ true → covers_byte b y ≡ true → is_checked es p x ≡ true → is_checked es p y ≡ true →
    lack_of es (record { byte = x; last = last_store es p x; due = last_store es p y }) ≡ None) → OrderedHolds es p a b

-- ---- what is lacking

-- no write-back of the line stands behind place k, up to place d; no fence does
abbrev pub NoneWritesBack : List Event → ℕ → ℕ → ℕ → Type 0
NoneWritesBack es line k d = (w : ℕ) → k < w → w ≤ d → at (flushes line) es w ≡ false

abbrev pub NoneFences : List Event → ℕ → ℕ → Type 0
NoneFences es k d = (f : ℕ) → k < f → f ≤ d → at is_fence es f ≡ false

-- the first write-back of the line behind place k is the one at w; the first fence
abbrev pub IsFirstWriteBack : List Event → ℕ → ℕ → ℕ → Type 0
IsFirstWriteBack es line k w = (k < w) × (at (flushes line) es w ≡ true) × NoneWritesBack es line k (w - 1)

abbrev pub IsFirstFence : List Event → ℕ → ℕ → Type 0
IsFirstFence es k f = (k < f) × (at is_fence es f ≡ true) × NoneFences es k (f - 1)

-- what it means that the need's byte lacks this
abbrev pub Means : List Event → Need → Lack → Type 0
Means es n lack.StoredBehind = n.due < n.last
Means es n lack.OneStore = n.last ≡ n.due
Means es n lack.NotWrittenBack = (n.last < n.due) × NoneWritesBack es (line_of_byte n.byte) n.last (length es)
Means es n (lack.WrittenBackLate by) = (n.last < n.due) × IsFirstWriteBack es (line_of_byte n.byte) n.last by × (n.due < by)
Means es n (lack.NotFenced by) = (n.last < n.due) × IsFirstWriteBack es (line_of_byte n.byte) n.last by × (by ≤ n.due) × NoneFences es by (length es)
Means es n (lack.FencedLate by fence) = (n.last < n.due) × IsFirstWriteBack es (line_of_byte n.byte) n.last by × (by ≤ n.due) × IsFirstFence es by fence × (n.due < fence)

-- what a byte lacks is what its name means
abbrev pub EachLackMeansSo : Type 0
EachLackMeansSo = (es : List Event) (n : Need) (lacking : Lack) → lack_of es n ≡ Some lacking → Means es n lacking
