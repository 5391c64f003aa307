-- Places as they were told: what the definitions say by the position of an event, said by the place that the
-- caller gave it.
use Rattle.std.specs.Prelude.{◌≡◌, ℕ, ◌<◌, ◌≤◌, List, Option, None, Some}
use Rattle.pmf_event.specs.{declared.event.Event.{Event}, declared.event.Event.TheVariants.{Store}, declared.finding.Finding.{Finding}, declared.finding.Finding.TheVariants.{OrderedFail, Unclosed}, declared.interval.Interval.{Interval}, Span.{Extent}, Store.{event_at}}

-- of two stores up to p the later one was told at the greater place
abbrev pub KeepsOrder : (ℕ → ℕ) → List Event → ℕ → Type 0
KeepsOrder told es p = (i j : ℕ) (s t : Extent) → i < j → j ≤ p →
    event_at es i ≡ Some (Store s) → event_at es j ≡ Some (Store t) → told i < told j

-- the interval with the place that was told of its store
abbrev pub interval_as_told : (ℕ → ℕ) → Option Interval → Option Interval
interval_as_told told None = None
interval_as_told told (Some i) = Some (record i { last = told i.last })

-- the finding with the place that was told, where it names one
abbrev pub finding_as_told : (ℕ → ℕ) → Finding → Finding
finding_as_told told (OrderedFail byte after crash) = OrderedFail byte after (told crash)
finding_as_told told (Unclosed start) = Unclosed (told start)
finding_as_told told f = f
