-- What the walk from a section's last event to its first keeps. No public clause cites this.
use Rattle.std.specs.Prelude.{◌≡◌, ℕ, suc, ◌-◌, ◌<◌, ◌≤◌, Bool, true, false, List, length, get_or}
use Rattle.pmf_event.specs.{declared.event.Event.{Event}, declared.finding.Finding.{Finding}, declared.row.Row.{Row}, Line.{line_of_byte}}
use Rattle.pmf_event.specs.declared.finding.Finding.TheVariants as finding
use Rattle.pmf_runs.specs.Runs.{state_at}
use Rattle.pmf_cause.specs.{declared.later.Later.{Later}, declared.watch.Watch.{Watch}, Cause.{fence_after, write_back_after}, Watching.{Asks, has_line}}

-- the first write-back behind the place of each line of the bytes that are watched
pub record IsLater (watch : Watch) (later : Later) (es : List Event) : Type 0 where
  pub each : (b : ℕ) → has_line watch.stored b ≡ true → (state_at later.written_back b).of ≡ write_back_after es (line_of_byte b) later.place

-- whether a finding asks for a byte that had to be durable
unfoldable pub asks_byte : Finding → Bool
asks_byte (finding.PersistFail byte) = true
asks_byte (finding.CheckFail byte) = true
asks_byte (finding.OrderedFail byte after crash) = true
asks_byte (finding.OrderedSameLine byte after) = true
asks_byte _ = false

-- what the rows ask for is watched
abbrev pub AllAsk : Watch → List Row → Type 0
AllAsk watch rows = (k : ℕ) (r : Row) → k < length rows → Asks watch (get_or rows k r).finding

-- the byte that a finding asks for, or 0
unfoldable pub asked : Finding → ℕ
asked (finding.PersistFail byte) = byte
asked (finding.CheckFail byte) = byte
asked (finding.OrderedFail byte after crash) = byte
asked (finding.OrderedSameLine byte after) = byte
asked _ = 0

-- the rows' places rise, from 1 to that of the section's end
pub record AreInOrder (rows : List Row) (n : ℕ) : Type 0 where
  pub some : (k : ℕ) (r : Row) → k < length rows → 0 < (get_or rows k r).place
  pub within : (k : ℕ) (r : Row) → k < length rows → (get_or rows k r).place ≤ suc n
  pub rise : (j k : ℕ) (r : Row) → j ≤ k → k < length rows → (get_or rows j r).place ≤ (get_or rows k r).place

-- the first write-back of the line of the row's byte, behind the place in front of the row
abbrev pub behind_row : List Event → Row → ℕ
behind_row es row = write_back_after es (line_of_byte (asked row.finding)) (row.place - 1)

-- that of each row that asks for a byte, the last one first
pub record AreBehind (es : List Event) (rows : List Row) (found : List ℕ) : Type 0 where
  pub long : length found ≡ length rows
  pub each : (k d : ℕ) (r : Row) → k < length rows → asks_byte (get_or rows k r).finding ≡ true → get_or found (length rows - suc k) d ≡ behind_row es (get_or rows k r)

-- the first fence behind each place, the last one first
pub record AreFences (es : List Event) (fences : List ℕ) : Type 0 where
  pub long : length fences ≡ suc (length es)
  pub each : (k d : ℕ) → k ≤ length es → get_or fences (length es - k) d ≡ fence_after es k

-- where a row asks for a byte, these are the first fences behind each place
abbrev pub AreFencesFor : List Event → List Row → List ℕ → Type 0
AreFencesFor es rows fences = (k : ℕ) (r : Row) → k < length rows → asks_byte (get_or rows k r).finding ≡ true → AreFences es fences
