-- How many stores some lines have. No public clause cites this.
use Rattle.std.specs.Prelude.{◌≡◌, ℕ, ◌≤◌, ◌<◌, ◌*◌, ◌%◌, List, length, get_or}
use Rattle.pmf_event.specs.{declared.event.Event.{Event}}
use Rattle.pmf_image.specs.Image.{count_of}
use Rattle.pmf_images.specs.{declared.counts.Counts.{Counts}, Sums.{COUNT_LIMIT, over}}

-- addresses of lines, in their order
pub record AreLines (lines : List ℕ) : Type 0 where
  pub rise : (j k : ℕ) (d : ℕ) → j ≤ k → k < length lines → get_or lines j d ≤ get_or lines k d
  pub aligned : (k d : ℕ) → k < length lines → get_or lines k d % 64 ≡ 0

-- as many of the numbers as the index tells lie below the address, and those behind do not
pub record IsCut (lines : List ℕ) (address index : ℕ) : Type 0 where
  pub within : index ≤ length lines
  pub before : (k : ℕ) → k < index → get_or lines k 0 < address
  pub behind : (k : ℕ) → index ≤ k → k < length lines → address ≤ get_or lines k 0

-- there are levels enough for the lines
pub record AreInOrder (counts : Counts) : Type 0 where
  pub lines : AreLines counts.lines.items
  pub room : 2 * length counts.lines.items ≤ length counts.sums.items

-- the count of each line is that of its stores among the first p events
pub record AreCounted (counts : Counts) (es : List Event) (p : ℕ) : Type 0 where
  pub few : p ≤ COUNT_LIMIT
  pub each : (k x : ℕ) → length counts.lines.items ≤ k → x < length counts.lines.items →
      over k counts.sums.items (length counts.lines.items) x ≡ count_of es p (get_or counts.lines.items x 0)
