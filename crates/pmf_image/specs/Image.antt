-- Crash images (x86 persistency, as in Raad et al., POPL 2020: the stores of one thread to one line
-- become durable in program order, and different lines have no order without a fenced write-back
-- between them). Defined here: that a written-back line is durable once a later fence has completed,
-- and that the next store of a line may be torn byte by byte.
-- (E and T of the examples: docs/DEFINITIONS.md)
use Rattle.std.specs.Prelude.{◌≡◌, ℕ, ◌+◌, ◌-◌, ◌<◌, ◌≤◌, Bool, true, false, ◌&&◌, ◌||◌, ◌==◌, nat_le, List, [], ◌∷◌, Option, None, Some, unwrap_or, if◌then◌else◌}
use Rattle.pmf_event.specs.{declared.event.Event.{Event}, Line.{line_of_byte}, Places.{greatest, count, some_between}, Store.{at, stores, stores_line, flushes, is_fence}}

-- how many of the first n events are stores that meet the line
-- on E: of line 0x1000 at 2 it is 1, at 6 it is 2
unfoldable pub count_of : List Event → ℕ → ℕ → ℕ
count_of es n line = count (at (stores_line line) es) n

-- whether place k is a write-back of the line that a fence, at most n, follows
-- on E: place 2 is, of line 0x1000, for each n from 4 on
unfoldable pub is_fenced : List Event → ℕ → ℕ → ℕ → Bool
is_fenced es n line k = at (flushes line) es k && some_between (at is_fence es) k (n + 1)

-- how many stores of the line stand before its last write-back that a fence, at most n, follows: these
-- are durable. Without such a write-back `0 - 1` is 0, and so is the floor
-- on E: of line 0x1000 at 3 it is 0, at 5 it is 1
unfoldable pub floor_of : List Event → ℕ → ℕ → ℕ
floor_of es n line = count_of es (greatest (is_fenced es n line) n - 1) line

-- a crash image: a finite map from lines to cuts, and a finite set of torn bytes
-- example: one without cuts and torn bytes has each line at its floor
pub record Image : Type 0 where
  pub cuts : List (ℕ × ℕ)
  pub torn : List ℕ

-- the value of a key in a finite map: that of its first pair
-- example: of 5 in (5, 1) and (5, 2) it is 1
unfoldable pub value_of : List (ℕ × ℕ) → ℕ → Option ℕ
value_of [] key = None
value_of (pair ∷ pairs) key = if pair.0 == key then Some pair.1 else value_of pairs key

-- whether the number is in the set
-- example: 2 is in 1, 2
unfoldable pub is_in : List ℕ → ℕ → Bool
is_in [] b = false
is_in (x ∷ xs) b = x == b || is_in xs b

-- how many stores of the line the image holds: its cut, and the floor where it has none
-- on E: in an image without cuts that of line 0x1000 at 5 is 1
unfoldable pub cut_of : List Event → ℕ → Image → ℕ → ℕ
cut_of es n image line = unwrap_or (value_of image.cuts line) (floor_of es n line)

-- the image is allowed after a crash at n: each cut lies from the floor to the count, and where bytes
-- of a line are torn, there is a store after the cut
-- on E: at 5 the cuts 1 and 2 of line 0x1000 are allowed, and 0 and 3 are not
pub record IsAllowed (es : List Event) (n : ℕ) (image : Image) : Type 0 where
  pub low : (line : ℕ) → floor_of es n line ≤ cut_of es n image line
  pub high : (line : ℕ) → cut_of es n image line ≤ count_of es n line
  pub torn : (b : ℕ) → is_in image.torn b ≡ true → cut_of es n image (line_of_byte b) < count_of es n (line_of_byte b)

-- how many of its line's stores, from the first on, the image lets in at byte b: the cut, and one more
-- where it is torn
-- on E: at 5, without cuts and 0x1008 torn, it is 2 at 0x1008 and 1 at 0x1000
unfoldable pub reach_of : List Event → ℕ → Image → ℕ → ℕ
reach_of es n image b = cut_of es n image (line_of_byte b) + (if is_in image.torn b then 1 else 0)

-- whether place k is a store of byte b, and is among those of its line that the image lets in there
-- on E: in that image place 3 is, at 0x1008
unfoldable pub reaches : List Event → ℕ → Image → ℕ → ℕ → Bool
reaches es n image b k = at (stores b) es k && nat_le (count_of es k (line_of_byte b)) (reach_of es n image b)

-- what byte b shows: the last store that reaches it, or 0
-- on E: in that image 0x1008 shows 3; where nothing is torn it shows 0
unfoldable pub shows : List Event → ℕ → Image → ℕ → ℕ
shows es n image b = greatest (reaches es n image b) n
