-- Which stores of a section are not durable at its end, and what they lack. Defined here.
use Rattle.std.specs.Prelude.{ℕ, Bool, false, not, ◌&&◌, ◌==◌, List, length, Option, None, Some, is_some}
use Rattle.pmf_event.specs.{declared.event.Event.{Event}, declared.span.TheConstants.{ADDRESS_LIMIT}, Ranges.{first_from}, Store.{last_store}, Persist.{is_exposed}, LineBytes.{is_unwritten}}
use Rattle.pmf_shadow.specs.declared.standing.Standing.{Standing}
use Rattle.pmf_lint.specs.{declared.leaving.Left.{Left}, Marks.{Marks}}

-- whether byte b is checked and not durable at the end of the section, and its last store is at place k
unfoldable pub is_left : List Event → ℕ → ℕ → Bool
is_left es k b = last_store es (length es) b == k && is_exposed es (length es) b

-- the same, and no write-back of its line follows that store
unfoldable pub is_left_unwritten : List Event → ℕ → ℕ → Bool
is_left_unwritten es k b = is_left es k b && is_unwritten es (length es) b

-- whether a byte below the limit passes the test
abbrev pub some_below : (ℕ → Bool) → ℕ → Bool
some_below test limit = is_some (first_from test 0 limit)

-- whether the store at place k leaves such a byte that no write-back follows
unfoldable pub leaves_unwritten : List Event → ℕ → Bool
leaves_unwritten es k = some_below (is_left_unwritten es k) ADDRESS_LIMIT

-- whether it leaves one, and a write-back follows each of them, so that a fence alone is missing
unfoldable pub leaves_unfenced : List Event → ℕ → Bool
leaves_unfenced es k = some_below (is_left es k) ADDRESS_LIMIT && not (leaves_unwritten es k)

-- the list says of each place whether a byte below the limit passes the test of that place
abbrev pub AreMarked : (ℕ → ℕ → Bool) → ℕ → ℕ → List Bool → Type 0
AreMarked test limit places marks = Marks (λ k. some_below (test k) limit) places marks

-- what the bytes below the limit leave of a section is this: of each place whether its store leaves one, and whether one that no
-- write-back follows
pub record AreLeftBelow (es : List Event) (limit : ℕ) (left : Left) : Type 0 where
  pub all : AreMarked (is_left es) limit (length es) left.left.items
  pub unwritten : AreMarked (is_left_unwritten es) limit (length es) left.unwritten.items

-- the same of all bytes
abbrev pub AreLeft : List Event → Left → Type 0
AreLeft es left = AreLeftBelow es ADDRESS_LIMIT left

-- whether this is the place that was told
abbrev pub is_told : Option ℕ → ℕ → Bool
is_told None place = false
is_told (Some last) place = place == last

-- whether bytes that stand so are left by the store at the place
abbrev pub is_hit : Standing → ℕ → Bool
is_hit standing place = (standing.undurable && not standing.excluded) && is_told standing.last place
