-- The board machine, told by the words and the views of a board. Defined here.
use Rattle.std.specs.Prelude.{◌≡◌, ℕ, ◌+◌, ◌<◌, ◌≤◌, true, List, map, length, set, bit_or, Some, None}
use Rattle.pmf_board.specs.{declared.entry.Entry.{Entry}, declared.view.View.{View}, Machine.{entry_at, hand_out, mark, take_below}, Rule.{IsKept, word_of}, Views.{task, took, marked}}
use mathlib.Core.Option.{some}
use lib.ListN.{get_elem?}

-- what a take of the machine gives is told by the section's word: where it is below the limit, the number one above it; else nothing
abbrev pub TakesAreToldByWords : Type 0
TakesAreToldByWords = (limit : ℕ) (board : List Entry) (s : ℕ) → limit ≤ 8 → s < length board
    → (word_of (entry_at board s) < limit → take_below limit board s ≡ Some (word_of (entry_at board s) + 1, hand_out board s))
    × (limit ≤ word_of (entry_at board s) → take_below limit board s ≡ None)

-- a hand-out adds 1 to the section's word, and a mark sets its bit of 16
abbrev pub ChangesAreStepsOnWords : Type 0
ChangesAreStepsOnWords = (board : List Entry) (s : ℕ)
    → (map word_of (hand_out board s) ≡ set (map word_of board) s (word_of (entry_at board s) + 1))
    × ((entry_at board s).handouts ≤ 8 → map word_of (mark board s) ≡ set (map word_of board) s (bit_or (word_of (entry_at board s)) 16))

-- what stands of a section that is done is changed by no take and by no mark: its hand-outs are frozen
abbrev pub DoneIsFrozen : Type 0
DoneIsFrozen = (board : List Entry) (s t : ℕ) → t < length board → (entry_at board s).done ≡ true
    → ((limit k : ℕ) (after : List Entry) → take_below limit board t ≡ Some (k, after) → entry_at after s ≡ entry_at board s)
    × (entry_at (mark board t) s ≡ entry_at board s)

-- where the rule is kept and a pass has a share, it is kept after a take of the machine, with the task in the pass's view, and after a mark, with the section in it
abbrev pub ChangesKeepTheRule : Type 0
ChangesKeepTheRule = (board : List Entry) (views : List View) (id : ℕ) (v : View) → IsKept board views → get_elem? views id ≡ some v → 0 < v.shares
    → (s : ℕ) → s < length board
    → ((limit k : ℕ) (after : List Entry) → limit ≤ 8 → take_below limit board s ≡ Some (k, after) → IsKept after (set views id (took v (task s k))))
    × IsKept (mark board s) (set views id (marked v s (entry_at board s).handouts))
