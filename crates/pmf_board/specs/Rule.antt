-- The board's rule on its words and on the views of all passes. Defined here.
use Rattle.std.specs.Prelude.{◌≡◌, ℕ, ◌+◌, ◌%◌, ◌<◌, ◌≤◌, true, cond, ◌&&◌, leb, List, map, length, sum_by, ◌↔◌, Contains}
use Rattle.pmf_board.specs.{declared.entry.Entry.{Entry}, declared.view.Sight.{Sight}, declared.view.View.{View}, Machine.{entry, entry_at}, Views.{times, marks, most_seen, spent, HasSeenDone, HasMarked}}
use mathlib.Core.Option.{some}
use lib.ListN.{get_elem?}

-- an entry as a number: the hand-outs, and 16 more where it is done
abbrev pub word_of : Entry → ℕ
word_of e = e.handouts + cond e.done 16 0

-- the entry that a number stands for
abbrev pub entry_of : ℕ → Entry
entry_of n = entry (n % 16) (leb 16 n)

-- 1 where the section was handed out with this number, else 0
abbrev pub due : List Entry → ℕ → ℕ → ℕ
due board s k = cond (leb 1 k && leb k (entry_at board s).handouts) 1 0

-- what a view saw is at most what stands, what it saw done stands so, with as many hand-outs, what it marked it saw done, and only a spent view has no share
pub record Fits (board : List Entry) (v : View) : Type 0 where
  pub most : (s : ℕ) → most_seen s v ≤ (entry_at board s).handouts
  pub done : (x : Sight) → Contains v.saw x → x.entry.done ≡ true → entry_at board x.section ≡ x.entry
  pub own : (s : ℕ) → HasMarked v s → HasSeenDone v s
  pub idle : v.shares ≡ 0 → v ≡ spent

-- no section has more than 8 hand-outs, shares add up to 65, each view fits, each hand-out was taken once, and a section is done exactly where some view marked it
pub record IsKept (board : List Entry) (views : List View) : Type 0 where
  pub few : (s : ℕ) → (entry_at board s).handouts ≤ 8
  pub shares_are : sum_by (λ v. v.shares) views ≡ 65
  pub fits : (port : ℕ) (v : View) → get_elem? views port ≡ some v → Fits board v
  pub once : (s k : ℕ) → sum_by (times s k) views ≡ due board s k
  pub done_is : (s : ℕ) → ((entry_at board s).done ≡ true) ↔ (0 < sum_by (marks s) views)

-- the words are those of a board of so many sections on which the rule is kept
pub record Rules (sections : ℕ) (words : List ℕ) (views : List View) : Type 0 where
  pub board : List Entry
  pub words_are : words ≡ map word_of board
  pub as_many : length board ≡ sections
  pub is_kept : IsKept board views

-- what the view saw and marked agrees with the entry: it isn't above it, and what was seen done has no more hand-outs
pub record Agrees (v : View) (s : ℕ) (e : Entry) : Type 0 where
  pub few : e.handouts ≤ 8
  pub most : most_seen s v ≤ e.handouts
  pub done : HasSeenDone v s → e.done ≡ true
  pub marked : HasMarked v s → e.done ≡ true
  pub frozen : HasSeenDone v s → most_seen s v ≡ e.handouts
