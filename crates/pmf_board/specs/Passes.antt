-- A board and a pass as contracts see them. Defined here.
use Rattle.std.specs.Prelude.{ℕ, ◌<◌, ◌≤◌}
use Rattle.atomic_table.specs.Seated.{TableId}
use Rattle.pmf_board.specs.{declared.view.View.{View}, Views.{times}}

-- which board it is: no other has the same. Its words are its sections
abbrev pub BoardId : Type 0
BoardId = TableId

-- which board a pass is of, and what it took, marked and saw
pub record PassValue : Type 0 where
  pub board : BoardId
  pub view : View

-- the pass has at least one share and at most all, and took only sections that the board has
pub record IsSound (board : BoardId) (v : View) : Type 0 where
  pub some : 0 < v.shares
  pub all : v.shares ≤ 65
  pub within : (s k : ℕ) → 0 < times s k v → s < board.words
