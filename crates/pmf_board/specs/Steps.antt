-- What one step on the board's table tells its pass. Defined here.
use Rattle.std.specs.Prelude.{◌≡◌, ◌≢◌, ℕ, ◌+◌, ◌≤◌}
use Rattle.atomic_table.specs.Table.{Step, Me}
use Rattle.pmf_board.specs.{declared.view.View.{View}, Views.{task, times, seen, took, marked, IsFrozen}, Rule.{Agrees, entry_of}}

-- what a seat knows, and the slots it holds
abbrev pub Mine : Type 0
Mine = Me (Unit {0}) View

-- a look: the pass saw the section so
abbrev pub looked : Step (Unit {0}) → Mine → ℕ → Mine → Type 0
looked step me n after = Agrees me.0 step.word (entry_of n) × (after ≡ (seen me.0 step.word (entry_of n), me.1))

-- an exchange: where the word was as expected the pass took the next hand-out, else it saw the section so
abbrev pub exchanged : Step (Unit {0}) → Mine → ℕ → Mine → Type 0
exchanged step me n after =
    Agrees me.0 step.word (entry_of n)
    × (after.1 ≡ me.1)
    × (n ≡ step.first → after.0 ≡ took me.0 (task step.word ((entry_of n).handouts + 1)))
    × (n ≢ step.first → after.0 ≡ seen me.0 step.word (entry_of n))

-- a mark: the section is done
abbrev pub raised : Step (Unit {0}) → Mine → ℕ → Mine → Type 0
raised step me n after = Agrees me.0 step.word (entry_of n) × (after ≡ (marked me.0 step.word (entry_of n).handouts, me.1))

-- nothing changed, the pass took nothing twice, has no more shares than there are, and saw no more hand-outs of a section than when it was done
abbrev pub counted : Step (Unit {0}) → Mine → ℕ → Mine → Type 0
counted step me n after = (after ≡ me) × (me.0.shares ≤ 65) × ((s k : ℕ) → times s k me.0 ≤ 1) × IsFrozen me.0
