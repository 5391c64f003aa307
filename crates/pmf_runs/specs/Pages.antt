-- The states of the numbers in a level of pages.
use Rattle.std.specs.Prelude.{◌≡◌, ℕ, Option}
use Rattle.pmf_runs.specs.{declared.flagged.Flagged.{Flagged}, declared.level.Level.{Level}, declared.page.Page.{Page}, declared.state.State.{Ghosts}, Leaves.{leaf_state, leaf_begins, leaf_full, leaf_middle}, Levels.{level_state, level_begins}, Flags.{flagged_state, BeginsPlain, FlaggedJoined}, Joined.{JoinedBut, PartsJoined}, Spaces.{MakesSpace}}

module _ {S M : Type 0} {laws : Ghosts S M} where
  -- the state of a number in a level of pages is that in the leaf of the page that it is handed to
  abbrev pub pages_state : Level (Flagged (Page S M laws)) → S → ℕ → S
  pages_state = level_state (flagged_state laws.flagged (λ page. leaf_state page.leaf))

  -- a run of a level of pages begins at the number
  abbrev pub pages_begins : Level (Flagged (Page S M laws)) → ℕ → Type 0
  pages_begins = level_begins (BeginsPlain (λ page. leaf_begins page.leaf))

  -- the runs of each page of a level differ, but where one was cut at the numbers
  abbrev pub pages_joined : Level (Flagged (Page S M laws)) → Option ℕ → Option ℕ → Type 0
  pages_joined = PartsJoined (FlaggedJoined (λ page. JoinedBut page.leaf))

  -- the page that the place is handed to is not full, unless it can't be split
  abbrev pub pages_space : ℕ → Level (Flagged (Page S M laws)) → Type 0
  pages_space = MakesSpace (λ page. leaf_full page.part.leaf) (λ page. leaf_middle page.part.leaf) (λ place old new. new.part.leaf ≡ old.part.leaf)
