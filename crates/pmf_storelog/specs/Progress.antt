-- What a reader keeps of the bytes that it has read. Defined here.
use Rattle.std.specs.Prelude.{◌≡◌, ℕ, ◌+◌, ◌≤◌, List, [], ◌∷◌, ◌++◌, length, take}
use Rattle.pmf_storelog.specs.{Answers.{IsShown}, LogText.{first_fault}, Separators.{parts_of, ended_parts, ended_records}, Tally.{HasTaken}, declared.fault.LogFault.{LogFault}, declared.progress.Progress.{Progress}}

-- what is kept is what these bytes of the run give: the ended records' tally, and the unfinished part
pub record HasParsed (run : ℕ) (bytes : List ℕ) (progress : Progress) : Type 0 where
  pub taken : HasTaken run (ended_records bytes) progress.tally
  pub parts : parts_of bytes ≡ ended_parts bytes ++ progress.carry.items ∷ []

-- the piece after these bytes is taken up to a rest without a separator
pub record HasParsedTo (run : ℕ) (bytes piece rest : List ℕ) (progress : Progress) : Type 0 where
  pub front : List ℕ
  pub whole : front ++ rest ≡ piece
  pub open_end : parts_of rest ≡ rest ∷ []
  pub parsed : HasParsed run (bytes ++ front) progress

-- whatever bytes it was, with the front of the piece up to the one place behind them, that is read on to the other place
pub record Reaches (piece : List ℕ) (start end : ℕ) (old new : Progress) : Type 0 where
  pub rises : start ≤ end
  pub within : end ≤ length piece
  pub grows : new.tally.records + start ≤ old.tally.records + end
  pub parsed : (run : ℕ) (bytes : List ℕ) → HasParsed run (bytes ++ take start piece) old → HasParsed run (bytes ++ take end piece) new

-- whatever bytes were read up to this place of the piece, the fault is the first one of the records that end in the piece
abbrev pub IsFaultBehind : List ℕ → ℕ → Progress → LogFault → Type 0
IsFaultBehind piece start old fault = (run : ℕ) (bytes : List ℕ) → HasParsed run (bytes ++ take start piece) old → IsShown fault (first_fault (ended_records (bytes ++ piece)))
