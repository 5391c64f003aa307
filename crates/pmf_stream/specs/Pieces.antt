-- What a log's reader takes of a stream, piece by piece. Defined here.
use Rattle.std.specs.Prelude.{◌≡◌, ◌≢◌, ℕ, Bool, true, List, ◌++◌, None}
use Rattle.pmf_storelog.specs.{declared.fault.LogFault.{LogFault}, declared.reader.LogReader.{LogReader}, LogText.{shown_fault, IsFaultOfAll, out_of_memory}, Reader.{HasRead}}

-- the reader stands for these bytes of the run, which show no fault yet
abbrev pub StandsFor : ℕ → List ℕ → LogReader → Type 0
StandsFor run bytes reader = HasRead run bytes reader × (shown_fault bytes ≡ None)

-- whatever the old reader stands for, the new one stands for it with these bytes behind
abbrev pub Takes : LogReader → List ℕ → LogReader → Type 0
Takes old piece new = (run : ℕ) (bytes : List ℕ) → StandsFor run bytes old → StandsFor run (bytes ++ piece) new

-- whatever the reader stands for, with these bytes behind it has this fault, whatever follows, want of memory aside
abbrev pub Refuses : LogReader → List ℕ → LogFault → Type 0
Refuses old piece fault = (run : ℕ) (bytes : List ℕ) → StandsFor run bytes old → fault ≢ out_of_memory → IsFaultOfAll fault (bytes ++ piece)

-- these bytes are kept behind the others, where any are kept
pub record Keeps (keeps keeps_then : Bool) (kept piece kept_then : List ℕ) : Type 0 where
  pub same : keeps_then ≡ keeps
  pub all : keeps ≡ true → kept_then ≡ kept ++ piece
