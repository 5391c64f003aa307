-- What is read of a ledger text from its source, as far as it was read. Defined here.
use Rattle.std.specs.{Prelude.{◌≡◌, ℕ, ◌-◌, ◌≤◌, List, ◌++◌, length, take, drop, Option, None, Some}, Io.KnownBytes.{Consumes, IsAtEnd}}
use Rattle.pmf_verdict.specs.Checked.{Checked}
use Rattle.pmf_ledger.specs.{declared.block_lines.BlockFault.{BlockFault}, BlockReading.{GivesBlock, HasTaken, IsOutOfOrder}, Loading.{Reading, IsOfText, fault_through, reading_through}}
use Rattle.pmf_ledger.specs.declared.block_lines.BlockFault.TheVariants as fault
use Rattle.pmf_merge.specs.{Ahead.{IsAhead}, declared.feed.Feed.{Feed}}

-- of a source that had these bytes left, where they are known, these were taken, and those that are left come behind them and what
-- was read and not taken
pub record IsFed (start left : Option (List ℕ)) (feed : Feed) (text : List ℕ) (r : Reading) : Type 0 where
  pub taken : HasTaken text r feed.reader
  pub rises : feed.at ≤ feed.end
  pub within : feed.end ≤ length feed.piece.items
  pub read : Consumes start left (text ++ take (feed.end - feed.at) (drop feed.at feed.piece.items))
  pub ahead : IsAhead (take feed.end feed.piece.items) feed.ahead

-- what stands before the end of the next block was taken, and this is the block; without one all that was read was taken
abbrev pub TakesNext : Option (List ℕ) → Option (List ℕ) → List ℕ → Reading → Feed → Option Checked → Type 0
TakesNext start left text r feed given =
    (more : List ℕ) × (e : Reading) × IsFed start left feed (text ++ more) e × GivesBlock r e given × (given ≡ None → feed.at ≡ feed.end)

-- it was taken to its end, and is a ledger's text of this reading
pub record IsFedWhole (start left : Option (List ℕ)) (text : List ℕ) (r : Reading) : Type 0 where
  pub whole : Consumes start left text
  pub ended : IsAtEnd left
  pub faultless : fault_through text ≡ None
  pub reading_is : reading_through text ≡ r

-- these bytes at the front of what was left have this fault, memory aside
abbrev pub IsTextFault : Option (List ℕ) → BlockFault → Type 0
IsTextFault start (fault.Text found) = IsOfText found → (bytes : List ℕ) × (left : Option (List ℕ)) × Consumes start left bytes × (fault_through bytes ≡ Some found)
IsTextFault start (fault.OutOfOrder name) = (bytes : List ℕ) × (left : Option (List ℕ)) × Consumes start left bytes × IsOutOfOrder (reading_through bytes).blocks name
