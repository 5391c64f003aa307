-- What the loader keeps stands for a reading of the text lines so far. Defined here.
use Rattle.std.specs.Prelude.{◌≡◌, ◌==◌, Bool, false, ℕ, ◌<◌, List, [], length, drop, Result, Ok, Err}
use Rattle.pmf_ledger.specs.{declared.loading.LedgerFault.{LedgerFault}, declared.loading.LedgerFault.TheVariants.{Conflict}, declared.blocks.Blocks.{Blocks}, declared.blocks.Next.{Next}, Gathering.{Agrees}, Piles.{IsPileOf}, Loading.{Reading, AtVersion, AtBlock, AtEvents, AtRows, AtEnd, AtFault, IsFirstOther, IsOfText}}
use Rattle.pmf_verdict.specs.Checked.{rows_in}
use Rattle.pmf_ledger.specs.declared.blocks.Next.TheVariants as next

-- the pile is of the reading's blocks, and so many were read
pub record HasRead (reading : Reading) (blocks : Blocks) : Type 0 where
  pub pile : IsPileOf reading.profile reading.blocks blocks.pile
  pub count : blocks.count ≡ length reading.blocks

-- this comes next in the reading: of a section's events there are more, and of its rows some are left
abbrev pub IsNext : Reading → Next → Type 0
IsNext reading next.Version = (reading.stage ≡ AtVersion) × (reading.blocks ≡ [])
IsNext reading next.Block = reading.stage ≡ AtBlock
IsNext reading (next.Events section more told) = (reading.stage ≡ AtEvents section more told) × (0 < more)
IsNext reading (next.Rows verdict row) =
    (reading.stage ≡ AtRows verdict.section (drop row (rows_in verdict))) × (verdict.profile ≡ reading.profile) × (row < length (rows_in verdict))
IsNext reading next.End = reading.stage ≡ AtEnd

-- what is kept stands for the reading
abbrev pub StandsFor : Reading → Blocks → Next → Type 0
StandsFor reading blocks awaited = HasRead reading blocks × IsNext reading awaited

-- the reading stops with this fault: its blocks differ, or else its stage is a fault
abbrev pub IsStoppedBy : Reading → LedgerFault → Type 0
IsStoppedBy reading (Conflict name) = IsFirstOther reading.blocks name
IsStoppedBy reading found = Agrees reading.blocks × (reading.stage ≡ AtFault found)

-- the answer is the reading's: what is kept stands for it, or it stops with this fault, memory aside
abbrev pub Reaches : Reading → Result Next LedgerFault → Blocks → Type 0
Reaches reading (Ok awaited) blocks = StandsFor reading blocks awaited
Reaches reading (Err found) blocks = IsOfText found → IsStoppedBy reading found

-- nothing more comes, and nothing is left
abbrev pub is_over : Next → List ℕ → Bool
is_over next.End rest = length rest == 0
is_over _ rest = false
