-- What a reader keeps of a ledger text that hands out each block once it was read. Defined here.
use Rattle.std.specs.Prelude.{◌≡◌, ℕ, ◌+◌, ◌<◌, ◌≤◌, List, [], ◌∷◌, ◌++◌, length, false, Option, None, Some, Contains, All, AllPairs}
use Rattle.pmf_event.specs.{declared.name.Name.{Name}, Section.{Trace}}
use Rattle.pmf_verdict.specs.Checked.{Checked}
use Rattle.pmf_ledger.specs.{declared.block_lines.BlockFault.{BlockFault}, declared.block_lines.BlockLines.{BlockLines}, declared.block_reader.BlockReader.{BlockReader}, Following.{StandsFor}, Loading.{Reading, AtFault, IsOfText, after_lines, fault_through, is_line_end, left_of, lines_of, parts_of, reading_through}, Names.{IsBefore}}
use Rattle.pmf_ledger.specs.declared.block_lines.BlockFault.TheVariants as fault

-- the names of the sections rise
abbrev pub NamesRise : List Trace → Type 0
NamesRise sections = AllPairs (λ (s : Trace) (t : Trace). IsBefore s.name t.name) sections

-- this is the name of the last section, if there is one
abbrev pub IsLastName : List Trace → Option Name → Type 0
IsLastName sections None = sections ≡ []
IsLastName sections (Some name) = (before : List Trace) × (last : Trace) × (sections ≡ before ++ last ∷ []) × (last.name ≡ name)

-- the reading as if it had no block
abbrev pub without_blocks : Reading → Reading
without_blocks r = record { profile = r.profile; blocks = []; stage = r.stage }

-- the reading with these blocks before its own
abbrev pub behind : List Trace → Reading → Reading
behind blocks r = record { profile = r.profile; blocks = blocks ++ r.blocks; stage = r.stage }

-- they stand for the reading of the text lines so far, of which the blocks were handed out, and this text line comes next
pub record AreLinesOf (r : Reading) (line : ℕ) (lines : BlockLines) : Type 0 where
  pub stands : StandsFor (without_blocks r) lines.blocks lines.next
  pub line_is : lines.line ≡ line
  pub count : lines.count ≡ length r.blocks
  pub few : lines.count < lines.line
  pub rises : NamesRise r.blocks
  pub last : IsLastName r.blocks lines.last

-- the same, while the block that is new, if one is, was not handed out
pub record IsBeforeHandingOut (r e : Reading) (line : ℕ) (lines : BlockLines) : Type 0 where
  pub stands : StandsFor e lines.blocks lines.next
  pub one : length e.blocks ≤ 1
  pub line_is : lines.line ≡ line
  pub count : lines.count ≡ length r.blocks
  pub few : lines.count + 1 < lines.line
  pub rises : NamesRise r.blocks
  pub last : IsLastName r.blocks lines.last

-- what a text line gives is the block that is new in the reading, if one is
abbrev pub GivesBlock : Reading → Reading → Option Checked → Type 0
GivesBlock r e None = e.blocks ≡ r.blocks
GivesBlock r e (Some given) = (e.blocks ≡ r.blocks ++ given.section ∷ []) × (given.profile ≡ e.profile)

-- a text line is refused: the reading stops there with this fault, memory aside; or its new block doesn't come after one before it
abbrev pub RefusesLine : Reading → Reading → BlockFault → Type 0
RefusesLine r e (fault.Text found) = IsOfText found → e.stage ≡ AtFault found
RefusesLine r e (fault.OutOfOrder name) =
    (s : Trace) × (t : Trace) × Contains r.blocks s × (e.blocks ≡ r.blocks ++ t ∷ []) × (t.name ≡ name) × (IsBefore s.name t.name → ⊥)

-- none of the bytes ends a text line
abbrev pub HasNoLineEnd : List ℕ → Type 0
HasNoLineEnd bytes = All (λ c. is_line_end c ≡ false) bytes

-- the text so far ends in a text line that has this front: whatever follows, its text lines go on from this reading
pub record EndsWithin (text front : List ℕ) (line : ℕ) (r : Reading) : Type 0 where
  pub unended : HasNoLineEnd front
  pub goes_on : (more : List ℕ) → after_lines r line (lines_of (front ++ more)) ≡ reading_through (text ++ more)
  pub counted : (more : List ℕ) → line + length (lines_of (front ++ more)) ≡ length (parts_of (text ++ more))
  pub left : (more : List ℕ) → left_of (front ++ more) ≡ left_of (text ++ more)

-- the reader has taken these bytes, and handed out the blocks of this reading
pub record HasTaken (text : List ℕ) (r : Reading) (reader : BlockReader) : Type 0 where
  pub line : ℕ
  pub lines : AreLinesOf r line reader.lines
  pub within : EndsWithin text reader.front.items line r

-- a block has this name, which comes not after that of one before it
abbrev pub IsOutOfOrder : List Trace → Name → Type 0
IsOutOfOrder blocks name =
    (before : List Trace) × (t : Trace) × (rest : List Trace) × (s : Trace) × (blocks ≡ before ++ t ∷ rest) × Contains before s × (t.name ≡ name) × (IsBefore s.name t.name → ⊥)

-- whatever follows, a text that begins so has this fault, memory aside
abbrev pub RefusesFront : List ℕ → BlockFault → Type 0
RefusesFront text (fault.Text found) = IsOfText found → (more : List ℕ) → fault_through (text ++ more) ≡ Some found
RefusesFront text (fault.OutOfOrder name) = (more : List ℕ) → IsOutOfOrder (reading_through (text ++ more)).blocks name
