-- Why a text is not read further, or a section not told. Defined here.
use Rattle.std.specs.{Prelude.{◌≡◌, ◌≢◌, ℕ, List, take, Option, Some}, Io.KnownBytes.{Appends}}
use Rattle.pmf_verdict.specs.Checked.{Checked}
use Rattle.pmf_merge.specs.{Feeding.{IsTextFault}, declared.fault.MergeFault.{MergeFault}}
use Rattle.pmf_merge.specs.declared.fault.MergeFault.TheVariants as fault

-- it tells of no text, and of no section
abbrev pub IsOfNoText : MergeFault → Type 0
IsOfNoText (fault.Write written) = Unit {0}
IsOfNoText fault.OutOfMemory = Unit {0}
IsOfNoText _ = ⊥

-- the text of this index, which begins with what was left of its source, is not read further
abbrev pub IsFeedFault : Option (List ℕ) → ℕ → MergeFault → Type 0
IsFeedFault start index (fault.Read of) = of ≡ index
IsFeedFault start index (fault.Text of found) = (of ≡ index) × IsTextFault start found
IsFeedFault start index fault.OutOfMemory = Unit {0}
IsFeedFault start index _ = ⊥

-- no byte more is read of the text of this index
abbrev pub IsReadFault : ℕ → MergeFault → Type 0
IsReadFault index (fault.Read of) = of ≡ index
IsReadFault index fault.OutOfMemory = Unit {0}
IsReadFault index _ = ⊥

-- the section is not told: the last that was told has its name and other events
abbrev pub IsTellFault : Option Checked → Checked → MergeFault → Type 0
IsTellFault last v (fault.Conflict name) = (l : Checked) × (last ≡ Some l) × (l.section.name ≡ name) × (v.section.name ≡ name) × (l.section ≢ v.section)
IsTellFault last v found = IsOfNoText found

-- a front of such a text was written
abbrev pub WritesFront : (List ℕ → Type 0) → Option (List ℕ) → Option (List ℕ) → Type 0
WritesFront IsText held holds = (text : List ℕ) × (count : ℕ) × IsText text × Appends held holds (take count text)
