-- The sections that were handed in, in the order of their names, and the queue of them. Defined here.
use Rattle.std.specs.{Prelude.{◌≡◌, ◌⊎◌, ◌↔◌, ℕ, Bool, true, false, List, map, length, zip, AllPairs}, List.{range_with_len}, List.Sorted.{IsPermutation}}
use Rattle.pmf_event.specs.{declared.profile.Profile.{Profile}, Section.{Trace}}
use Rattle.pmf_ledger.specs.{Names.{ComesBefore}, Repeats.{IsLeastTwice, section_at}}
use Rattle.pmf_verdict.specs.Checked.{Checked, checked_by}
use Rattle.pmf_farm.specs.declared.fault.FarmFault.{FarmFault}
use Rattle.pmf_farm.specs.declared.fault.FarmFault.TheVariants as fault

-- a section as it is checked, the place at which it was handed in, and whether its verdict is there
pub record Slotted : Type 0 where
  pub checked : Checked
  pub place : ℕ
  pub filled : Bool

-- the slot of the section at this place, without a verdict; and one for each section, in their order
abbrev pub slot_at : Profile → List Trace → ℕ → Slotted
slot_at profile sections place = record { checked = checked_by profile (section_at sections place); place = place; filled = false }

abbrev pub slots_by : Profile → List Trace → List Slotted
slots_by profile sections = map (slot_at profile sections) (range_with_len 0 (length sections))

-- what a roll checks, and the sections of that
abbrev pub checks : List Slotted → List Checked
checks roll = map (λ s. s.checked) roll

abbrev pub sections_of : List Checked → List Trace
sections_of checked = map (λ c. c.section) checked

-- each name of a roll comes before all that follow
abbrev pub RollRises : List Slotted → Type 0
RollRises roll = AllPairs (λ a b. ComesBefore a.checked b.checked) roll

-- the sections of a roll with their places
abbrev pub with_places : List Slotted → List (Trace × ℕ)
with_places roll = map (λ s. (s.checked.section, s.place)) roll

-- a queue has the sections of the roll with their places, in an order of its own
abbrev pub IsQueueOf : List Slotted → List Trace → List ℕ → Type 0
IsQueueOf roll sections places = IsPermutation (with_places roll) (zip sections places)

-- the slot is filled now if it was, or if the verdict is that of its section by its profile; nothing else of it changes
pub record Keeps (verdict : Checked) (old new : Slotted) : Type 0 where
  pub checked : new.checked ≡ old.checked
  pub place : new.place ≡ old.place
  pub filled : (new.filled ≡ true) ↔ ((old.filled ≡ true) ⊎ (verdict ≡ old.checked))

-- the slot is the same, and still filled if it was
pub record Stays (old new : Slotted) : Type 0 where
  pub checked : new.checked ≡ old.checked
  pub place : new.place ≡ old.place
  pub filled : old.filled ≡ true → new.filled ≡ true

-- the fault tells the least name that stands twice, or is want of memory
abbrev pub IsRepeatOf : List Trace → FarmFault → Type 0
IsRepeatOf sections (fault.TwiceNamed name) = IsLeastTwice sections name
IsRepeatOf sections fault.OutOfMemory = Unit {0}
IsRepeatOf sections _ = ⊥
