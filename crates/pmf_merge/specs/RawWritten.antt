-- The text of the blocks that were told as they stand, and how far it is written. Defined here.
use Rattle.std.specs.Prelude.{◌≡◌, ◌≢◌, ◌⊎◌, ◌↔◌, ℕ, List, [], ◌∷◌, ◌++◌, Contains, length, codes, Option, None, Some}
use Rattle.pmf_device.specs.Pages.{IsPage}
use Rattle.pmf_event.specs.declared.{name.Name.{Name}, profile.Profile.{Profile}}
use Rattle.pmf_ledger.specs.RawText.{RawBlock, RawNamesRise, bytes_of, text_on_trust, trusted_version_of}
use Rattle.pmf_merge.specs.{Refusing.{IsOfNoText}, declared.{fault.MergeFault.{MergeFault}, raw_written.RawWritten.{RawWritten}}}
use Rattle.pmf_merge.specs.declared.fault.MergeFault.TheVariants as fault

-- the last block has this name and these bytes, if there is one
abbrev pub IsLastTold : List RawBlock → Option Name → List ℕ → Type 0
IsLastTold out None bytes = out ≡ []
IsLastTold out (Some name) bytes = (before : List RawBlock) × (out ≡ before ++ record { name = name; bytes = bytes } ∷ [])

-- the front of the text of these blocks was written, and the rest of it is kept
pub record IsRawWritten (profile : Profile) (held holds : Option (List ℕ)) (out : List RawBlock) (written : RawWritten) : Type 0 where
  pub front : List ℕ
  pub page : IsPage held holds front written.page
  pub whole : front ++ written.rest.items ≡ (trusted_version_of profile ++ codes "\n") ++ bytes_of out
  pub count : written.count ≡ length out
  pub last : IsLastTold out written.name written.last.items

-- this is the text of some blocks
abbrev pub IsTextOfBlocks : List ℕ → Type 0
IsTextOfBlocks text = (profile : Profile) × (out : List RawBlock) × (text ≡ text_on_trust profile out)

-- with this block more these are told, or it is told already
pub record AddsRaw (out : List RawBlock) (v : RawBlock) (new : List RawBlock) : Type 0 where
  pub members : (c : RawBlock) → Contains new c ↔ (Contains out c ⊎ (c ≡ v))
  pub rises : RawNamesRise new

-- the block is not told: one that was told has its name and other bytes
abbrev pub IsRawTellFault : List RawBlock → RawBlock → MergeFault → Type 0
IsRawTellFault out v (fault.Conflict name) = (l : RawBlock) × Contains out l × (l.name ≡ name) × (v.name ≡ name) × (l ≢ v)
IsRawTellFault out v found = IsOfNoText found
