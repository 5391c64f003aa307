-- What is written of ledger texts of any length that are merged as they stand. Defined here.
use Rattle.std.specs.{Prelude.{◌≡◌, ◌≢◌, ◌↔◌, ℕ, ◌<◌, Bool, true, List, [], ◌∷◌, ◌++◌, length, map, slice_index_or, flat_map, option_map, Contains, Option, None, Some}, Io.KnownBytes.{Appends, Consumes}}
use Rattle.pmf_event.specs.{declared.name.Name.{Name}, declared.profile.Profile.{Profile}, declared.profile.Profile.TheVariants.{One}}
use Rattle.pmf_ledger.specs.RawText.{IsRawFront, IsRawText, RawBlock, RawNamesRise, tells_fail, text_on_trust}
use Rattle.pmf_merge.specs.{Heads.{IsUpTo}, Merging.{IsAllOf}, RawFeeding.{IsNoRawText, IsRawHead, head_in}, declared.fault.MergeFault.{MergeFault}, declared.raw_feed.RawFeed.{RawFeed}}
use Rattle.pmf_merge.specs.declared.fault.MergeFault.TheVariants as fault

-- the blocks of all texts, each once, in the order of their names
pub record AreBlocksOf (parts : List (List RawBlock)) (out : List RawBlock) : Type 0 where
  pub rises : RawNamesRise out
  pub same : (b : RawBlock) → Contains out b ↔ Contains (flat_map (λ (blocks : List RawBlock). blocks) parts) b

-- all that was left of each source is a text by the profile, of these blocks
abbrev pub AreRawTexts : Profile → List (Option (List ℕ)) → List (List RawBlock) → Type 0
AreRawTexts profile [] [] = Unit {0}
AreRawTexts profile (start ∷ starts) (blocks ∷ parts) = ((text : List ℕ) × IsAllOf start text × IsRawText profile blocks text) × AreRawTexts profile starts parts
AreRawTexts profile [] (blocks ∷ parts) = ⊥
AreRawTexts profile (start ∷ starts) [] = ⊥

-- one of the blocks has a row that counts as fail
abbrev pub AnyTellsFail : List RawBlock → Type 0
AnyTellsFail blocks = (b : RawBlock) × Contains blocks b × (tells_fail b.bytes ≡ true)

-- all sources were read, and the text of their blocks was written, with this answer whether one tells a fail; without a source it is by
-- profile One
pub record Trusts (starts : List (Option (List ℕ))) (held holds : Option (List ℕ)) (fails : Bool) : Type 0 where
  pub profile : Profile
  pub parts : List (List RawBlock)
  pub texts : AreRawTexts profile starts parts
  pub out : List RawBlock
  pub blocks : AreBlocksOf parts out
  pub written : Appends held holds (text_on_trust profile out)
  pub fails_are_told : (fails ≡ true) ↔ AnyTellsFail out
  pub of_none : starts ≡ [] → profile ≡ One

-- what was read of a source begins with a first text line by the profile and these blocks
abbrev pub BeginsRaw : Option (List ℕ) → Profile → List RawBlock → Type 0
BeginsRaw start profile blocks = (front : List ℕ) × (rest : List ℕ) × (left : Option (List ℕ)) × IsRawFront profile blocks front × Consumes start left (front ++ rest)

-- the block stands in what was, or may be, read of one of the sources
abbrev pub WasRead : List (Option (List ℕ)) → RawBlock → Type 0
WasRead starts b = (i : ℕ) × (i < length starts) × (profile : Profile) × (blocks : List RawBlock) × BeginsRaw (slice_index_or starts i None) profile blocks × Contains blocks b

-- two blocks that were read have this name, and differ
abbrev pub IsRawConflict : List (Option (List ℕ)) → Name → Type 0
IsRawConflict starts name = (b : RawBlock) × (c : RawBlock) × WasRead starts b × WasRead starts c × (b.name ≡ name) × (c.name ≡ name) × (b ≢ c)

-- the text of this index is by another profile than the first
abbrev pub IsRawMismatch : List (Option (List ℕ)) → ℕ → Type 0
IsRawMismatch starts index =
    (first : Profile) × (other : Profile) × (first ≢ other) × BeginsRaw (slice_index_or starts 0 None) first [] × BeginsRaw (slice_index_or starts index None) other []

-- the texts are not merged on trust for this reason; of a text that is refused it is not said which fault is told
abbrev pub IsTrustFaultOf : List (Option (List ℕ)) → MergeFault → Type 0
IsTrustFaultOf starts (fault.Read index) = index < length starts
IsTrustFaultOf starts (fault.Text index found) = (index < length starts) × IsNoRawText (slice_index_or starts index None)
IsTrustFaultOf starts (fault.ProfileMismatch index) = (index < length starts) × IsRawMismatch starts index
IsTrustFaultOf starts (fault.Conflict name) = IsRawConflict starts name
IsTrustFaultOf starts (fault.Write written) = Unit {0}
IsTrustFaultOf starts fault.OutOfMemory = Unit {0}

-- the blocks that come next, and their names
abbrev pub heads_of : List RawFeed → List (Option RawBlock)
heads_of feeds = map head_in feeds

abbrev pub raw_names_of : List RawFeed → List (Option Name)
raw_names_of feeds = map (option_map (λ (b : RawBlock). b.name)) (heads_of feeds)

-- this block comes next in the text of this index, and none that comes next in another comes before it
abbrev pub IsLeastRaw : List RawFeed → ℕ → RawBlock → Type 0
IsLeastRaw feeds index v =
    (slice_index_or (heads_of feeds) index None ≡ Some v) × ((i : ℕ) (w : RawBlock) → slice_index_or (heads_of feeds) i None ≡ Some w → IsUpTo v.name w.name)

-- the first n texts were read up to their next blocks, and what stands before these was told
pub record IsTrusting (n : ℕ) (starts lefts : List (Option (List ℕ))) (feeds : List RawFeed) (profile : Profile) (out : List RawBlock) : Type 0 where
  pub told : ℕ → List RawBlock
  pub feeds_are : length feeds ≡ n
  pub heads : (i : ℕ) (d : RawFeed) → i < n → IsRawHead (slice_index_or starts i None) (slice_index_or lefts i None) (told i) (slice_index_or feeds i d)
  pub by_one : (i : ℕ) (d : RawFeed) → i < n → (slice_index_or feeds i d).profile ≡ profile
  pub members : (b : RawBlock) → Contains out b ↔ ((i : ℕ) × (i < n) × Contains (told i) b)
  pub after : (i : ℕ) (v c : RawBlock) → i < n → slice_index_or (heads_of feeds) i None ≡ Some v → Contains out c → IsUpTo c.name v.name
  pub rises : RawNamesRise out
