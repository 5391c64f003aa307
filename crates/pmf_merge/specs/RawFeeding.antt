-- What is read of a ledger text up to its next block, as it stands. Defined here.
use Rattle.std.specs.{Prelude.{◌≡◌, ◌⊎◌, ⊤, ℕ, ◌<◌, ◌≤◌, List, [], ◌∷◌, ◌++◌, length, drop, Bool, true, false, Option, None, Some, option_map}, Io.KnownBytes.{Consumes, IsAtEnd}}
use Rattle.pmf_event.specs.declared.{name.Name.{Name}, profile.Profile.{Profile}}
use Rattle.pmf_ledger.specs.{declared.raw_text.FirstBlock.{FirstBlock}, LedgerText.{text_of_end}, RawText.{IsFirst, IsRawFront, IsRawText, RawBlock, RawNamesRise, raw_of}}
use Rattle.pmf_merge.specs.declared.{fault.MergeFault.{MergeFault}, raw_feed.RawFeed.{RawFeed}, unread.Unread.{Unread}}
use Rattle.pmf_merge.specs.declared.fault.MergeFault.TheVariants as fault

-- what was not taken
abbrev pub rest_of : Unread → List ℕ
rest_of unread = drop unread.at unread.bytes.items

-- these bytes were read behind the rest: some, or the source is at its end; and either a piece is there now, or the source is at its end
pub record ReadsMore (left now : Option (List ℕ)) (rest longer : List ℕ) (more : Bool) : Type 0 where
  pub read : List ℕ
  pub longer_is : longer ≡ rest ++ read
  pub consumed : Consumes left now read
  pub some : more ≡ true → length rest < length longer
  pub none : more ≡ false → IsAtEnd now × (longer ≡ rest)
  pub filled : (16384 ≤ length longer) ⊎ IsAtEnd now

-- this is the name of the last block, if there is one
abbrev pub IsLastRaw : List RawBlock → Option Name → Type 0
IsLastRaw told None = told ≡ []
IsLastRaw told (Some name) = (before : List RawBlock) × (last : RawBlock) × (told ≡ before ++ last ∷ []) × (last.name ≡ name)

-- of a source that had these bytes left, where they are known, the first text line and these blocks were taken, and those that are
-- left come behind them and the rest
pub record IsRawFed (start left : Option (List ℕ)) (told : List RawBlock) (feed : RawFeed) : Type 0 where
  pub front : List ℕ
  pub begins : IsRawFront feed.profile told front
  pub read : Consumes start left (front ++ rest_of feed.unread)
  pub count : feed.told ≡ length told
  pub last : IsLastRaw told feed.last

-- the block that comes next, if one does
abbrev pub head_in : RawFeed → Option RawBlock
head_in feed = option_map (raw_of (rest_of feed.unread)) feed.next

-- and this block comes next, which the rest begins with; or the rest is the last text line, and no byte is left
abbrev pub ComesNext : Option (List ℕ) → List RawBlock → List ℕ → Option FirstBlock → Type 0
ComesNext left told rest None = IsAtEnd left × (rest ≡ text_of_end (length told))
ComesNext left told rest (Some found) = IsFirst rest found × RawNamesRise (told ++ raw_of rest found ∷ [])

pub record IsRawHead (start left : Option (List ℕ)) (told : List RawBlock) (feed : RawFeed) : Type 0 where
  pub fed : IsRawFed start left told feed
  pub next : ComesNext left told (rest_of feed.unread) feed.next

-- what the source has is no text of blocks
abbrev pub IsNoRawText : Option (List ℕ) → Type 0
IsNoRawText start = (text : List ℕ) (profile : Profile) (blocks : List RawBlock) → start ≡ Some text → IsRawText profile blocks text → ⊥

-- the text of this index, which begins with what was left of its source, is not read further
abbrev pub IsRawFault : Option (List ℕ) → ℕ → MergeFault → Type 0
IsRawFault start index (fault.Read of) = of ≡ index
IsRawFault start index (fault.Text of found) = (of ≡ index) × IsNoRawText start
IsRawFault start index fault.OutOfMemory = ⊤
IsRawFault start index _ = ⊥
