-- Ledger texts whose blocks are taken as they stand. Defined here.
use Rattle.std.specs.{Prelude.{◌≡◌, ◌⊎◌, ◌≤◌, ◌+◌, ℕ, suc, nat_eq, Bool, false, not, List, [], ◌∷◌, ◌++◌, length, take, drop, slice_index_or, codes, flat_map, All, AllPairs, Option, None, Some}, List.{list_any, starts_with}}
use Rattle.pmf_event.specs.declared.{name.Name.{Name}, profile.Profile.{Profile}, profile.Profile.TheVariants.{One, Two}}
use Rattle.pmf_storelog.specs.Numbers.{number_in_front}
use Rattle.pmf_verdict.specs.Checked.{Checked}
use Rattle.pmf_ledger.specs.{declared.head.Head.{Head}, declared.raw_text.FirstBlock.{FirstBlock}, LedgerText.{text_of_block, text_of_end, version_of}, Loading.{head_of, left_of, lines_of}, Names.{IsBefore}}

-- a block as it stands
pub record RawBlock : Type 0 where
  pub name : Name
  pub bytes : List ℕ

-- the block of a section in a ledger's text
abbrev pub raw_block : Checked → RawBlock
raw_block s = record { name = s.section.name; bytes = text_of_block s }

-- its bytes are a head that tells its name, and as many text lines as this tells
pub record IsWhole (block : RawBlock) : Type 0 where
  pub line : List ℕ
  pub more : List (List ℕ)
  pub lines : lines_of block.bytes ≡ line ∷ more
  pub ended : left_of block.bytes ≡ []
  pub head : Head
  pub told : head_of line ≡ Some head
  pub named : head.name ≡ block.name
  pub count : length more ≡ head.events + head.rows

-- the first text line of a ledger that was merged on trust
abbrev pub trusted_version_of : Profile → List ℕ
trusted_version_of One = codes "PMFARM-TRUSTED 1"
trusted_version_of Two = codes "PMFARM-TRUSTED 2"

-- the first text line of a ledger whose sections were checked, or of one that was merged on trust
abbrev pub IsVersion : Profile → List ℕ → Type 0
IsVersion profile line = (line ≡ version_of profile) ⊎ (line ≡ trusted_version_of profile)

-- the names of the blocks rise
abbrev pub RawNamesRise : List RawBlock → Type 0
RawNamesRise blocks = AllPairs (λ (a : RawBlock) (b : RawBlock). IsBefore a.name b.name) blocks

-- their bytes
abbrev pub bytes_of : List RawBlock → List ℕ
bytes_of blocks = flat_map (λ (b : RawBlock). b.bytes) blocks

-- the front of a text: its first text line, and these blocks
pub record IsRawFront (profile : Profile) (blocks : List RawBlock) (front : List ℕ) : Type 0 where
  pub version : List ℕ
  pub versioned : IsVersion profile version
  pub each : All IsWhole blocks
  pub rises : RawNamesRise blocks
  pub front_is : front ≡ (version ++ codes "\n") ++ bytes_of blocks

-- a text of these blocks, which tells their number behind them
abbrev pub IsRawText : Profile → List RawBlock → List ℕ → Type 0
IsRawText profile blocks text = (front : List ℕ) × IsRawFront profile blocks front × (text ≡ front ++ text_of_end (length blocks))

-- what is written of blocks on trust
abbrev pub text_on_trust : Profile → List RawBlock → List ℕ
text_on_trust profile blocks = ((trusted_version_of profile ++ codes "\n") ++ bytes_of blocks) ++ text_of_end (length blocks)

-- so many text lines, of which these are the bytes
pub record IsFirstLines (bytes : List ℕ) (count taken : ℕ) : Type 0 where
  pub within : taken ≤ length bytes
  pub ended : left_of (take taken bytes) ≡ []
  pub lines : length (lines_of (take taken bytes)) ≡ count

-- ---- whether a block tells a fail

-- the words behind the place of a row that counts as no fail
abbrev pub words_of_no_fail : List (List ℕ)
words_of_no_fail =
    codes " PERSIST PASS" ∷ codes " PERSIST EMPTY" ∷ codes " ORDERED PASS" ∷ codes " ORDERED EMPTY" ∷ codes " FLUSH DOUBLED" ∷ codes " FLUSH NEEDLESS" ∷ codes " TXADD DUPLOG"
    ∷ codes " CHECKEND PASS" ∷ []

-- whether the text behind a number begins with such words
abbrev pub begins_no_fail : Option (ℕ × List ℕ) → Bool
begins_no_fail None = false
begins_no_fail (Some found) = list_any (λ words. starts_with nat_eq found.1 words) words_of_no_fail

-- whether a text line begins like a row that counts as fail, or like none
unfoldable pub tells_fail_in : List ℕ → Bool
tells_fail_in line = not (begins_no_fail (number_in_front line))

-- of the text lines of a block with this head, those behind its head and its events
abbrev pub rows_behind : Option Head → List (List ℕ) → List (List ℕ)
rows_behind None lines = []
rows_behind (Some head) lines = drop (suc head.events) lines

-- the text lines of a block's rows
unfoldable pub row_lines_of : List ℕ → List (List ℕ)
row_lines_of bytes = rows_behind (head_of (slice_index_or (lines_of bytes) 0 [])) (lines_of bytes)

-- whether one of a block's rows counts as fail
unfoldable pub tells_fail : List ℕ → Bool
tells_fail bytes = list_any tells_fail_in (row_lines_of bytes)

-- the bytes begin with this block
abbrev pub raw_of : List ℕ → FirstBlock → RawBlock
raw_of bytes found = record { name = found.name; bytes = take found.taken bytes }

-- and its rows begin there
abbrev pub HasRowsAt : List ℕ → FirstBlock → Type 0
HasRowsAt bytes found = (found.rows ≤ found.taken) × (row_lines_of (take found.taken bytes) ≡ lines_of (drop found.rows (take found.taken bytes)))

abbrev pub IsFirst : List ℕ → FirstBlock → Type 0
IsFirst bytes found = (found.taken ≤ length bytes) × IsWhole (raw_of bytes found) × HasRowsAt bytes found

-- they begin with none
abbrev pub HasNoFirst : List ℕ → Type 0
HasNoFirst bytes = (block : RawBlock) (rest : List ℕ) → IsWhole block → bytes ≡ block.bytes ++ rest → ⊥

-- the bytes begin with a first text line by this profile, which takes so many
abbrev pub IsFirstVersion : List ℕ → (Profile × ℕ) → Type 0
IsFirstVersion bytes found = (found.1 ≤ length bytes) × ((line : List ℕ) × IsVersion found.0 line × (take found.1 bytes ≡ line ++ codes "\n"))

-- they begin with none
abbrev pub HasNoVersion : List ℕ → Type 0
HasNoVersion bytes = (profile : Profile) (line rest : List ℕ) → IsVersion profile line → bytes ≡ (line ++ codes "\n") ++ rest → ⊥
