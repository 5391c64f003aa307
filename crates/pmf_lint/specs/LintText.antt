-- The text that tells what a log holds: ASCII, in text lines. Defined here.
use Rattle.std.specs.{Prelude.{ℕ, Bool, ◌==◌, List, [], ◌++◌, Option, None, Some, codes, if◌then◌else◌, flat_map}, Fmt.{decimal}}
use Rattle.pmf_query.specs.Ascii.{shown_text}
use Rattle.pmf_lint.specs.{declared.lint.Lint.{Lint}, declared.listing.Listing.{Listing}, declared.naming.Named.{Named}, declared.storing.StoreNames.{StoreNames}, declared.summing.Sums.{Sums}, declared.upkeep.Upkeep.{Upkeep}, declared.warnings.Warnings.{Warnings}, declared.telling.TheConstants.{SHOWN}, Nearness.{near_of}}

-- ---- names

-- a name in ASCII: its first 64 bytes
abbrev pub shown_name : List ℕ → List ℕ
shown_name name = shown_text SHOWN name

-- ---- text lines

-- `records=R events=E sections=S skipped=K`
unfoldable pub line_of_counts : Lint → List ℕ
line_of_counts lint =
    codes "records=" ++ decimal lint.records ++ codes " events=" ++ decimal lint.sums.events ++ codes " sections=" ++ decimal lint.sections
    ++ codes " skipped=" ++ decimal lint.skipped ++ codes "\n"

-- `NAME records=N`, where some record has the name
unfoldable pub line_of_known : Named → List ℕ
line_of_known c = if c.records == 0 then [] else shown_name c.name.now ++ codes " records=" ++ decimal c.records ++ codes "\n"

-- ` near=KNOWN`, where the name is near to a known one
unfoldable pub hint_of : Option (List ℕ) → List ℕ
hint_of None = []
hint_of (Some known) = codes " near=" ++ shown_name known

-- `skipped NAME records=N`, and the hint
unfoldable pub line_of_skipped : Named → List ℕ
line_of_skipped c =
    codes "skipped " ++ shown_name c.name.now ++ codes " records=" ++ decimal c.records ++ hint_of (near_of c.name.now) ++ codes "\n"

-- `skipped others records=N`, where there are others
unfoldable pub line_of_others : ℕ → List ℕ
line_of_others others = if others == 0 then [] else codes "skipped others records=" ++ decimal others ++ codes "\n"

-- `assertions=A empty=M`
unfoldable pub line_of_assertions : Sums → List ℕ
line_of_assertions s = codes "assertions=" ++ decimal s.assertions ++ codes " empty=" ++ decimal s.empty ++ codes "\n"

-- `stores=S unasserted=U`
unfoldable pub line_of_stores : Sums → List ℕ
line_of_stores s = codes "stores=" ++ decimal s.stores ++ codes " unasserted=" ++ decimal s.unasserted ++ codes "\n"

-- `unwritten=W unfenced=F overwriting=O`
unfoldable pub line_of_left : Upkeep → List ℕ
line_of_left u =
    codes "unwritten=" ++ decimal u.unwritten ++ codes " unfenced=" ++ decimal u.unfenced ++ codes " overwriting=" ++ decimal u.overwriting ++ codes "\n"

-- `fences=N idle=I`
unfoldable pub line_of_fences : Upkeep → List ℕ
line_of_fences u = codes "fences=" ++ decimal u.fences ++ codes " idle=" ++ decimal u.idle ++ codes "\n"

-- `KIND NAME stores=N`, of stores of this name
unfoldable pub line_of_named : List ℕ → Named → List ℕ
line_of_named kind c = kind ++ codes " " ++ shown_name c.name.now ++ codes " stores=" ++ decimal c.records ++ codes "\n"

-- `KIND others stores=N`, where there are others
unfoldable pub line_of_unnamed : List ℕ → ℕ → List ℕ
line_of_unnamed kind others = if others == 0 then [] else kind ++ codes " others stores=" ++ decimal others ++ codes "\n"

-- those of one kind
abbrev pub lines_of_listing : List ℕ → Listing → List ℕ
lines_of_listing kind listing = flat_map (λ c. line_of_named kind c) listing.listed.items ++ line_of_unnamed kind listing.others

-- the names of the stores that lack something
unfoldable pub lines_of_names : StoreNames → List ℕ
lines_of_names names =
    lines_of_listing (codes "unwritten") names.unwritten ++ lines_of_listing (codes "unfenced") names.unfenced
    ++ lines_of_listing (codes "unasserted") names.unasserted

-- ---- warnings

-- a warning behind some words, where it is due
abbrev pub warned : List ℕ → Bool → List ℕ → List ℕ
warned words due text = if due then words ++ codes "warning: " ++ text ++ codes "\n" else []

-- those that are due of what is asserted, each behind some words
unfoldable pub lines_of_asserted : List ℕ → Warnings → List ℕ
lines_of_asserted words w =
    warned words w.asserts_nothing (codes "nothing is asserted")
    ++ warned words w.checks_nothing (codes "each assertion is empty")
    ++ warned words w.is_misread (codes "an empty assertion would not be if its decimal address were hexadecimal")

-- those that are due of the records
unfoldable pub lines_of_records : List ℕ → Warnings → List ℕ
lines_of_records words w =
    warned words w.has_near (codes "a skipped name is near a known one")
    ++ warned words w.has_strange (codes "a skipped name is not text")
    ++ warned words w.is_open_ended (codes "no end stands behind the last record")
    ++ warned words w.lacks_stop (codes "START stands without STOP")

-- the warnings that are due
abbrev pub lines_of_warnings : List ℕ → Warnings → List ℕ
lines_of_warnings words w = lines_of_asserted words w ++ lines_of_records words w

-- the whole text
unfoldable pub text_of_lint : Lint → StoreNames → List ℕ
text_of_lint lint names =
    line_of_counts lint ++ flat_map (λ c. line_of_known c) lint.known.items ++ flat_map (λ c. line_of_skipped c) lint.listed.items
    ++ line_of_others lint.others ++ line_of_assertions lint.sums ++ line_of_stores lint.sums ++ line_of_left lint.sums.upkeep
    ++ line_of_fences lint.sums.upkeep ++ lines_of_names names ++ lines_of_warnings [] lint.warnings
