-- The words of the command line: the commands and options of the program, and what they ask for. Defined here,
-- in the words of `clap`.
use Rattle.std.specs.{Prelude.{◌≡◌, ◌⊎◌, ℕ, ◌<◌, ◌^◌, pos, Bool, true, false, List, [], ◌∷◌, ◌++◌, map, Option, option_map, unwrap_or, None, Some, codes, bytes_eq, decimal, if◌then◌else◌}, List.{list_any}}
use Rattle.clap.specs.{Words.{App, IsAmong, Kinds, Row, Rule, Text, all_of, fault_of, first_of, one_of, app_of, new_app, new_rule, subcommand_of, with_rule, with_subcommand}, Simple.{new_shape}, declared.builder.action.ArgAction.TheVariants.{Append, SetTrue}, declared.builder.command.Command.{Command, out-Command}, declared.builder.value_parser.ValueParser.{ValueParser}, declared.error.kind.{ErrorKind.{ErrorKind}, ErrorKind.TheVariants.{ArgumentConflict, OutOfMemory, ValueValidation}}}
use Rattle.pmf_event.specs.declared.profile.Profile.{Profile}
use Rattle.pmf_request.specs.declared.{settings.Overview.{Overview}, settings.Patches.{Patches}, settings.Question.{Question}, settings.Reasons.{Reasons}, settings.Settings.{Settings}, settings.Sought.{Sought}, settings.Whole.{Whole}, request.Cuts.{Cuts}, request.Files.{Files}, request.Input.{Input}, request.Simulation.{Simulation}, request.Request.{Request}, request.Wanted.{Wanted}, request.Joining.{Joining}}
use Rattle.clap.specs.declared.builder.value_parser.ValueParser.TheVariants as vp
use Rattle.pmf_event.specs.declared.profile.Profile.TheVariants as profile
use Rattle.pmf_request.specs.declared.request.Input.TheVariants as input
use Rattle.pmf_request.specs.declared.request.Request.TheVariants as request
use Rattle.pmf_request.specs.declared.request.Wanted.TheVariants as wanted
use Rattle.pmf_request.specs.declared.request.Joining.TheVariants as joining

-- ---- the options

-- numbers below 2^32, those from 1 on, numbers below 2^64, from 1 to 1000, and from 1 to 64
abbrev pub small_number : ValueParser
small_number = vp.Signed (pos 0) (pos 4294967295)

abbrev pub small_count : ValueParser
small_count = vp.Signed (pos 1) (pos 4294967295)

abbrev pub large_number : ValueParser
large_number = vp.Unsigned 0 18446744073709551615

abbrev pub row_count : ValueParser
row_count = vp.Signed (pos 1) (pos 1000)

abbrev pub thread_count : ValueParser
thread_count = vp.Signed (pos 1) (pos 64)

-- an option with one value
abbrev pub option : Text → Rule
option name = record (new_rule name) { long = Some name; value_names = 1 }

-- an option with a number, which may be left out
abbrev pub maybe_number : Text → ValueParser → Rule
maybe_number name parser = record (option name) { parser = Some parser }

-- an option that has to be given
abbrev pub asked : Text → Rule
asked name = record (option name) { required = true }

-- the same with a number
abbrev pub asked_number : Text → ValueParser → Rule
asked_number name parser = record (asked name) { parser = Some parser }

-- an option with a number, and with the one that it has where it isn't given
abbrev pub number : Text → ValueParser → Text → Rule
number name parser default = record (option name) { parser = Some parser; defaults = default ∷ [] }

-- `--run R`, `--profile P`, which takes one of two words, and a flag
abbrev pub run_option : Rule
run_option = number (codes "run") large_number (codes "0")

abbrev pub profile_option : ValueParser → Rule
profile_option words = number (codes "profile") words (codes "1")

abbrev pub flag : Text → Rule
flag name = record (new_rule name) { long = Some name; action = Some SetTrue }

-- the file of a log, which may be left out
abbrev pub log_word : Rule
log_word = record (new_rule (codes "log")) { value_names = 1 }

-- ---- the commands

abbrev pub check_words : ValueParser → App
check_words words =
    with_rule (with_rule (with_rule (with_rule (with_rule (with_rule (new_app (codes "check"))
    (number (codes "workers") small_number (codes "1"))) run_option) (profile_option words)) (flag (codes "ledger"))) (flag (codes "strict"))) log_word

-- with the flag `--all` no event is asked for
abbrev pub explain_words : Bool → ValueParser → App
explain_words true words =
    with_rule (with_rule (with_rule (with_rule (with_rule (new_app (codes "explain")) (flag (codes "all"))) (maybe_number (codes "first") small_count)) run_option) (profile_option words)) log_word
explain_words false words =
    with_rule (with_rule (with_rule (with_rule (with_rule (with_rule (new_app (codes "explain"))
    (asked (codes "section"))) (asked_number (codes "event") small_number)) (flag (codes "all"))) run_option) (profile_option words)) log_word

-- with the flag `--patch` no row is told of; else, with neither a section nor an event, those of all sections are
abbrev pub why_words : Bool → ValueParser → App
why_words true words =
    with_rule (with_rule (with_rule (with_rule (with_rule (new_app (codes "why")) (option (codes "section"))) (flag (codes "patch"))) run_option) (profile_option words)) log_word
why_words false words =
    with_rule (with_rule (with_rule (with_rule (with_rule (with_rule (with_rule (with_rule (new_app (codes "why"))
    (option (codes "section"))) (maybe_number (codes "event") small_number)) (maybe_number (codes "first") row_count)) (flag (codes "all-rows")))
    (flag (codes "patch"))) run_option) (profile_option words)) log_word

abbrev pub locate_words : App
locate_words =
    with_rule (with_rule (with_rule (with_rule (new_app (codes "locate"))
    (asked (codes "section"))) (asked_number (codes "event") small_number)) run_option) log_word

-- the ledgers that are to be joined
abbrev pub file_words : Rule
file_words = record (new_rule (codes "file")) {
  value_names = 1;
  action = Some Append;
  range = Some (record { start_inclusive = 1; end_inclusive = 18446744073709551615 });
}

abbrev pub lint_words : App
lint_words = with_rule (with_rule (new_app (codes "lint")) (flag (codes "unasserted"))) log_word

abbrev pub cut_words : App
cut_words =
    with_rule (with_rule (with_rule (with_rule (new_app (codes "cut"))
    (number (codes "events") small_number (codes "1000000"))) (number (codes "step") large_number (codes "1000000000")))
    (option (codes "files"))) (number (codes "bytes") large_number (codes "268435456"))

abbrev pub join_words : App
join_words =
    with_rule (with_rule (with_rule (with_rule (with_rule (with_rule (with_rule (new_app (codes "join"))
    (flag (codes "ledger"))) (flag (codes "summary"))) (option (codes "files-from"))) (flag (codes "stream"))) (flag (codes "trust")))
    (maybe_number (codes "workers") thread_count)) file_words

abbrev pub sim_words : App
sim_words =
    with_rule (with_rule (with_rule (new_app (codes "sim"))
    (asked (codes "log"))) (asked_number (codes "workers") small_number)) (asked_number (codes "ledgers") small_number)

-- the program with its eight commands, and whether an explanation of all, and whether a patched log is asked for
abbrev pub program_words : App
program_words = record (new_app (codes "pmfarm")) {
  top = record (new_shape (codes "pmfarm")) { has_version = true; subcommand_required = true };
}

abbrev pub pmfarm_words : Bool → Bool → ValueParser → ValueParser → ValueParser → App
pmfarm_words all patch p q r =
    with_subcommand (with_subcommand (with_subcommand (with_subcommand (with_subcommand (with_subcommand (with_subcommand (with_subcommand program_words (check_words p).top)
    (explain_words all q).top) (why_words patch r).top) locate_words.top) lint_words.top) cut_words.top) join_words.top) sim_words.top

-- the command has these words, and no option that its subcommands share
pub record HasWords (words : App) (c : Command) : Type 0 where
  pub app : app_of c ≡ words
  pub local : (out-Command c).has_globals ≡ false

-- ---- what they ask for

-- n is the number that the option names, where its word is that number's decimal text
abbrev pub IsNumberOf : List Row → Text → ℕ → ℕ → Type 0
IsNumberOf rows name bits n = (k : ℕ) → k < 2 ^ bits → one_of name rows ≡ Some (decimal k) → n ≡ k

-- the option names no number
abbrev pub IsNoNumberOf : List Row → Text → ℕ → Type 0
IsNoNumberOf rows name bits = (k : ℕ) → k < 2 ^ bits → one_of name rows ≡ Some (decimal k) → ⊥

-- n is the number that the option names so, and there is none where it isn't given
pub record IsMaybeNumberOf (rows : List Row) (name : Text) (bits : ℕ) (n : Option ℕ) : Type 0 where
  pub given : (k : ℕ) → k < 2 ^ bits → one_of name rows ≡ Some (decimal k) → n ≡ Some k
  pub left_out : one_of name rows ≡ None → n ≡ None

-- the profile is the one that the option names
pub record IsProfileOf (rows : List Row) (p : Profile) : Type 0 where
  pub one : first_of (codes "profile") rows ≡ Some (codes "1") → p ≡ profile.One
  pub two : first_of (codes "profile") rows ≡ Some (codes "2") → p ≡ profile.Two

-- the flag is as it is given
pub record IsFlagOf (rows : List Row) (name : Text) (flag : Bool) : Type 0 where
  pub given : one_of name rows ≡ Some (codes "true") → flag ≡ true
  pub left_out : one_of name rows ≡ Some (codes "false") → flag ≡ false

-- the log is in the file that the words name, and else on standard input
abbrev pub IsInputOf : List Row → Input → Type 0
IsInputOf rows input.Standard = first_of (codes "log") rows ≡ None
IsInputOf rows (input.File name) = first_of (codes "log") rows ≡ Some name.now

-- the word names this section: N that of the run that is asked for, R.N that of run R
pub record NamesSection (word : Text) (asked run section : ℕ) : Type 0 where
  pub alone : (n : ℕ) → n < 2 ^ 64 → word ≡ decimal n → (run ≡ asked) × (section ≡ n)
  pub both : (r n : ℕ) → r < 2 ^ 64 → n < 2 ^ 64 → word ≡ decimal r ++ codes "." ++ decimal n → (run ≡ r) × (section ≡ n)

-- the run and the section are those that the words name, where the run that is asked for is the one that its option names
abbrev pub IsSectionOf : List Row → ℕ → ℕ → Type 0
IsSectionOf rows run section =
    (asked : ℕ) × IsNumberOf rows (codes "run") 64 asked × ((word : Text) → first_of (codes "section") rows ≡ Some word → NamesSection word asked run section)

-- the same, where the section's option is given; and else there is no section
pub record IsMaybeSectionOf (rows : List Row) (run : ℕ) (section : Option ℕ) : Type 0 where
  pub given : (word : Text) → first_of (codes "section") rows ≡ Some word → (number : ℕ) × (section ≡ Some number) × IsSectionOf rows run number
  pub left_out : first_of (codes "section") rows ≡ None → (section ≡ None) × IsNumberOf rows (codes "run") 64 run

-- so many rows are told as `--first` names; where it isn't given, 20, or as many as a number of 32 bits counts where each row is told
pub record IsFirstOf (rows : List Row) (all : Bool) (first : ℕ) : Type 0 where
  pub given : IsNumberOf rows (codes "first") 32 first
  pub left_out : one_of (codes "first") rows ≡ None → first ≡ (if all then 4294967295 else 20)

-- the settings are those that the words of `check` name
pub record IsCheckOf (rows : List Row) (s : Settings) : Type 0 where
  pub workers : IsNumberOf rows (codes "workers") 32 s.workers
  pub run : IsNumberOf rows (codes "run") 64 s.run
  pub profile_is : IsProfileOf rows s.profile
  pub ledger : IsFlagOf rows (codes "ledger") s.ledger
  pub strict : IsFlagOf rows (codes "strict") s.strict

-- the question is the one that the words of `explain` name
pub record IsExplainOf (rows : List Row) (q : Question) : Type 0 where
  pub section : IsSectionOf rows q.run q.section
  pub profile_is : IsProfileOf rows q.profile
  pub event : IsNumberOf rows (codes "event") 32 q.event

-- the run, the profile and how many rows are those that the words of `explain --all` name
pub record IsExplainAllOf (rows : List Row) (w : Whole) : Type 0 where
  pub run : IsNumberOf rows (codes "run") 64 w.run
  pub profile_is : IsProfileOf rows w.profile
  pub first : IsMaybeNumberOf rows (codes "first") 32 w.first

-- the rows that are asked for are those that the words of `why` name
pub record IsWhyOf (rows : List Row) (r : Reasons) : Type 0 where
  pub section : IsMaybeSectionOf rows r.run r.section
  pub profile_is : IsProfileOf rows r.profile
  pub event : IsMaybeNumberOf rows (codes "event") 32 r.event
  pub first : IsFirstOf rows r.all r.first
  pub all : IsFlagOf rows (codes "all-rows") r.all

-- the log is patched as the words of `why --patch` name
pub record IsPatchOf (rows : List Row) (p : Patches) : Type 0 where
  pub section : IsMaybeSectionOf rows p.run p.section
  pub profile_is : IsProfileOf rows p.profile

-- the event is the one that the words of `locate` name
pub record IsLocateOf (rows : List Row) (s : Sought) : Type 0 where
  pub section : IsSectionOf rows s.run s.section
  pub event : IsNumberOf rows (codes "event") 32 s.event

-- what is told of the log is what the words of `lint` name
pub record IsLintOf (rows : List Row) (o : Overview) : Type 0 where
  pub unasserted : IsFlagOf rows (codes "unasserted") o.unasserted

-- the lengths and the files are those that the words of `cut` name
pub record IsCutOf (rows : List Row) (c : Cuts) : Type 0 where
  pub events : IsNumberOf rows (codes "events") 32 c.lengths.events
  pub step : IsNumberOf rows (codes "step") 64 c.lengths.step
  pub files : option_map (λ s. s.now) c.files ≡ first_of (codes "files") rows
  pub bytes : IsNumberOf rows (codes "bytes") 64 c.bytes

-- what is wanted is what the flags name; both of them together are no request
pub record IsWantedOf (rows : List Row) (w : Wanted) : Type 0 where
  pub ledger : one_of (codes "ledger") rows ≡ Some (codes "true") → w ≡ wanted.Ledger
  pub summary : one_of (codes "summary") rows ≡ Some (codes "true") → w ≡ wanted.Summary
  pub report : one_of (codes "ledger") rows ≡ Some (codes "false") → one_of (codes "summary") rows ≡ Some (codes "false") → w ≡ wanted.Report

-- the way is the one that the flags name; trust without a merge, or beside a summary, is no request
pub record IsJoiningOf (rows : List Row) (w : Joining) : Type 0 where
  pub trust : one_of (codes "trust") rows ≡ Some (codes "true") → (one_of (codes "stream") rows ≡ Some (codes "false") → ⊥) × (one_of (codes "summary") rows ≡ Some (codes "true") → ⊥) × (w ≡ joining.Trust)
  pub merge : one_of (codes "trust") rows ≡ Some (codes "false") → one_of (codes "stream") rows ≡ Some (codes "true") → w ≡ joining.Merge
  pub load : one_of (codes "trust") rows ≡ Some (codes "false") → one_of (codes "stream") rows ≡ Some (codes "false") → IsNoNumberOf rows (codes "workers") 32 × (w ≡ joining.Load)

-- the files are those that the words of `join` name, in their order, or none; the list is the one that they name, if any
pub record IsJoinOf (rows : List Row) (f : Files) : Type 0 where
  pub names : map (λ s. s.now) f.names.items ≡ unwrap_or (all_of (codes "file") rows) []
  pub list : option_map (λ s. s.now) f.list ≡ first_of (codes "files-from") rows
  pub joining : IsJoiningOf rows f.joining
  pub workers : IsNumberOf rows (codes "workers") 32 f.workers
  pub alone : one_of (codes "workers") rows ≡ None → f.workers ≡ 1
  pub wanted : IsWantedOf rows f.wanted

-- the world is the one that the words of `sim` name
pub record IsSimOf (rows : List Row) (s : Simulation) : Type 0 where
  pub log : (log : Text) → first_of (codes "log") rows ≡ Some log → s.log.now ≡ log
  pub workers : IsNumberOf rows (codes "workers") 32 s.workers
  pub ledgers : IsNumberOf rows (codes "ledgers") 32 s.ledgers

-- the request is one of this command, and what its words name
abbrev pub IsCheckBy : List Row → Request → Type 0
IsCheckBy rows (request.Check settings log) = IsCheckOf rows settings × IsInputOf rows log
IsCheckBy rows _ = ⊥

abbrev pub IsExplainBy : Bool → List Row → Request → Type 0
IsExplainBy false rows (request.Explain question log) = IsExplainOf rows question × IsInputOf rows log
IsExplainBy true rows (request.ExplainAll whole log) = IsExplainAllOf rows whole × IsInputOf rows log
IsExplainBy all rows _ = ⊥

abbrev pub IsWhyBy : Bool → List Row → Request → Type 0
IsWhyBy false rows (request.Why reasons log) = IsWhyOf rows reasons × IsInputOf rows log
IsWhyBy true rows (request.Patch patches log) = IsPatchOf rows patches × IsInputOf rows log
IsWhyBy patch rows _ = ⊥

abbrev pub IsLocateBy : List Row → Request → Type 0
IsLocateBy rows (request.Locate sought log) = IsLocateOf rows sought × IsInputOf rows log
IsLocateBy rows _ = ⊥

abbrev pub IsLintBy : List Row → Request → Type 0
IsLintBy rows (request.Lint overview log) = IsLintOf rows overview × IsInputOf rows log
IsLintBy rows _ = ⊥

abbrev pub IsCutBy : List Row → Request → Type 0
IsCutBy rows (request.Cut cuts) = IsCutOf rows cuts
IsCutBy rows _ = ⊥

abbrev pub IsJoinBy : List Row → Request → Type 0
IsJoinBy rows (request.Join files) = IsJoinOf rows files
IsJoinBy rows _ = ⊥

abbrev pub IsSimBy : List Row → Request → Type 0
IsSimBy rows (request.Sim simulation) = IsSimOf rows simulation
IsSimBy rows _ = ⊥

-- the request is what a command and its words ask for
pub record IsRequestBy (all patch : Bool) (command : Text) (rows : List Row) (asked : Request) : Type 0 where
  pub check : command ≡ codes "check" → IsCheckBy rows asked
  pub explain : command ≡ codes "explain" → IsExplainBy all rows asked
  pub why : command ≡ codes "why" → IsWhyBy patch rows asked
  pub locate : command ≡ codes "locate" → IsLocateBy rows asked
  pub lint : command ≡ codes "lint" → IsLintBy rows asked
  pub cut : command ≡ codes "cut" → IsCutBy rows asked
  pub join : command ≡ codes "join" → IsJoinBy rows asked
  pub sim : command ≡ codes "sim" → IsSimBy rows asked

-- whether one of the words is this one
abbrev pub has_word : Text → List Text → Bool
has_word named words = list_any (λ word. bytes_eq word named) words

-- whether one of the words is `--all`; whether one is `--patch`
abbrev pub names_all : List Text → Bool
names_all words = has_word (codes "--all") words

abbrev pub names_patch : List Text → Bool
names_patch words = has_word (codes "--patch") words

-- the program that reads these words
abbrev pub program_of : List Text → ValueParser → ValueParser → ValueParser → App
program_of words p q r = pmfarm_words (names_all words) (names_patch words) p q r

-- the kinds of error with which the program refuses words that the parser passes: no section is named so, or two flags don't go together
abbrev pub own_kinds : Kinds
own_kinds = ValueValidation ∷ ArgumentConflict ∷ []

-- the parser passes these words, the first of which names the program, and the request is what they ask for
abbrev pub IsRequestOf : List Text → Request → Type 0
IsRequestOf words asked =
    (p q r : ValueParser) × (fault_of (program_of words p q r) words ≡ []) × ((command : Text) (rows : List Row) → subcommand_of (program_of words p q r) words ≡ Some (command, rows) →
    IsRequestBy (names_all words) (names_patch words) command rows asked)

-- an error of this kind refuses these words: memory ran out, the parser has this kind of them, or it passes them and the program does not
abbrev pub IsRefusedWith : List Text → ErrorKind → Type 0
IsRefusedWith words kind =
    (kind ≡ OutOfMemory)
    ⊎ ((p q r : ValueParser) × (IsAmong kind (fault_of (program_of words p q r) words) ⊎ ((fault_of (program_of words p q r) words ≡ []) × IsAmong kind own_kinds)))
