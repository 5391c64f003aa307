-- What `why` answers of a log. Defined here.
use Rattle.std.specs.{Prelude.{◌≡◌, ◌≢◌, ℕ, ◌==◌, ◌⊎◌, Bool, List, [], ◌++◌, length, filter, flat_map, count_by, sum_by, codes, Option, None, Some, Ok, Err, Contains, if◌then◌else◌}, Fmt.{decimal}, List.{AllZip}, Option.{unwrap_or}}
use Rattle.pmf_event.specs.{declared.row.Row.{Row}, Section.{Trace}}
use Rattle.pmf_request.specs.declared.settings.Reasons.{Reasons}
use Rattle.pmf_storelog.specs.{LogText.{log_of, out_of_memory}, LogValue.{LogValue}}
use Rattle.pmf_verdict.specs.{Checked.{rows_in}}
use Rattle.pmf_cause.specs.{declared.edit.Edit.{Edit}, Cure.{cured, fails, SpoilsNothing}}
use Rattle.pmf_query.specs.{declared.refusal.{EventFault.{EventFault}, EventRefusal.{EventRefusal}}, Locating.{AreLocations}}
use Rattle.pmf_query.specs.declared.refusal.EventFault.TheVariants as fault
use Rattle.pmf_why.specs.{declared.cure.Way.{Way}, Cures.{IsCure}, Reasons.{Bad, Part, is_asked, passes, rows_of_all, told_by, told_of, untold_of}, WhyText.{text_of_more, text_of_reason}}

-- the sections that are asked for
abbrev pub asked_sections : Reasons → List Trace → List Trace
asked_sections asked sections = filter (λ (t : Trace). is_asked asked.section t.name.number) sections

-- a section as it is told of: checked by the profile, with where its events stand, and changes by which nothing fails that didn't,
-- if there are any
pub record IsPart (asked : Reasons) (bytes : List ℕ) (t : Trace) (part : Part) : Type 0 where
  pub checked : part.checked ≡ record { section = t; profile = asked.profile }
  pub stands : AreLocations bytes t.name.number part.stands
  pub spoils_nothing : (part.plan ≡ []) ⊎ SpoilsNothing part.checked part.plan

-- the text tells the row, with changes that are a cure as it says
pub record Tells (bad : Bad) (text : List ℕ) : Type 0 where
  pub edits : List Edit
  pub way : Way
  pub is : IsCure bad edits way
  pub says : text ≡ text_of_reason bad edits way

-- how many rows of a section with all its changes are such
unfoldable pub count_with_all : (Row → Bool) → Part → ℕ
count_with_all test part = count_by (λ row. test row) (rows_in (cured part.checked part.plan))

-- `rows=R told=T untold=U`
unfoldable pub text_of_numbers : ℕ → ℕ → ℕ → List ℕ
text_of_numbers rows told untold = codes "rows=" ++ decimal rows ++ codes " told=" ++ decimal told ++ codes " untold=" ++ decimal untold

-- `; with all cures: pass=P fail=F`, and the end of the text line
unfoldable pub text_of_sums : ℕ → ℕ → List ℕ
text_of_sums pass fail = codes "; with all cures: pass=" ++ decimal pass ++ codes " fail=" ++ decimal fail ++ codes "\n"

-- `no row at event K`, where an event has none, or else this text
abbrev pub text_of_none : Option ℕ → List ℕ → List ℕ
text_of_none None text = text
text_of_none (Some event) text = codes "no row at event " ++ decimal event ++ codes "\n"

-- the event that is asked for, where no row is
abbrev pub missed_event : Reasons → List Bad → Option ℕ
missed_event asked rows = if length rows == 0 then asked.event else None

-- of each row that is told, how many more of these rows it stands for
unfoldable pub text_of_likes : Reasons → List Bad → List ℕ
text_of_likes asked rows = flat_map (λ (bad : Bad). text_of_more bad.part.checked.section.name bad.row (told_by asked rows bad)) (told_of asked rows)

-- that, and then how many rows there are, how many of them are told, for how many none that is told stands, and what a check finds with
-- all changes; or that an event that is asked for has no row
unfoldable pub text_of_end : Reasons → List Part → List ℕ
text_of_end asked parts =
    let rows = rows_of_all asked parts in
    text_of_likes asked rows
    ++ text_of_none (missed_event asked rows)
    (text_of_numbers (length rows) (length (told_of asked rows)) (untold_of asked rows) ++ text_of_sums (sum_by (count_with_all passes) parts) (sum_by (count_with_all fails) parts))

-- the text tells the rows of these sections of a log: those that are to be told, each with its cause and what cures it, and the counts
pub record TellsAll (asked : Reasons) (bytes : List ℕ) (sections : List Trace) (text : List ℕ) : Type 0 where
  pub parts : List Part
  pub are : AllZip (IsPart asked bytes) sections parts
  pub rows : List (List ℕ)
  pub tell : AllZip Tells (told_of asked (rows_of_all asked parts)) rows
  pub text_is : text ≡ flat_map (λ row. row) rows ++ text_of_end asked parts

-- the section that is named, if one is, is one of the log's
abbrev pub HasNamed : Option ℕ → LogValue → Type 0
HasNamed named log = (number : ℕ) → named ≡ Some number → (t : Trace) × Contains log.sections t × (t.name.number ≡ number)

-- the bytes are a log of the run, without a fault, which has the section that is named, and the text tells the rows of its sections that
-- are asked for
abbrev pub IsWhy : Reasons → List ℕ → List ℕ → Type 0
IsWhy asked bytes text = (log : LogValue) × (log_of asked.run bytes ≡ Ok log) × HasNamed asked.section log × TellsAll asked bytes (asked_sections asked log.sections) text

-- ---- no answer

-- the section that is named is none of the log's
abbrev pub IsNoSection : Reasons → LogValue → Type 0
IsNoSection asked log = (number : ℕ) × (asked.section ≡ Some number) × ((t : Trace) → Contains log.sections t → t.name.number ≡ number → ⊥)

-- why there is no answer: the log's own fault, want of memory aside; the section that is named, which it lacks; or want of memory
abbrev pub IsWhyFault : Reasons → List ℕ → EventFault → Type 0
IsWhyFault asked bytes (fault.Log found) = found ≢ out_of_memory → log_of asked.run bytes ≡ Err found
IsWhyFault asked bytes fault.NoSection = (log : LogValue) × (log_of asked.run bytes ≡ Ok log) × IsNoSection asked log
IsWhyFault asked bytes fault.NoEvent = ⊥
IsWhyFault asked bytes fault.OutOfMemory = (log : LogValue) × (log_of asked.run bytes ≡ Ok log)

-- the refusal for this reason, with what was asked for
abbrev pub refusal_of : Reasons → EventFault → EventRefusal
refusal_of asked why = record { sought = record { run = asked.run; section = unwrap_or asked.section 0; event = unwrap_or asked.event 0 }; fault = why }

-- the same, told with the run, and the section that is named
abbrev pub IsWhyRefusal : Reasons → List ℕ → EventRefusal → Type 0
IsWhyRefusal asked bytes found =
    (found.sought.run ≡ asked.run) × ((number : ℕ) → asked.section ≡ Some number → found.sought.section ≡ number) × IsWhyFault asked bytes found.fault
