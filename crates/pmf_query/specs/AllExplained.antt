-- What explains every failing row of a log at once. Defined here.
use Rattle.std.specs.Prelude.{◌≡◌, ℕ, Bool, List, ◌++◌, codes, Option, None, Some, Ok, filter, flat_map, map, take, decimal}
use Rattle.pmf_event.specs.{declared.event.Event.{Event}, declared.name.Name.{Name}, declared.profile.Profile.{Profile}, declared.row.Row.{Row}, Section.{Trace}}
use Rattle.pmf_image.specs.declared.certificate.Certificate.{Certificate}
use Rattle.pmf_request.specs.declared.settings.Whole.{Whole}
use Rattle.pmf_storelog.specs.{LogText.{log_of}, LogValue.{LogValue}}
use Rattle.pmf_verdict.specs.{declared.outcome.Outcome.TheVariants.{Fail}, Explained.{certificate_of}, Outcome.{is_same, outcome_of}, Rows.{rows_of}, Text.{text_of_row}}
use Rattle.pmf_query.specs.Explanation.{text_of_bytes, text_of_image}

-- what the image of a row's certificate holds of the bytes that the row names, or `no image`
abbrev pub text_of_proof : List Event → Row → Option Certificate → List ℕ
text_of_proof es row None = codes "no image\n"
text_of_proof es row (Some c) = text_of_image c ++ text_of_bytes es c row.place row

-- `section R.N`
unfoldable pub text_of_name : Name → List ℕ
text_of_name name = codes "section " ++ decimal name.run ++ codes "." ++ decimal name.number ++ codes "\n"

-- whether the row counts as fail
unfoldable pub fails : Row → Bool
fails row = is_same Fail (outcome_of row.finding)

-- a row in its section
pub record Failed : Type 0 where
  pub section : Trace
  pub row : Row

-- a failing row: its section, its text line, and its image
unfoldable pub text_of_failed : Failed → List ℕ
text_of_failed f = text_of_name f.section.name ++ text_of_row f.row ++ text_of_proof f.section.events f.row (certificate_of f.row.place f.row.finding)

-- the failing rows of a section by a profile, in their order
unfoldable pub failures : Profile → Trace → List Failed
failures profile t = map (λ row. record { section = t; row = row }) (filter fails (rows_of profile t.events))

-- so many from the front, or all where no number is named
unfoldable pub first_of : {X : Type 0} → Option ℕ → List X → List X
first_of None xs = xs
first_of (Some n) xs = take n xs

-- the rows that are explained: the failing ones of all sections, in the order of the report, up to so many
abbrev pub explained : Whole → List Trace → List Failed
explained asked sections = first_of asked.first (flat_map (failures asked.profile) sections)

-- their text
abbrev pub text_of_all : Whole → List Trace → List ℕ
text_of_all asked sections = flat_map text_of_failed (explained asked sections)

-- the bytes are a log of the run, without a fault, and the text explains the rows of its sections
abbrev pub ExplainsAll : Whole → List ℕ → List ℕ → Type 0
ExplainsAll asked bytes text = (log : LogValue) × (log_of asked.run bytes ≡ Ok log) × (text ≡ text_of_all asked log.sections)
