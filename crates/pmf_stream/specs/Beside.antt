-- What is checked of a log while it is read. Defined here.
use Rattle.std.specs.Prelude.{◌≡◌, ℕ, List, [], ◌∷◌, ◌++◌, Option, IfSome}
use Rattle.pmf_event.specs.{declared.event.Event.{Event}, declared.profile.Profile.{Profile}, Section.{Trace}}
use Rattle.pmf_storelog.specs.{LogText.{events_in, sections_of}, Separators.{ended_records}, declared.reader.LogReader.{LogReader}}
use Rattle.pmf_verdict.specs.Partly.{HasChecked, IsFrontOf}
use Rattle.pmf_stream.specs.{Pieces.{StandsFor}, declared.beside.Beside.{Beside}}
use Rattle.pmf_stream.specs.declared.beside.Beside.TheVariants as beside

-- what is checked by the profile are the first events of the section of this number, of the records that ended in these bytes
abbrev pub IsBeside : Profile → List ℕ → Beside → Type 0
IsBeside profile bytes beside.Waiting = Unit {0}
IsBeside profile bytes (beside.Going number checker) = (es : List Event) × HasChecked profile es checker × IsFrontOf es (events_in (ended_records bytes) number)
IsBeside profile bytes beside.Over = Unit {0}

-- what the new one has checked is of whatever bytes what the old one has checked is of, with more of them behind, if the records that ended in those are of this section alone
abbrev pub GoesOn : Profile → Option Trace → Beside → Beside → Type 0
GoesOn profile only old new = (run : ℕ) (bytes : List ℕ) → IfSome only (λ section. sections_of run (ended_records bytes) ≡ section ∷ []) → IsBeside profile bytes old → IsBeside profile bytes new

-- what is checked beside the reader goes on by the same profile as the reader takes these bytes
pub record GoesOnBeside (profile profile_then : Profile) (reader : LogReader) (old : Beside) (piece : List ℕ) (new : Beside) : Type 0 where
  pub same : profile_then ≡ profile
  pub goes : (run : ℕ) (bytes : List ℕ) → StandsFor run bytes reader → IsBeside profile bytes old → IsBeside profile (bytes ++ piece) new
