-- Rows look back. Laws, which the crate's empty public functions prove.
use Rattle.std.specs.Prelude.{◌≡◌, ℕ, List, ◌++◌, length}
use Rattle.pmf_event.specs.{declared.event.Event.{Event}, declared.profile.Profile.{Profile}}
use Rattle.pmf_shadow.specs.Laws.{SameEvents}
use Rattle.pmf_verdict.specs.Rows.{rows_upto}

-- the rows of the first p events look at those alone: two lists with the same events up to p have the same rows up to p
abbrev pub RowsLookBack : Type 0
RowsLookBack = (profile : Profile) (es fs : List Event) (p : ℕ) → SameEvents es fs p → rows_upto profile es p ≡ rows_upto profile fs p

-- so events that come behind change no row of those before them
abbrev pub LaterEventsChangeNoRow : Type 0
LaterEventsChangeNoRow = (profile : Profile) (es more : List Event) → rows_upto profile (es ++ more) (length es) ≡ rows_upto profile es (length es)
