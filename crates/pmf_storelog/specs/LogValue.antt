-- A log as a value.
use Rattle.std.specs.Prelude.{ℕ, List}
use Rattle.pmf_event.specs.Section.{Trace}

-- the sections by number, and how many records were skipped
pub record LogValue : Type 0 where
  pub sections : List Trace
  pub skipped : ℕ
