-- A ledger as a value.
use Rattle.std.specs.Prelude.{List}
use Rattle.pmf_event.specs.declared.profile.Profile.{Profile}
use Rattle.pmf_verdict.specs.Checked.{Checked}

-- the profile, and the sections that were gathered, as they were checked
-- example: profile One with section 0.0
pub record LedgerValue : Type 0 where
  pub profile : Profile
  pub sections : List Checked
