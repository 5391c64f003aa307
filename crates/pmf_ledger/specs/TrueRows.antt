-- What the rows of a checked section say of the crash images that the rules allow it.
use Rattle.pmf_verdict.specs.{Checked.{Checked, rows_in}, Exact.{IsExact, SameLinesAreOneStore}, Explained.{FailuresAreReal}, Kept.{IsTold}, Sound.{PersistsHold, OrdersHold, ScopesHold}}

-- what they show as passed holds in every allowed image, what they show as failed has one that contradicts it, and
-- so they say exactly which assertions hold; by profile Two what they show as SAMELINE one store wrote; where none of them
-- counts as FAIL all that is asserted holds, and where none counts as EMPTY each assertion had something to check
pub record HasTrueRows (checked : Checked) : Type 0 where
  pub passes : PersistsHold checked.section.events (rows_in checked)
  pub orders : OrdersHold checked.section.events (rows_in checked)
  pub scopes : ScopesHold checked.section.events (rows_in checked)
  pub failures : FailuresAreReal checked.section.events (rows_in checked)
  pub exact : IsExact checked.profile checked.section.events (rows_in checked)
  pub same_lines : SameLinesAreOneStore checked.profile checked.section.events (rows_in checked)
  pub told : IsTold checked.section.events (rows_in checked)
