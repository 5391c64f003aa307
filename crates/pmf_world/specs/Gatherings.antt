-- What becomes of one ledger of a world. Defined here.
use Rattle.std.specs.Prelude.{◌≡◌, ◌↔◌, ℕ, set}
use Rattle.pmf_event.specs.Section.{Trace}
use Rattle.pmf_ledger.specs.{declared.taking.Taken.{Taken}, declared.taking.Taken.TheVariants.{Added, Repeat}, Gathered.{Gathers, GathersBoth, Holds}, LedgerValue.{LedgerValue}}
use Rattle.pmf_world.specs.{declared.step.WorldAnswer.{WorldAnswer}, Worlds.{WorldValue, ledger_at}}
use Rattle.pmf_world.specs.declared.step.WorldAnswer.TheVariants as answer

-- the world with this ledger as number k
abbrev pub with_ledger : WorldValue → ℕ → LedgerValue → WorldValue
with_ledger w k ledger = record { profile = w.profile; sections = w.sections; farm = w.farm; ledgers = set w.ledgers k ledger }

-- ledger k took the section, and answered so; the rest stays
pub record TakesAt (old : WorldValue) (k : ℕ) (section : Trace) (taken : Taken) (new : WorldValue) : Type 0 where
  pub ledger : LedgerValue
  pub new_is : new ≡ with_ledger old k ledger
  pub gathers : Gathers (ledger_at old k) section ledger
  pub repeat : (taken ≡ Repeat) ↔ Holds (ledger_at old k) section

-- ledger k was joined with another, which stays as all the rest does
pub record JoinsAt (old : WorldValue) (k from : ℕ) (new : WorldValue) : Type 0 where
  pub ledger : LedgerValue
  pub new_is : new ≡ with_ledger old k ledger
  pub gathers : GathersBoth (ledger_at old k) (ledger_at old from) ledger

-- what the world answers
abbrev pub answer_of : Taken → WorldAnswer
answer_of Added = answer.Added
answer_of Repeat = answer.Repeat
