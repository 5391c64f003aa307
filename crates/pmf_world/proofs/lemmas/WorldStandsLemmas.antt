-- What a world stands for, after a turn of a worker and after a change of one ledger.
use Rattle.std.proofs.{Common.{ℕ, ◌<◌, List, [], length, set, sym, ◌∙◌, inl, inr, All, length-set, arith}, lemmas.Bool.{cases_eq}, lemmas.List.Elements.{All-set}, lemmas.Grind.{common_steps}}
use Rattle.pmf_ledger.specs.{Gathered.{IsLedgerOf}, LedgerValue.{LedgerValue}}
use Rattle.pmf_world.specs.{Steps.{WorldState, with_set}, Worlds.{WorldValue, StandsFor, sections_at}}

-- a change of one ledger
pub StandsFor-set : (old : WorldValue) (state : WorldState) (k : ℕ) (ledger : LedgerValue) (gathered : List ℕ) → k < length old.ledgers →
    IsLedgerOf old.profile (sections_at old.sections gathered) ledger → All (λ s. s < length old.sections) gathered → StandsFor old state →
    StandsFor (record { profile = old.profile; sections = old.sections; farm = old.farm; ledgers = set old.ledgers k ledger }) (with_set state k gathered)
StandsFor-set old state k ledger gathered there is within stands = record {
  farm = stands.farm;
  as_many = length-set old.ledgers k ledger ∙ stands.as_many ∙ sym (length-set state.sets k gathered);
  within = All-set (All (λ s. s < length old.sections)) state.sets k gathered within stands.within;
  ledgers = λ j less. elim (cases_eq j k) [
    | inl same ↦ grind (arith, common_steps)
    | inr other ↦ grind (arith, common_steps)
  ];
}
  where
    none : LedgerValue
    none = record { profile = old.profile; sections = [] }
