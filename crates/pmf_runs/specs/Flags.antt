-- The states of the numbers in a part that is yet to be given a flag.
use Rattle.std.specs.Prelude.{◌≡◌, ℕ, Bool, Option, None, Some, is_some, false, true}
use Rattle.pmf_runs.specs.declared.flagged.Flagged.{Flagged}

-- the state, once it is given the flag, if there is one
abbrev pub given : {S : Type 0} → (Bool → S → S) → Option Bool → S → S
given flagged None s = s
given flagged (Some flag) s = flagged flag s

-- the state of a number, once the part is given its flag
unfoldable pub flagged_state : {P S : Type 0} → (Bool → S → S) → (P → S → ℕ → S) → Flagged P → S → ℕ → S
flagged_state flagged state part d b = given flagged part.flag (state part.part d b)

-- a run of the part begins at the number, and no flag is yet to be given
pub record BeginsPlain {P : Type 0} (begins : P → ℕ → Type 0) (part : Flagged P) (b : ℕ) : Type 0 where
  pub plain : part.flag ≡ None
  pub there : begins part.part b

-- the runs of the part differ, but where one was cut at the numbers, of which there is none where a flag is yet to be given
pub record FlaggedJoined {P : Type 0} (joined : P → Option ℕ → Option ℕ → Type 0) (part : Flagged P) (one other : Option ℕ) : Type 0 where
  pub but : joined part.part one other
  pub none : is_some part.flag ≡ true → (one ≡ None) × (other ≡ None)
