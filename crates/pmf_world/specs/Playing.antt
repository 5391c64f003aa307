-- What playing comes to, from any world that the played one stands for. Defined here.
use Rattle.std.specs.Prelude.{◌≡◌, ℕ, ◌+◌, List, [], ◌∷◌, ◌++◌, length, reverse}
use Rattle.pmf_world.specs.{declared.step.WorldStep.{WorldStep}, Steps.{WorldState, stepped, after}, Worlds.{WorldValue, StandsFor}, Lines.{outcome_of, text_of_step, text_of_steps}}

-- the step of this number was played: whatever the old world stands for after the steps before it, the text grew by its line, and the new one stands for the world after it too
pub record PlaysStep (old : WorldValue) (text : List ℕ) (number : ℕ) (step : WorldStep) (new : WorldValue) (text_then : List ℕ) : Type 0 where
  pub profile_stays : new.profile ≡ old.profile
  pub sections_stay : new.sections ≡ old.sections
  pub follows : (first : WorldState) (before : List WorldStep) → number ≡ length before + 1 → StandsFor old (after first before) →
      (text_then ≡ text ++ text_of_step number (outcome_of (stepped (after first before) step))) × StandsFor new (after first (step ∷ before))

-- these steps were played, and this is their text
pub record PlaysAll (old : WorldValue) (steps : List WorldStep) (new : WorldValue) (text : List ℕ) : Type 0 where
  pub profile_stays : new.profile ≡ old.profile
  pub sections_stay : new.sections ≡ old.sections
  pub follows : (first : WorldState) → StandsFor old first → (text ≡ text_of_steps first [] steps) × StandsFor new (after first (reverse steps))
