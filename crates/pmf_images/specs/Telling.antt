-- What is asked of a walk, and what it tells. No public clause cites this.
use Rattle.std.specs.Prelude.{◌≡◌, ◌≤◌, ◌<◌, ℕ, List, length, get_or}
use Rattle.pmf_images.specs.declared.{showing.Asked.{Asked}, telling.Due.{Due}}

-- what is asked at an index, with the place there
abbrev pub due_at : List ℕ → List Asked → ℕ → Asked → Due
due_at places asked k a = record { place = get_or places k 0; byte = (get_or asked k a).byte; index = k }

-- all that is asked, in the order of the places
pub record AreDue (places : List ℕ) (asked : List Asked) (dues : List Due) : Type 0 where
  pub rise : (j k : ℕ) (d : Due) → j ≤ k → k < length dues → (get_or dues j d).place ≤ (get_or dues k d).place
  pub each : (k : ℕ) (d : Due) (a : Asked) → k < length dues → get_or dues k d ≡ due_at places asked (get_or dues k d).index a
  pub within : (k : ℕ) (d : Due) → k < length dues → (get_or dues k d).index < length asked
  pub all : (j : ℕ) (a : Asked) → j < length asked → (k : ℕ) × (k < length dues) × ((d : Due) → (get_or dues k d).index ≡ j)

-- an answer for each one that is asked: what is told of its byte at the place with its index
pub record AreTold (told : ℕ → ℕ → ℕ) (places : List ℕ) (asked : List Asked) (answers : List ℕ) : Type 0 where
  pub long : length answers ≡ length asked
  pub each : (k : ℕ) (a : Asked) → k < length asked → get_or answers k 0 ≡ told (get_or places k 0) (get_or asked k a).byte

-- a place for each one that is asked
pub record ArePlaces (place : Asked → ℕ) (asked : List Asked) (places : List ℕ) : Type 0 where
  pub long : length places ≡ length asked
  pub each : (k : ℕ) (a : Asked) → k < length asked → get_or places k 0 ≡ place (get_or asked k a)
