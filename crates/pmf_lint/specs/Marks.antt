-- Places that are marked, one after another. Defined here.
use Rattle.std.specs.Prelude.{◌≡◌, ℕ, suc, ◌<◌, Bool, List, length, slice_index_or}

-- the list says of each of so many places whether it passes the test
pub record Marks (test : ℕ → Bool) (places : ℕ) (marks : List Bool) : Type 0 where
  pub long : length marks ≡ places
  pub each : (k : ℕ) (d : Bool) → k < places → slice_index_or marks k d ≡ test (suc k)
