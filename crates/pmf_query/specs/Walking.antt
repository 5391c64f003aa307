-- A walk over the records of a log, from its first byte on. Defined here.
use Rattle.std.specs.Prelude.{◌≡◌, ℕ, ◌+◌, ◌<◌, ◌≤◌, List, [], ◌∷◌, ◌++◌, length, take, drop}
use Rattle.pmf_storelog.specs.Separators.{records_of, records_in}

-- the records begin anew at this offset: however far the bytes go, their records are those before it and those from it on
pub record BeginsAnew (bytes : List ℕ) (start : ℕ) : Type 0 where
  pub joins : (n : ℕ) → records_of (take (start + n) bytes) ≡ records_of (take start bytes) ++ records_of (take n (drop start bytes))

-- from an offset on there are so many bytes before the next separator, or the end, and the walk goes on at `next`
pub record IsPart (bytes : List ℕ) (start len next : ℕ) : Type 0 where
  pub further : start < next
  pub within : next ≤ length bytes
  pub inside : start + len ≤ length bytes
  pub anew : BeginsAnew bytes next
  pub adds : records_of (take next bytes) ≡ records_of (take start bytes) ++ records_in (take len (drop start bytes) ∷ [])

-- the first record from an offset on is this text at this place, and the walk goes on at `next`
pub record IsNext (bytes : List ℕ) (start offset : ℕ) (text : List ℕ) (next : ℕ) : Type 0 where
  pub further : start < next
  pub within : next ≤ length bytes
  pub anew : BeginsAnew bytes next
  pub adds : records_of (take next bytes) ≡ records_of (take start bytes) ++ text ∷ []
  pub before : records_of (take offset bytes) ≡ records_of (take start bytes)
  pub here : take (length text) (drop offset bytes) ≡ text
