-- Searches over the places of a list. Places count from 1, a test says yes or no of each, and 0 is no
-- place. Defined here.
-- (E and T of the examples: docs/DEFINITIONS.md)
use Rattle.std.specs.Prelude.{ℕ, zero, suc, ◌-◌, max, Bool, nat_lt, if◌then◌else◌}

-- the greatest place from 1 to n that passes the test, or 0
-- on E: of the stores up to 6 it is 3, up to 2 it is 1
unfoldable pub greatest : (ℕ → Bool) → ℕ → ℕ
greatest test zero = 0
greatest test (suc n) = if test (suc n) then suc n else greatest test n

-- the least place from 1 to n that passes the test, or 0
-- on E: of the stores up to 6 it is 1
unfoldable pub least : (ℕ → Bool) → ℕ → ℕ
least test zero = 0
least test (suc n) = if nat_lt 0 (least test n) then least test n else (if test (suc n) then suc n else 0)

-- how many places from 1 to n pass the test
-- on E: of the stores up to 6 it is 2
unfoldable pub count : (ℕ → Bool) → ℕ → ℕ
count test zero = 0
count test (suc n) = if test (suc n) then suc (count test n) else count test n

-- whether a place after i and before j passes the test
-- on E: a fence lies between 2 and 6, and none between 4 and 6
unfoldable pub some_between : (ℕ → Bool) → ℕ → ℕ → Bool
some_between test i j = nat_lt i (greatest test (j - 1))

-- the highest value that a place from 0 to n has
-- example: of the remainders of 0 to 6 by 4 it is 3
unfoldable pub highest : (ℕ → ℕ) → ℕ → ℕ
highest value zero = value 0
highest value (suc n) = max (value (suc n)) (highest value n)
