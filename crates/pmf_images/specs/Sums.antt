-- What stands for a count in levels of numbers, each half as long as the one below it. No public clause cites this.
use Rattle.std.specs.Prelude.{ℕ, zero, suc, ◌+◌, ◌/◌, Bool, ◌&&◌, nat_le, nat_lt, List, get_or, take, drop, if◌then◌else◌}

-- the greatest number that is kept
abbrev pub COUNT_LIMIT : ℕ
COUNT_LIMIT = 4294967295

-- whether the index lies from the first up to the end
unfoldable pub lies_in : ℕ → ℕ → ℕ → Bool
lies_in first end x = nat_le first x && nat_lt x end

-- one more, or the same
abbrev pub raised_if : Bool → ℕ → ℕ
raised_if raises n = if raises then suc n else n

-- the sum of the numbers at x, at the half of x one level above, and so on, over at most k levels
unfoldable pub over : ℕ → List ℕ → ℕ → ℕ → ℕ
over zero sums width x = 0
over (suc k) sums width x = get_or (take width sums) x 0 + over k (drop width sums) (width / 2) (x / 2)
