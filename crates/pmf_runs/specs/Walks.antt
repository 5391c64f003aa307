-- Walks over the elements of a range.
use Rattle.std.specs.Prelude.{◌≡◌, ℕ, ◌-◌, min, nat_lt, List, length, get_or, if◌then◌else◌, Option}
use Rattle.pmf_event.specs.Ranges.{least_from, lesser}

-- where the numbers of the element at an index end: at its key, or at the range's end if that comes first
unfoldable pub end_of : List ℕ → ℕ → ℕ → ℕ
end_of keys index end = if nat_lt index (length keys) then min end (get_or keys index 0) else end

-- the result is the lesser of the least so far and of the least value of a range, by each way to tell values
abbrev pub IsLowered : {D : Type 0} → (D → ℕ → Option ℕ) → ℕ → ℕ → Option ℕ → Option ℕ → Type 0
IsLowered {D} value first end least result = (d : D) → result ≡ lesser least (least_from (value d) first (end - first))
