-- Searches over the n numbers from b on: bytes of a span, or cache lines by number. Defined here.
use Rattle.std.specs.Prelude.{ℕ, zero, suc, ◌+◌, Bool, nat_le, Option, None, Some, if◌then◌else◌}
use Rattle.pmf_event.specs.Span.{Extent}

-- the least of the n numbers from b on that passes the test
unfoldable pub first_from : (ℕ → Bool) → ℕ → ℕ → Option ℕ
first_from test b zero = None
first_from test b (suc n) = if test b then Some b else first_from test (b + 1) n

-- how many of the n numbers from b on pass the test
unfoldable pub count_from : (ℕ → Bool) → ℕ → ℕ → ℕ
count_from test b zero = 0
count_from test b (suc n) = if test b then suc (count_from test (b + 1) n) else count_from test (b + 1) n

-- the lesser of two values, either of which may be missing
abbrev pub lesser : Option ℕ → Option ℕ → Option ℕ
lesser None y = y
lesser (Some x) None = Some x
lesser (Some x) (Some y) = if nat_le x y then Some x else Some y

-- the least value that one of the n numbers from b on has
unfoldable pub least_from : (ℕ → Option ℕ) → ℕ → ℕ → Option ℕ
least_from value b zero = None
least_from value b (suc n) = lesser (value b) (least_from value (b + 1) n)

-- the least byte of the span that passes the test
abbrev pub first_byte : (ℕ → Bool) → Extent → Option ℕ
first_byte test s = first_from test s.first s.size
