-- Cache lines of a map, whose numbers are bytes: those with one whose state passes.
use Rattle.std.specs.Prelude.{ℕ, zero, suc, ◌+◌, ◌*◌, ◌/◌, Bool, nat_lt, if◌then◌else◌, is_some}
use Rattle.pmf_event.specs.{declared.span.TheConstants.{LINE_SIZE}, Ranges.{first_from}}
use Rattle.pmf_runs.specs.declared.walk.Counted.{Counted}

-- whether some byte of the n-th line passes
unfoldable pub line_has : (ℕ → Bool) → ℕ → Bool
line_has test n = is_some (first_from test (n * LINE_SIZE) LINE_SIZE)

-- ---- a count that goes on from byte to byte. No public clause cites it.

-- the count with the line of byte b, where it isn't counted yet
abbrev pub with_line : ℕ → Counted → Counted
with_line b so_far = if nat_lt (b / LINE_SIZE) so_far.next then so_far else record { count = so_far.count + 1; next = b / LINE_SIZE + 1 }

-- the count with the lines of those of the n bytes from b on that pass
unfoldable pub counted_from : (ℕ → Bool) → ℕ → ℕ → Counted → Counted
counted_from test b zero = λ so_far. so_far
counted_from test b (suc n) = λ so_far. counted_from test (b + 1) n (if test b then with_line b so_far else so_far)
