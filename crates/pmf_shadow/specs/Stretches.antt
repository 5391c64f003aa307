-- Cache lines by number and by a test on their bytes. No public clause cites this.
use Rattle.std.specs.Prelude.{◌≡◌, ℕ, ◌<◌, ◌≤◌, Bool, true, not, ◌&&◌, Option}
use Rattle.pmf_event.specs.{declared.lines.Lines.{Lines}, Span.{Extent}, Ranges.{first_from, count_from}, FlushWarnings.{first_line, line_count, lines_from}}
use Rattle.pmf_runs.specs.Lines.{line_has}

-- whether no byte of the line with this number passes
unfoldable pub line_lacks : (ℕ → Bool) → ℕ → Bool
line_lacks test n = not (line_has test n)

-- whether some byte of the line passes the one test, and none the other
unfoldable pub line_has_but : (ℕ → Bool) → (ℕ → Bool) → ℕ → Bool
line_has_but test other n = line_has test n && not (line_has other n)

-- each line from this number up to the end has a byte that passes
abbrev pub AllHave : (ℕ → Bool) → ℕ → ℕ → Type 0
AllHave test first end = (n : ℕ) → first ≤ n → n < end → line_has test n ≡ true

-- of so many lines from a number on, those that pass, if one does: the least, and how many
abbrev pub lines_at : (ℕ → Bool) → ℕ → ℕ → Option Lines
lines_at test first count = lines_from (first_from test first count) (count_from test first count)

-- of the lines of a span, by their numbers, those that pass, if one does: the least, and how many
unfoldable pub lines_by : (ℕ → Bool) → Extent → Option Lines
lines_by test s = lines_at test (first_line s) (line_count s)
