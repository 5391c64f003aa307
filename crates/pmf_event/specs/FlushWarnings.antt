-- Write-backs that cost time and do nothing (PMTest, ASPLOS 2019: WARN for performance). A write-back is
-- judged line by line, at the place before it. Exclusion has no influence here. Defined here.
use Rattle.std.specs.Prelude.{ℕ, ◌+◌, ◌-◌, ◌*◌, ◌/◌, Bool, not, ◌&&◌, ◌||◌, ◌==◌, nat_lt, List, [], ◌∷◌, ◌++◌, Option, None, Some}
use Rattle.pmf_event.specs.{declared.event.Event.{Event}, declared.finding.Finding.{Finding}, declared.finding.Finding.TheVariants.{FlushDoubled, FlushNeedless}, declared.lines.Lines.{Lines}, declared.span.TheConstants.{LINE_SIZE}, Span.{Extent}, Ranges.{first_from, count_from}, Store.{stores_line, last}, Interval.{first_write_back, closing_fence}}

-- whether the line is clean at p: no store has met it, or a fence follows a write-back of it that
-- follows the last store that met it
unfoldable pub is_clean : List Event → ℕ → ℕ → Bool
is_clean es p line = last (stores_line line) es p == 0 || nat_lt 0 (closing_fence (stores_line line) line es p)

-- whether the line is pending at p: it is not clean, and a write-back of it follows the last store that
-- met it
unfoldable pub is_pending : List Event → ℕ → ℕ → Bool
is_pending es p line = not (is_clean es p line) && nat_lt 0 (first_write_back (stores_line line) line es p)

-- the number of the first line that the span meets
abbrev pub first_line : Extent → ℕ
first_line s = s.first / LINE_SIZE

-- how many lines the span meets
abbrev pub line_count : Extent → ℕ
line_count s = (s.first + s.size - 1) / LINE_SIZE + 1 - s.first / LINE_SIZE

-- whether the line with this number passes
unfoldable pub numbered : (ℕ → Bool) → ℕ → Bool
numbered test n = test (n * LINE_SIZE)

-- lines from the number of the least of them, if there is one, and how many there are
abbrev pub lines_from : Option ℕ → ℕ → Option Lines
lines_from None count = None
lines_from (Some n) count = Some (record { least = n * LINE_SIZE; count = count })

-- of the lines that the span meets, those that pass, if one does: the least, and how many
unfoldable pub lines_where : (ℕ → Bool) → Extent → Option Lines
lines_where test s = lines_from (first_from (numbered test) (first_line s) (line_count s)) (count_from (numbered test) (first_line s) (line_count s))

-- DOUBLED with these lines, if there are any
abbrev pub doubled_finding : Option Lines → Option Finding
doubled_finding None = None
doubled_finding (Some lines) = Some (FlushDoubled lines.least lines.count)

-- NEEDLESS with these lines, if there are any
abbrev pub needless_finding : Option Lines → Option Finding
needless_finding None = None
needless_finding (Some lines) = Some (FlushNeedless lines.least lines.count)

-- a finding as a list, if there is one
abbrev pub if_any : Option Finding → List Finding
if_any None = []
if_any (Some finding) = finding ∷ []

-- what is found of a write-back over the span that follows place p: its pending lines, then its clean
-- lines
unfoldable pub flush_findings : List Event → ℕ → Extent → List Finding
flush_findings es p s = if_any (doubled_finding (lines_where (is_pending es p) s)) ++ if_any (needless_finding (lines_where (is_clean es p) s))
