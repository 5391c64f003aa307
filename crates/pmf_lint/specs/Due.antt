-- Whether a section has an assertion with something to check. No public clause cites this.
use Rattle.std.specs.Prelude.{ℕ, ◌==◌, Bool, not, List, length, count_by, sum_by}
use Rattle.pmf_event.specs.{declared.event.Event.{Event}, Places.{count}, Section.{Trace}}
use Rattle.pmf_lint.specs.{Misread.{is_unmet}, Summing.{asserts, empty_of}}

-- whether some assertion of the events has something to check: fewer lack bytes than there are
unfoldable pub fills : List Event → Bool
fills es = not (count (is_unmet es) (length es) == count_by (λ e. asserts e) es)

-- how many events of the sections assert something, and how many of their rows are empty
abbrev pub asserted_in : List Trace → ℕ
asserted_in sections = sum_by (λ (t : Trace). count_by (λ e. asserts e) t.events) sections

abbrev pub empty_in : List Trace → ℕ
empty_in sections = sum_by (λ (t : Trace). empty_of t) sections
