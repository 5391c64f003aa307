-- What a persist assertion finds (PMTest, ASPLOS 2019: isPersist). EMPTY and the least byte are defined here.
-- (E and T of the examples: docs/DEFINITIONS.md)
use Rattle.std.specs.Prelude.{ℕ, Bool, not, ◌&&◌, nat_lt, List, Option, None, Some, is_none, if◌then◌else◌}
use Rattle.pmf_event.specs.{declared.event.Event.{Event}, declared.finding.Finding.{Finding}, declared.finding.Finding.TheVariants.{PersistPass, PersistFail, PersistEmpty}, Span.{Extent}, Ranges.{first_byte}, Store.{last_store}, Interval.{interval_at, is_open}, Exclusion.{is_excluded}}

-- whether byte b is checked at p: a store up to p covers it, and it is not excluded
-- on E: at 6 0x1000 is, and 0x1010 is not
unfoldable pub is_checked : List Event → ℕ → ℕ → Bool
is_checked es p b = nat_lt 0 (last_store es p b) && not (is_excluded es p b)

-- whether byte b is checked at p, and its persist interval is open
unfoldable pub is_exposed : List Event → ℕ → ℕ → Bool
is_exposed es p b = is_checked es p b && is_open (interval_at es p b)

-- pass, or fail with this byte
abbrev pub pass_unless : Option ℕ → Finding
pass_unless None = PersistPass
pass_unless (Some b) = PersistFail b

-- what a persist assertion over the span finds at p: EMPTY where no byte is checked, else the least
-- checked byte whose interval is open, else PASS
unfoldable pub persist_finding : List Event → ℕ → Extent → Finding
persist_finding es p s =
    if is_none (first_byte (is_checked es p) s) then PersistEmpty
    else pass_unless (first_byte (is_exposed es p) s)
