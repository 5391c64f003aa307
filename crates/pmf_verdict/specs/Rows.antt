-- The rows of a section: what the checker says of each event, in the order of the events, and then of the
-- section's end.
-- (E and T of the examples: docs/DEFINITIONS.md)
use Rattle.std.specs.Prelude.{ℕ, zero, suc, ◌-◌, List, [], ◌∷◌, ◌++◌, map, length, Option, Some}
use Rattle.pmf_event.specs.{declared.event.Event.{Event}, declared.event.Event.TheVariants.{Store, Flush, Persist, Ordered, TxAdd, TxEnd, CheckStart, CheckEnd}, declared.finding.Finding.{Finding}, declared.profile.Profile.{Profile}, declared.row.Row.{Row}, Store.{event_at}, Persist.{persist_finding}, Order.{ordered_finding}, FlushWarnings.{flush_findings, if_any}, Transactions.{store_finding, add_finding, end_finding, start_finding, check_finding, close_finding}}

-- what is found of the event at place p; a write-back is judged before it takes effect, and so is what
-- the event does to transactions and their scope
unfoldable pub findings_of : Profile → List Event → ℕ → Option Event → List Finding
findings_of profile es p (Some (Store s)) = if_any (store_finding es (p - 1) s)
findings_of profile es p (Some (Flush s)) = flush_findings es (p - 1) s
findings_of profile es p (Some (Persist s)) = persist_finding es p s ∷ []
findings_of profile es p (Some (Ordered a b)) = ordered_finding profile es p a b ∷ []
findings_of profile es p (Some (TxAdd s)) = if_any (add_finding es (p - 1) s)
findings_of profile es p (Some TxEnd) = if_any (end_finding es (p - 1))
findings_of profile es p (Some CheckStart) = if_any (start_finding es (p - 1))
findings_of profile es p (Some CheckEnd) = check_finding es (p - 1) ∷ []
findings_of profile es p _ = []

-- the row that says a finding at place p
-- on E: `5 PERSIST PASS` is `row_at 5 PersistPass`
abbrev pub row_at : ℕ → Finding → Row
row_at p finding = record { place = p; finding = finding }

-- the rows of the first p events
unfoldable pub rows_upto : Profile → List Event → ℕ → List Row
rows_upto profile es zero = []
rows_upto profile es (suc p) = rows_upto profile es p ++ map (row_at (suc p)) (findings_of profile es (suc p) (event_at es (suc p)))

-- the row at the end of a section, if there is one
unfoldable pub rows_at_end : List Event → ℕ → List Row
rows_at_end es p = map (row_at (suc p)) (if_any (close_finding es p))

-- the rows of a section with these events, by the profile
unfoldable pub rows_of : Profile → List Event → List Row
rows_of profile es = rows_upto profile es (length es) ++ rows_at_end es (length es)
