-- The summary of checked sections: for each run its sections, each with a text line of its counts and the rows that fail or warn, and a
-- text line with the run's sums; and a last text line with all sums. Defined here.
use Rattle.std.specs.Prelude.{ℕ, ◌==◌, Bool, not, ◌||◌, List, [], ◌∷◌, ◌++◌, codes, filter, flat_map, decimal}
use Rattle.pmf_event.specs.declared.row.Row.{Row}
use Rattle.pmf_verdict.specs.{declared.outcome.Outcome.TheVariants.{Fail, Warn}, Outcome.{outcome_of, is_same}, Checked.{Checked, rows_in}, Text.{text_of_rows}}
use Rattle.pmf_ledger.specs.{declared.totals.Totals.{Totals}, Report.{text_of_counts, text_of_header, text_of_totals, totals_of}}

-- whether a row fails or warns
unfoldable pub is_amiss : Row → Bool
is_amiss row = is_same Fail (outcome_of row.finding) || is_same Warn (outcome_of row.finding)

-- a section's header, as in a report, and those of its rows that fail or warn
unfoldable pub text_of_summarized : Checked → List ℕ
text_of_summarized s = text_of_header s ++ text_of_rows (filter is_amiss (rows_in s))

-- whether a section is of this run
unfoldable pub is_of_run : ℕ → Checked → Bool
is_of_run run s = s.section.name.run == run

-- the sections of this run
abbrev pub in_run : ℕ → List Checked → List Checked
in_run run sections = filter (is_of_run run) sections

-- the runs of some sections, each once, in the order in which they come first
unfoldable pub runs_of : List Checked → List ℕ
runs_of [] = []
runs_of (s ∷ more) = s.section.name.run ∷ filter (λ run. not (run == s.section.name.run)) (runs_of more)

-- `run R sections=S` and the sums
unfoldable pub line_of_run : ℕ → Totals → List ℕ
line_of_run run totals = codes "run " ++ decimal run ++ codes " sections=" ++ decimal totals.sections ++ text_of_counts totals

-- a run's sections, and their sums
unfoldable pub text_of_run : List Checked → ℕ → List ℕ
text_of_run sections run = flat_map text_of_summarized (in_run run sections) ++ line_of_run run (totals_of (in_run run sections))

-- the summary of these sections
abbrev pub summary_of : List Checked → List ℕ
summary_of sections = flat_map (text_of_run sections) (runs_of sections) ++ text_of_totals (totals_of sections)
