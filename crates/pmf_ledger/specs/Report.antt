-- The report of checked sections: for each a text line with its counts and then its rows, and a last text line with
-- the sums. Defined here.
use Rattle.std.specs.Prelude.{ℕ, ◌+◌, ◌≤◌, List, [], ◌∷◌, ◌++◌, length, codes, count_by, sum_by, flat_map, decimal}
use Rattle.pmf_event.specs.declared.row.Row.{Row}
use Rattle.pmf_verdict.specs.{declared.outcome.Outcome.{Outcome}, declared.outcome.Outcome.TheVariants.{Pass, Fail, Warn, Empty}, Outcome.{outcome_of, is_same}, Checked.{Checked, rows_in}, Text.{text_of_rows}}
use Rattle.pmf_ledger.specs.declared.totals.Totals.{Totals}

-- how many of these rows count so
unfoldable pub rows_with : Outcome → List Row → ℕ
rows_with outcome rows = count_by (λ (row : Row). is_same outcome (outcome_of row.finding)) rows

-- how many rows of some sections count so
unfoldable pub rows_with_in : Outcome → List Checked → ℕ
rows_with_in outcome sections = sum_by (λ (s : Checked). rows_with outcome (rows_in s)) sections

-- how many sections there are, and how many of their rows count how
unfoldable pub totals_of : List Checked → Totals
totals_of sections = record {
  sections = length sections;
  pass = rows_with_in Pass sections;
  fail = rows_with_in Fail sections;
  warn = rows_with_in Warn sections;
  empty = rows_with_in Empty sections;
}

-- the sums of both
abbrev pub both : Totals → Totals → Totals
both a b = record {
  sections = a.sections + b.sections;
  pass = a.pass + b.pass;
  fail = a.fail + b.fail;
  warn = a.warn + b.warn;
  empty = a.empty + b.empty;
}

-- there are at most so many sections, and so many rows of each kind
pub record IsWithin (sections rows : ℕ) (totals : Totals) : Type 0 where
  pub sections_within : totals.sections ≤ sections
  pub pass_within : totals.pass ≤ rows
  pub fail_within : totals.fail ≤ rows
  pub warn_within : totals.warn ≤ rows
  pub empty_within : totals.empty ≤ rows

-- ` pass=P fail=F warn=W empty=M` and the end of the text line
unfoldable pub text_of_counts : Totals → List ℕ
text_of_counts t =
    codes " pass=" ++ decimal t.pass ++ codes " fail=" ++ decimal t.fail ++ codes " warn=" ++ decimal t.warn ++ codes " empty=" ++ decimal t.empty ++ codes "\n"

-- `section R.N events=E` and the counts
unfoldable pub text_of_header : Checked → List ℕ
text_of_header s =
    codes "section " ++ decimal s.section.name.run ++ codes "." ++ decimal s.section.name.number ++ codes " events=" ++ decimal (length s.section.events)
    ++ text_of_counts (totals_of (s ∷ []))

-- a section's header, and its rows
unfoldable pub text_of_section : Checked → List ℕ
text_of_section s = text_of_header s ++ text_of_rows (rows_in s)

-- `total sections=S` and the sums
unfoldable pub text_of_totals : Totals → List ℕ
text_of_totals totals = codes "total sections=" ++ decimal totals.sections ++ text_of_counts totals

-- the report of these sections, in this order
abbrev pub report_of : List Checked → List ℕ
report_of sections = flat_map text_of_section sections ++ text_of_totals (totals_of sections)
