-- Why a log may not be what its user believes it is. Defined here.
use Rattle.std.specs.Prelude.{ℕ, Bool, not, ◌&&◌, ◌||◌, ◌==◌, List}
use Rattle.pmf_storelog.specs.{Separators.{records_of}, LogText.{sections_of}}
use Rattle.pmf_lint.specs.{declared.summing.Sums.{Sums}, declared.warnings.Warnings.{Warnings}, Ending.{is_open_ended, lacks_stop}, Misread.{has_misread}, Naming.{skipped_names}, Nearness.{has_near, has_strange}, Summing.{sums_of}}

-- whether nothing is asserted
unfoldable pub asserts_nothing : Sums → Bool
asserts_nothing s = s.assertions == 0

-- whether something is, and no assertion had anything to check
unfoldable pub checks_nothing : Sums → Bool
checks_nothing s = not (s.assertions == 0) && s.empty == s.assertions

-- which warnings are due of a log with these bytes, these records and these sums
unfoldable pub warnings_by : List ℕ → List (List ℕ) → Sums → Warnings
warnings_by bytes records sums = record {
  asserts_nothing = asserts_nothing sums;
  checks_nothing = checks_nothing sums;
  has_near = has_near (skipped_names records);
  has_strange = has_strange (skipped_names records);
  is_open_ended = is_open_ended bytes;
  lacks_stop = lacks_stop records;
  is_misread = has_misread records;
}

-- which warnings are due of a log
abbrev pub warnings_of : List ℕ → Warnings
warnings_of bytes = warnings_by bytes (records_of bytes) (sums_of (sections_of 0 (records_of bytes)))

-- whether one of them is
unfoldable pub are_due : Warnings → Bool
are_due w =
    w.asserts_nothing || (w.checks_nothing || (w.has_near || (w.has_strange || (w.is_open_ended || (w.lacks_stop || w.is_misread)))))
