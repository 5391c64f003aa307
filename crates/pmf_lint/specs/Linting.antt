-- What is told of a whole log. Defined here.
use Rattle.std.specs.Prelude.{◌≡◌, ℕ, Bool, List, length, take}
use Rattle.pmf_storelog.specs.{Separators.{records_of}, LogText.{numbers_of, sections_of, skipped_of}}
use Rattle.pmf_query.specs.{Locating.{IsFaultless}, RecordNames.{known_names}}
use Rattle.pmf_lint.specs.{Naming.{Count, count_others, first_names, names_in, names_of, skipped_names}, Summing.{sums_of}, Warnings.{are_due, warnings_of}, declared.naming.TheConstants.{LISTED}, declared.lint.Lint.{Lint}, declared.lint.Linted.{Linted}, declared.storing.StoreNames.{StoreNames}, StoreNames.{AreStoreNames}, LintText.{text_of_lint}}

-- the log is faultless, and this is told of it: its records; how many have each known name; how many are skipped; of their
-- names the first different ones, how many have each of these, and how many have none; its sections, and what they hold; and which
-- warnings are due
pub record IsLint (bytes : List ℕ) (lint : Lint) : Type 0 where
  pub faultless : IsFaultless bytes
  pub records : lint.records ≡ length (records_of bytes)
  pub names : names_in lint.known.items ≡ known_names
  pub known : Count lint.known.items (names_of (records_of bytes))
  pub skipped : lint.skipped ≡ skipped_of (records_of bytes)
  pub first : names_in lint.listed.items ≡ take LISTED (first_names (skipped_names (records_of bytes)))
  pub listed : Count lint.listed.items (skipped_names (records_of bytes))
  pub others : lint.others ≡ count_others (names_in lint.listed.items) (skipped_names (records_of bytes))
  pub sections : lint.sections ≡ length (numbers_of (records_of bytes))
  pub sums : lint.sums ≡ sums_of (sections_of 0 (records_of bytes))
  pub warnings : lint.warnings ≡ warnings_of bytes

-- of the log this is told, and this text written, with the names of the stores that no later assertion covers where these are asked for
abbrev pub Overviews : Bool → List ℕ → Linted → List ℕ → Type 0
Overviews asked bytes told text =
    (lint : Lint) × (names : StoreNames) × IsLint bytes lint × AreStoreNames bytes asked names × (told.is_suspicious ≡ are_due lint.warnings) × (text ≡ text_of_lint lint names)
