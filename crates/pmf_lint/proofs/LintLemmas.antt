-- What is told of a log that was read.
use Rattle.std.proofs.{Common.{◌≡◌, ◌∙◌, ◌≤◌, ℕ, List, [], ◌∷◌, ◌++◌, Ok, length, take, sym, ap, subst, arith}, lemmas.List.{length-map}}
use Rattle.pmf_event.specs.{declared.name.Name.{Name}, Section.{Trace}}
use Rattle.pmf_storelog.proofs.RisingLemmas.{name_in, numbers_rise}
use Rattle.pmf_storelog.specs.{declared.fault.TheConstants.{SECTION_LIMIT}, Separators.{records_of}, LogValue.{LogValue}, LogText.{fault_of, log_of, numbers_of, sections_of, skipped_of, value_of}}
use Rattle.pmf_query.{specs.Locating.{IsFaultless}, specs.Walking.{IsNext}, proofs.NumberFoundLemmas.{by_fault}}
use Rattle.pmf_lint.specs.{Linting.{IsLint}, Summing.{sums_of}, declared.summing.Sums.{Sums}, declared.counting.NameCounts.{NameCounts}, declared.warnings.Warnings.{Warnings}, Counting.{Tallies}, Warnings.{warnings_by}}

pub skipped_so : (run : ℕ) (bytes : List ℕ) (log : LogValue) → log_of run bytes ≡ Ok log → log.skipped ≡ skipped_of (records_of bytes)
unfolding log_of value_of
skipped_so run bytes log is = ap (λ (l : LogValue). l.skipped) (by_fault (fault_of bytes) (value_of run bytes) log is).1

pub sections_long : (run : ℕ) (records : List (List ℕ)) → length (sections_of run records) ≡ length (numbers_of records)
unfolding sections_of
sections_long run records = length-map (numbers_of records) _

pub sections_few : (run : ℕ) (bytes : List ℕ) (log : LogValue) → log_of run bytes ≡ Ok log → length log.sections ≤ SECTION_LIMIT
sections_few run bytes log is =
    let named = numbers_rise run bytes log is in
    let long = ap (λ (names : List Name). length names) named.3 ∙ length-map named.0 (name_in run) in
    omega (arith, long, length-map log.sections (λ (t : Trace). t.name), named.2)

pub tallied_next : (bytes : List ℕ) (start offset : ℕ) (text : List ℕ) (next : ℕ) (counts : NameCounts) → IsNext bytes start offset text next → Tallies counts (records_of (take start bytes) ++ text ∷ []) → Tallies counts (records_of (take next bytes))
tallied_next bytes start offset text next counts found tallies = subst (Tallies counts) (sym found.adds) tallies

pub told_so : (bytes : List ℕ) (counts : NameCounts) (skipped sections : ℕ) (sums : Sums) → IsFaultless bytes → Tallies counts (records_of bytes) → skipped ≡ skipped_of (records_of bytes) →
    sections ≡ length (numbers_of (records_of bytes)) → sums ≡ sums_of (sections_of 0 (records_of bytes)) → (warnings : Warnings) → warnings ≡ warnings_by bytes (records_of bytes) sums →
    IsLint bytes (record { records = counts.records; known = counts.known; skipped = skipped; listed = counts.listing.listed; others = counts.listing.others; sections = sections; sums = sums; warnings = warnings })
told_so bytes counts skipped sections sums faultless tallies skipped_is sections_are sums_are warnings due = record {
  faultless = faultless;
  records = tallies.count;
  names = tallies.names;
  known = tallies.known;
  skipped = skipped_is;
  first = tallies.skipped.first;
  listed = tallies.skipped.listed;
  others = tallies.skipped.others;
  sections = sections_are;
  sums = sums_are;
  warnings = due ∙ ap (warnings_by bytes (records_of bytes)) sums_are;
}
