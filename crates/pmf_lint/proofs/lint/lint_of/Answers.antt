use Rattle.std.proofs.{Common.{◌∙◌, length, sym, ap, subst, List}, lemmas.List.{length-map}}
use Rattle.pmf_event.specs.Section.{Trace}
use Rattle.pmf_storelog.specs.Separators.{records_of}
use Rattle.pmf_query.proofs.NumberFoundLemmas.{read_so}
use Rattle.pmf_lint.{specs.Linting.{IsLint}, specs.Summing.{sums_of}, proofs.LintLemmas.{sections_long, skipped_so, told_so}}
use Rattle.pmf_lint.proofs.lint.lint_of.Goals as goal

pub returns : goal.returns
returns c =
    let so = read_so 0 c.args.log.now c.args.read.now c.requires.read in
    subst (IsLint c.args.log.now) (sym c.told.ensures)
    (told_so c.args.log.now c.in_ok-counts.counts _ _ _ so.0 c.in_ok-counts.ensures
    (c.skipped.ensures ∙ skipped_so 0 c.args.log.now c.args.read.now c.requires.read)
    (sym (length-map c.sections.result.now (λ a. a.value)) ∙ ap (λ (ts : List Trace). length ts) (c.sections.ensures ∙ so.1) ∙ sections_long 0 (records_of c.args.log.now))
    (c.requires.sums ∙ ap sums_of so.1) c.warnings_by-warnings.result c.warnings_by-warnings.ensures)
