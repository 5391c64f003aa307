use Rattle.std.proofs.{Common.{◌∙◌, length, map, sym, ap, subst, arith, List}, lemmas.List.{length-map}}
use Rattle.pmf_event.specs.Section.{Trace}
use Rattle.pmf_query.proofs.NumberFoundLemmas.{read_so}
use Rattle.pmf_lint.{specs.declared.looking.Looked.{Looked}, specs.Summing.{sums_of}, specs.StoreNames.{AreNamesIn}, proofs.LintLemmas.{sections_few}}
use Rattle.pmf_lint.proofs.lint.tell.Goals as goal

pub lint_of-requires-clause-sums : goal.lint_of-requires-clause-sums
lint_of-requires-clause-sums c = c.in_ok-sums.ensures.sums ∙ ap sums_of c.sections.ensures

pub of_faultless-requires : goal.of_faultless-requires
of_faultless-requires c = (read_so 0 c.args.log.now c.args.read.now c.requires).0

pub name_all-requires-clause-few : goal.name_all-requires-clause-few
name_all-requires-clause-few c =
    let value = λ (k : Looked). k.section.value in
    let long = sym (length-map c.in_ok-sums.looked.items value) ∙ ap (λ (ts : List Trace). length ts) (c.in_ok-sums.ensures.looked ∙ c.sections.ensures) in
    omega (arith, long, ap (λ (ks : List Looked). length ks) c.deref.ensures.value, sections_few 0 c.args.log.now c.args.read.now c.requires)

pub returns : goal.returns
returns c =
    let so = read_so 0 c.args.log.now c.args.read.now c.requires in
    let all = ap (λ (ks : List Looked). map (λ (k : Looked). k.section.value) ks) c.deref.ensures.value ∙ c.in_ok-sums.ensures.looked ∙ c.sections.ensures ∙ so.1 in (
      c.in_ok-lint.lint,
      c.in_ok-names.names,
      c.in_ok-lint.ensures,
      subst (λ (ts : List Trace). AreNamesIn c.args.log.now c.args.unasserted ts c.in_ok-names.names) all c.in_ok-names.ensures,
      c.are_due.ensures,
      c.in_ok-text.ensures,
    )
