use Rattle.std.proofs.Common.{◌∙◌, ◌==◌, not, ap}
use Rattle.pmf_storelog.specs.Separators.{records_of}
use Rattle.pmf_query.proofs.NumberFoundLemmas.{read_so}
use Rattle.pmf_lint.{specs.Due.{asserted_in, empty_in}, specs.Summing.{sums_of}, specs.Warnings.{warnings_by}, proofs.DueLemmas.{due_so, sums_run}}
use Rattle.pmf_lint.proofs.due.warnings_due.Goals as goal

pub returns : goal.returns
returns c =
    let so = read_so c.requires.0 c.args.log.now c.args.read.now c.requires.1 in
    let bytes = c.args.log.now in
    let same = c.sections.ensures in
    due_so bytes (records_of bytes) c.args.read.now.sections c.note_records-notes.result c.in_ok-asserted.asserted c.in_ok-asserted.filled c.is_open_ended.result c.both.result c.both-2.result c.in_ok-misread.misread
    c.note_records-notes.ensures c.in_ok-misread.ensures (c.in_ok-asserted.ensures.asserted ∙ ap (λ ts. not (asserted_in ts == 0)) same) (c.in_ok-asserted.ensures.filled ∙ ap (λ ts. not (empty_in ts == asserted_in ts)) same)
    c.is_open_ended.ensures c.both.ensures c.both-2.ensures
    ∙ ap (warnings_by bytes (records_of bytes)) (ap sums_of so.1 ∙ sums_run c.requires.0 (records_of bytes))
