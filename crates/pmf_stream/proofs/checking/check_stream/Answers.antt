use Rattle.std.proofs.Common.{◌∙◌, ap, subst}
use Rattle.pmf_storelog.specs.LogText.{log_of}
use Rattle.pmf_farm.specs.Running.{IsRefused}
use Rattle.pmf_stream.{proofs.lemmas.TakenLemmas.{refuses-workers}, specs.Checking.{IsCheckFaultOf, IsReportOf}, proofs.lemmas.AnsweringLemmas.{Answers-written}, proofs.lemmas.StreamLemmas.{warnings-kept}}
use Rattle.pmf_stream.proofs.checking.check_stream.Goals as goal

pub look-requires : goal.look-requires
look-requires g c = λ strict.
    let read = c.in-Ok.ensures.ok in (c.args.settings.run, ap (log_of c.args.settings.run) (c.deref.ensures.value ∙ read.1 strict) ∙ read.0.faultless)

pub returns-clause-answer : goal.returns-clause-answer
returns-clause-answer g c =
    let settings = c.args.settings in
    let left = g.R.Source.left c.args.reader.now in
    let rest = g.R.Source.left c.read_log.new.reader in
    let read = c.in-Ok.ensures.ok in
    let warnings = warnings-kept c.args.settings.strict c.deref.result.now read.0.bytes c.in_ok-warnings.warnings c.in-Some.done.warnings c.in_ok-warnings.ensures
    (λ strict. c.deref.ensures.value ∙ read.1 strict) (rw c.in-Some.is at c.in_ok-text.ensures.warnings) in
    Answers-written (IsReportOf settings left rest) (IsCheckFaultOf settings left rest) _ _ c.in-Some.done c.in-Some.text.items c.write_answer.result
    (c.in-Ok.read.0, read.0, rw c.in-Some.is at c.in_ok-text.ensures.reports, warnings)
    (rw c.deref-2.ensures.value at c.write_answer.ensures.written)

pub returns-in-Err-run-clause-answer : goal.returns-in-Err-run-clause-answer
returns-in-Err-run-clause-answer g c =
    let read = c.in-Ok.ensures.ok.0 in
    let refused = subst (λ ss. IsRefused c.args.settings.workers ss c.in-Err-run.fault) c.sections.ensures c.in-Err-run.ensures.refused in
    (c.in-Ok.read.0, read, refuses-workers c.args.settings.run c.args.settings.workers read.bytes c.in-Ok.read.0 c.in-Err-run.fault read.faultless refused)
