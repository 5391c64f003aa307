use Rattle.std.proofs.Common.{sym, ◌∙◌, ap, subst, Err}
use Rattle.pmf_storelog.specs.Lines.{event_of_line}
use Rattle.pmf_ledger.{specs.Following.{IsStoppedBy}, specs.Loading.{after_event}, proofs.lemmas.ReadingLemmas.{stopped, event-refused, event-too_many}}
use Rattle.pmf_ledger.proofs.blocks.Blocks.event.Goals as goal

pub returns-in-Err-TooManyEvents-clause-reaches : goal.returns-in-Err-TooManyEvents-clause-reaches
returns-in-Err-TooManyEvents-clause-reaches c = λ r read of_text.
    stopped r c.args.self.now read _ _
    (ap (after_event r c.args.line c.args.section c.args.more c.args.told) (sym c.read_event.ensures ∙ c.in-Ok.is)
    ∙ event-too_many r c.args.line c.args.section c.args.more c.args.told c.in-Ok.event (c.in-Err-TooManyEvents.ensures.too_many.0 (ap (λ fault. Err fault) c.in-Err-TooManyEvents.field-0-is)))

pub returns-in-Err-clause-reaches : goal.returns-in-Err-clause-reaches
returns-in-Err-clause-reaches c = λ r read of_text.
    let e = after_event r c.args.line c.args.section c.args.more c.args.told in subst (IsStoppedBy (e (event_of_line c.args.text.now))) (sym c.fault_at.ensures)
    (event-refused r c.args.self.now read c.args.line _ _ (ap e (sym c.read_event.ensures ∙ c.in-Err.is)))
