use Rattle.std.proofs.{Common.{arith, ◌≡◌, Ok, refl}, lemmas.Grind.{common_steps}}
use Rattle.pmf_storelog.{specs.declared.record.Saying.TheVariants.{Happens, Enters, Skipped}, specs.Records.{record_of}, proofs.TallyLemmas.{entered_ok, entered_err, taken_nothing, shown_cause}}
use Rattle.pmf_storelog.proofs.tally.Tally.take_record.Goals as goal

pub returns-in-Ok-Happens-clause-err : goal.returns-in-Ok-Happens-clause-err
returns-in-Ok-Happens-clause-err c = λ run records taken.
    let says : record_of c.args.text.now ≡ Ok (Happens c.in-Ok-Happens.event) = cc in c.take_event.ensures.err run records c.args.text.now taken says

pub returns-in-Ok-Enters-clause-ok : goal.returns-in-Ok-Enters-clause-ok
returns-in-Ok-Enters-clause-ok c = λ run records taken.
    let says : record_of c.args.text.now ≡ Ok (Enters c.in-Ok-Enters.number) = cc in
    entered_ok run records c.args.text.now c.args.self.now taken c.in-Ok-Enters.number _ c.count.new.self c.enter-entered.result c.count.result says refl refl
    (c.enter-entered.ensures.ok run _ _ _ taken.sections) (c.enter-entered.ensures.room run _ _ _ taken.sections) c.count.ensures.ok

pub returns-in-Ok-Enters-clause-err : goal.returns-in-Ok-Enters-clause-err
returns-in-Ok-Enters-clause-err c = λ run records taken.
    let says : record_of c.args.text.now ≡ Ok (Enters c.in-Ok-Enters.number) = cc in
    entered_err run records c.args.text.now c.args.self.now taken c.in-Ok-Enters.number _ c.enter-entered.result c.count.result says refl
    (c.enter-entered.ensures.err run _ _ _ taken.sections) c.count.ensures.err

pub returns-in-Ok-Skipped-clause-ok : goal.returns-in-Ok-Skipped-clause-ok
returns-in-Ok-Skipped-clause-ok c = λ run records taken.
    let says : record_of c.args.text.now ≡ Ok Skipped = cc in taken_nothing run records c.args.text.now c.args.self.now taken c.skip.new.self says c.skip.ensures.skips

pub returns-in-Err-clause-err : goal.returns-in-Err-clause-err
returns-in-Err-clause-err c = grind (arith, common_steps, shown_cause)
