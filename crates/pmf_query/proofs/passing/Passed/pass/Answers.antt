use Rattle.std.proofs.Common.{◌≡◌, Ok, Err, refl}
use Rattle.pmf_storelog.specs.{declared.record.Saying.TheVariants.{Happens, Enters, Skipped}, Records.{record_of}}
use Rattle.pmf_query.proofs.PassedLemmas.{passed_here, passed_elsewhere, passed_marker, passed_nothing, passed_refused}
use Rattle.pmf_query.proofs.passing.Passed.pass.Goals as goal

pub returns-then-self-section-clause-passed : goal.returns-then-self-section-clause-passed
returns-then-self-section-clause-passed c = λ records passed.
    let says : record_of c.args.text.now ≡ Ok (Happens c.in-Ok-Happens.field-0-0) = cc in
    passed_elsewhere c.args.section records c.args.self.now passed c.args.text.now c.in-Ok-Happens.field-0-0 _ says c.if-self-section.true refl refl refl

pub returns-else-self-section-clause-passed : goal.returns-else-self-section-clause-passed
returns-else-self-section-clause-passed c = λ records passed.
    let says : record_of c.args.text.now ≡ Ok (Happens c.in-Ok-Happens.field-0-0) = cc in
    passed_here c.args.section records c.args.self.now passed c.args.text.now c.in-Ok-Happens.field-0-0 _ says c.if-self-section.false refl refl refl

pub returns-in-Ok-Enters-clause-passed : goal.returns-in-Ok-Enters-clause-passed
returns-in-Ok-Enters-clause-passed c = λ records passed.
    let says : record_of c.args.text.now ≡ Ok (Enters c.in-Ok-Enters.number) = cc in
    passed_marker c.args.section records c.args.self.now passed c.args.text.now c.in-Ok-Enters.number _ says refl refl refl

pub returns-in-Ok-Skipped-clause-passed : goal.returns-in-Ok-Skipped-clause-passed
returns-in-Ok-Skipped-clause-passed c = λ records passed.
    let says : record_of c.args.text.now ≡ Ok Skipped = cc in
    passed_nothing c.args.section records c.args.self.now passed c.args.text.now _ says refl refl refl

pub returns-in-Err-clause-passed : goal.returns-in-Err-clause-passed
returns-in-Err-clause-passed c = λ records passed.
    let says : record_of c.args.text.now ≡ Err c.in-Err.field-0 = cc in
    passed_refused c.args.section records c.args.self.now passed c.args.text.now c.in-Err.field-0 _ says refl refl refl
