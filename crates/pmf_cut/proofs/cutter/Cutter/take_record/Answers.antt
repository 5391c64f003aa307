use Rattle.std.proofs.Common.{◌≡◌, Ok, refl}
use Rattle.pmf_storelog.specs.{Records.{record_of}, declared.record.Saying.TheVariants.{Happens, Enters, Skipped}}
use Rattle.pmf_cut.proofs.cutter.Cutter.take_record.Goals as goal

pub returns-in_ok-happen-in-Ok-Happens : goal.returns-in_ok-happen-in-Ok-Happens
returns-in_ok-happen-in-Ok-Happens c = λ ends step records handed cuts holds.
    let says : record_of c.args.record.now ≡ Ok (Happens c.in-Ok-Happens.event) = cc in
    c.in_ok-happen-in-Ok-Happens.ensures ends step records handed _ cuts holds says

pub returns-in_ok-mark-in-Ok-Enters : goal.returns-in_ok-mark-in-Ok-Enters
returns-in_ok-mark-in-Ok-Enters c = λ ends step records handed cuts holds.
    let says : record_of c.args.record.now ≡ Ok (Enters c.in-Ok-Enters.number) = cc in
    c.in_ok-mark-in-Ok-Enters.ensures ends step records handed _ cuts holds says

pub returns-in_ok-pass-in-Ok-Skipped : goal.returns-in_ok-pass-in-Ok-Skipped
returns-in_ok-pass-in-Ok-Skipped c = λ ends step records handed cuts holds.
    let says : record_of c.args.record.now ≡ Ok Skipped = cc in
    c.in_ok-pass-in-Ok-Skipped.ensures ends step records handed _ cuts holds (says, refl)
