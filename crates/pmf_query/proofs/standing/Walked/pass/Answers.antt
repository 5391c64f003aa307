use Rattle.std.proofs.Common.{◌≡◌, Ok, Err, refl}
use Rattle.pmf_storelog.specs.{declared.record.Saying.TheVariants.{Happens, Enters, Skipped}, Records.{record_of}}
use Rattle.pmf_query.proofs.{StandingLemmas.{on_ok, walked_event, walked_marker, walked_nothing, walked_refused}}
use Rattle.pmf_query.proofs.standing.Walked.pass.Goals as goal

pub returns-in-Ok-Happens-clause-walked : goal.returns-in-Ok-Happens-clause-walked
returns-in-Ok-Happens-clause-walked c = λ bytes start found walked.
    let says : record_of c.args.found.text.now ≡ Ok (Happens c.in-Ok-Happens.field-0-0) = cc in
    on_ok c.add.result (walked_event bytes start c.args.found.offset c.args.found.text.now c.args.found.next found c.args.self.now walked c.in-Ok-Happens.field-0-0 _ says refl refl _ refl refl refl) c.add.ensures

pub returns-in-Ok-Enters-clause-walked : goal.returns-in-Ok-Enters-clause-walked
returns-in-Ok-Enters-clause-walked c = λ bytes start found walked.
    let says : record_of c.args.found.text.now ≡ Ok (Enters c.in-Ok-Enters.number) = cc in
    walked_marker bytes start c.args.found.offset c.args.found.text.now c.args.found.next found c.args.self.now walked c.in-Ok-Enters.number _ says refl refl refl

pub returns-in-Ok-Skipped-clause-walked : goal.returns-in-Ok-Skipped-clause-walked
returns-in-Ok-Skipped-clause-walked c = λ bytes start found walked.
    let says : record_of c.args.found.text.now ≡ Ok Skipped = cc in
    walked_nothing bytes start c.args.found.offset c.args.found.text.now c.args.found.next found c.args.self.now walked _ says refl refl refl

pub returns-in-Err-clause-walked : goal.returns-in-Err-clause-walked
returns-in-Err-clause-walked c = λ bytes start found walked.
    let says : record_of c.args.found.text.now ≡ Err c.in-Err.field-0 = cc in
    walked_refused bytes start c.args.found.offset c.args.found.text.now c.args.found.next found c.args.self.now walked c.in-Err.field-0 _ says refl refl refl
