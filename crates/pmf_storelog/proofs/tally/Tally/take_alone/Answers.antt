use Rattle.pmf_storelog.specs.Quick.{SaysAlone}
use Rattle.pmf_storelog.proofs.tally.Tally.take_alone.Goals as goal

pub returns-in-Some-clause-err : goal.returns-in-Some-clause-err
returns-in-Some-clause-err c = λ run records taken.
    let part : SaysAlone c.args.part.now c.in-Some.event = rw c.in-Some.is at c.requires.says in rw part.alone (c.take_event.ensures.err run records _ taken part.says)
