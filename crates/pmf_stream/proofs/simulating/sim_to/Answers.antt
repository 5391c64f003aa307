use Rattle.pmf_stream.{proofs.lemmas.AnsweringLemmas.{Answers-written}, specs.Simulated.{IsSimRefusalOf, IsSimulationOf}}
use Rattle.pmf_stream.proofs.simulating.sim_to.Goals as goal

pub returns-clause-answer : goal.returns-clause-answer
returns-clause-answer g c =
    Answers-written (IsSimulationOf c.args.log.now c.args.schedule.now c.args.workers c.args.ledgers) (IsSimRefusalOf c.args.log.now c.args.schedule.now c.args.workers c.args.ledgers)
    _ _ tt c.in-Ok.text.items c.write_answer.result c.in-Ok.ensures (rw c.deref.ensures.value at c.write_answer.ensures.written)
