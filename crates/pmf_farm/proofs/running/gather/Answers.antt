use Rattle.pmf_farm.proofs.lemmas.GatherLemmas.{IsLedgerOf-more}
use Rattle.pmf_farm.proofs.running.gather.Goals as goal

pub loop-slot-preserved : goal.loop-slot-preserved
loop-slot-preserved g c =
    IsLedgerOf-more c.args.profile c.loop-slot.yielded c.in-Some.slot c.in_ok-verdict.verdict c.loop-slot.ledger c.take.new.self c.in_ok-verdict.ensures.verdict c.in_default.ensures.gathers c.loop-slot.invariant
