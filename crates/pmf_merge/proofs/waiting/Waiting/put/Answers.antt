use Rattle.std.proofs.Common.{subst}
use Rattle.pmf_merge.{specs.Waiting.{PutsAt}, proofs.lemmas.WaitingLemmas.{waits}}
use Rattle.pmf_merge.proofs.waiting.Waiting.put.Goals as goal

pub returns-in-Ok : goal.returns-in-Ok
returns-in-Ok c = λ names after is none puts.
    waits names after c.args.self.now c.args.index is (record { places = c.insert.new.self }) c.in-Some.name none (subst (λ name. PutsAt names c.args.index name after) c.in-Some.is puts) c.in-Ok.ensures.updates
