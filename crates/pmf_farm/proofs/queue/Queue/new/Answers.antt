use Rattle.std.proofs.{Common.{◌∙◌}, lemmas.Iterator.Adapters.{YieldsList-from_vec}, lemmas.Iterator.Consumers.{YieldsList-end}}
use Rattle.pmf_farm.proofs.lemmas.RollLemmas.{queue-of}
use Rattle.pmf_farm.proofs.queue.Queue.new.Goals as goal

pub returns-clause-same : goal.returns-clause-same
returns-clause-same c =
    let placed = c.in_ok-placed.placed in
    let gives = c.into_iter-section-iterator.ensures.into_iter_gives in
    let seen = YieldsList-end (YieldsList-from_vec placed.items gives.0 (gives.1 ∙ placed.ok.0)) c.loop-section.yielded c.loop-section.section-iterator c.loop-section.yielded_by c.next.result c.next.new.self c.in-None.is c.next.ensures.steps in
    queue-of (λ p. p.section.value) (λ p. p.place) c.args.roll.now placed.items c.loop-section.yielded _ _ seen.0 c.loop-section.invariant.sections c.loop-section.invariant.places c.in_ok-placed.ensures.same
