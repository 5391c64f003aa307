use Rattle.std.proofs.Common.{refl, slice_get, subst, sym, IfOk}
use Rattle.pmf_world.{specs.Turns.{check_where, lose_where, mark_where, send_where, take_turn}, specs.Worlds.{Steps}, proofs.lemmas.TurningLemmas.{kept-turned, kept-turned_if_room, turn-steps, turn-steps_if_room, world_on}}
use Rattle.pmf_world.proofs.world.World.step.Goals as goal

pub invariant_of-self : goal.invariant_of-self
invariant_of-self c = kept-turned _ c.take.new.self _ c.self.inside.ledgers.items c.take.result c.take.ensures c.self.invariant

pub returns-in-Fresh-clause-steps : goal.returns-in-Fresh-clause-steps
returns-in-Fresh-clause-steps c =
    subst (λ s. IfOk c.take.result (λ told. Steps c.args.self.now s told (world_on c.take.new.self c.self.inside.ledgers.items))) (sym c.in-Fresh.is)
    (turn-steps c.args.self.now _ (λ f. take_turn 1 f c.in-Fresh.worker c.in-Fresh.section) c.self.inside.floor c.take.new.self c.self.inside.ledgers.items c.self.view_is (λ state. refl) c.take.result c.take.ensures)

pub invariant_of-self-in-Again : goal.invariant_of-self-in-Again
invariant_of-self-in-Again c = kept-turned _ c.take-in-Again.new.self _ c.self-in-Again.inside.ledgers.items c.take-in-Again.result c.take-in-Again.ensures c.self-in-Again.invariant

pub returns-in-Again-clause-steps : goal.returns-in-Again-clause-steps
returns-in-Again-clause-steps c =
    subst (λ s. IfOk c.take-in-Again.result (λ told. Steps c.args.self.now s told (world_on c.take-in-Again.new.self c.self-in-Again.inside.ledgers.items))) (sym c.in-Again.is)
    (turn-steps c.args.self.now _ (λ f. take_turn 8 f c.in-Again.worker c.in-Again.section) c.self-in-Again.inside.floor c.take-in-Again.new.self c.self-in-Again.inside.ledgers.items c.self-in-Again.view_is (λ state. refl) c.take-in-Again.result c.take-in-Again.ensures)

pub invariant_of-self-in-Check : goal.invariant_of-self-in-Check
invariant_of-self-in-Check c = kept-turned_if_room _ c.check_task.new.self _ c.self-in-Check.inside.ledgers.items c.check_task.result c.check_task.ensures c.self-in-Check.invariant

pub returns-in-Check-clause-steps : goal.returns-in-Check-clause-steps
returns-in-Check-clause-steps c =
    subst (λ s. IfOk c.check_task.result (λ told. Steps c.args.self.now s told (world_on c.check_task.new.self c.self-in-Check.inside.ledgers.items))) (sym c.in-Check.is)
    (turn-steps_if_room c.args.self.now _ (λ f. check_where f c.in-Check.worker (slice_get f.workers c.in-Check.worker)) c.self-in-Check.inside.floor c.check_task.new.self c.self-in-Check.inside.ledgers.items c.self-in-Check.view_is (λ state. refl) c.check_task.result c.check_task.ensures)

pub invariant_of-self-in-Send : goal.invariant_of-self-in-Send
invariant_of-self-in-Send c = kept-turned_if_room _ c.send.new.self _ c.self-in-Send.inside.ledgers.items c.send.result c.send.ensures c.self-in-Send.invariant

pub returns-in-Send-clause-steps : goal.returns-in-Send-clause-steps
returns-in-Send-clause-steps c =
    subst (λ s. IfOk c.send.result (λ told. Steps c.args.self.now s told (world_on c.send.new.self c.self-in-Send.inside.ledgers.items))) (sym c.in-Send.is)
    (turn-steps_if_room c.args.self.now _ (λ f. send_where f c.in-Send.worker (slice_get f.workers c.in-Send.worker)) c.self-in-Send.inside.floor c.send.new.self c.self-in-Send.inside.ledgers.items c.self-in-Send.view_is (λ state. refl) c.send.result c.send.ensures)

pub invariant_of-self-in-Mark : goal.invariant_of-self-in-Mark
invariant_of-self-in-Mark c = kept-turned _ c.mark_sent.new.self _ c.self-in-Mark.inside.ledgers.items c.mark_sent.result c.mark_sent.ensures c.self-in-Mark.invariant

pub returns-in-Mark-clause-steps : goal.returns-in-Mark-clause-steps
returns-in-Mark-clause-steps c =
    subst (λ s. IfOk c.mark_sent.result (λ told. Steps c.args.self.now s told (world_on c.mark_sent.new.self c.self-in-Mark.inside.ledgers.items))) (sym c.in-Mark.is)
    (turn-steps c.args.self.now _ (λ f. mark_where f c.in-Mark.worker (slice_get f.workers c.in-Mark.worker)) c.self-in-Mark.inside.floor c.mark_sent.new.self c.self-in-Mark.inside.ledgers.items c.self-in-Mark.view_is (λ state. refl) c.mark_sent.result c.mark_sent.ensures)

pub invariant_of-self-in-Lose : goal.invariant_of-self-in-Lose
invariant_of-self-in-Lose c = kept-turned _ c.lose_worker.new.self _ c.self-in-Lose.inside.ledgers.items c.lose_worker.result c.lose_worker.ensures c.self-in-Lose.invariant

pub returns-in-Lose-clause-steps : goal.returns-in-Lose-clause-steps
returns-in-Lose-clause-steps c =
    subst (λ s. IfOk c.lose_worker.result (λ told. Steps c.args.self.now s told (world_on c.lose_worker.new.self c.self-in-Lose.inside.ledgers.items))) (sym c.in-Lose.is)
    (turn-steps c.args.self.now _ (λ f. lose_where f c.in-Lose.worker (slice_get f.workers c.in-Lose.worker)) c.self-in-Lose.inside.floor c.lose_worker.new.self c.self-in-Lose.inside.ledgers.items c.self-in-Lose.view_is (λ state. refl) c.lose_worker.result c.lose_worker.ensures)
