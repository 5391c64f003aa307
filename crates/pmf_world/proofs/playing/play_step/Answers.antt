use Rattle.std.specs.String.{string_bytes}
use Rattle.pmf_world.proofs.lemmas.PlayingLemmas.{on-ok, played-ok, played-err}
use Rattle.pmf_world.proofs.playing.play_step.Goals as goal

pub returns-in-Ok : goal.returns-in-Ok
returns-in-Ok c =
    on-ok c.push_step.result
    (played-ok c.args.world.now c.step.new.self (string_bytes c.args.text.now) (string_bytes c.push_step.new.text) c.args.number c.args.step c.in-Ok.answer c.in-Ok.ensures.steps)
    c.push_step.ensures

pub returns-in_default : goal.returns-in_default
returns-in_default c =
    on-ok c.push_step-in_default.result
    (played-err c.args.world.now c.step.new.self (string_bytes c.args.text.now) (string_bytes c.push_step-in_default.new.text) c.args.number c.args.step
    c.in-Err.fault c.in_default.not-OutOfMemory c.in-Err.ensures.refuses c.in-Err.ensures.unchanged)
    c.push_step-in_default.ensures
