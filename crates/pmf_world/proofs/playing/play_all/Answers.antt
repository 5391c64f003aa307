use Rattle.std.proofs.Common.{[], sym, subst, string_bytes}
use Rattle.pmf_world.{specs.Playing.{PlaysAll}, proofs.lemmas.PlayingLemmas.{PlaysAll-start, PlaysAll-at}}
use Rattle.pmf_world.proofs.playing.play_all.Goals as goal

pub loop-index-init : goal.loop-index-init
loop-index-init c = subst (PlaysAll c.args.world.now [] c.args.world.now) (sym c.new-text.ensures.bytes) (PlaysAll-start c.args.world.now)

pub loop-index-preserved : goal.loop-index-preserved
loop-index-preserved c =
    PlaysAll-at c.args.world.now c.loop-index.world c.play_step.new.world c.args.steps.now c.loop-index.index _
    (string_bytes c.loop-index.text) (string_bytes c.play_step.new.text) c.loop-index-test.true c.loop-index.invariant c.in_ok-play_step.ensures
