use Rattle.std.proofs.{Common.{ap, ◌∙◌, arith}, lemmas.Grind.{common_steps}}
use Rattle.pmf_world.proofs.{lemmas.LedgersLemmas.{ledger-more, ledger-none, ledgers-start}, playing.push_ledgers.Goals.{in-Some+in_ok-push_ledger, in_default}}
use Rattle.pmf_world.proofs.playing.push_ledgers.Goals as goal

pub loop-number-init : goal.loop-number-init
loop-number-init c = ledgers-start c.args.text.now.items c.args.world.now.ledgers

pub loop-number-preserved : goal.loop-number-preserved
loop-number-preserved c =
    let front = c.args.text.now.items in
    let ledgers = c.args.world.now.ledgers in
    elim c.match-ledger.branch [
      | in-Some+in_ok-push_ledger w ↦
          ledger-more front c.loop-number.text.items c.match-ledger.text.items c.loop-number.number ledgers c.loop-number.invariant
          w.in-Some.ledger.now w.in-Some.ensures (ap (λ t. t.items) w.text-is ∙ w.in_ok-push_ledger.ensures)
      | in_default w ↦ grind (arith, common_steps, in_default, ledger-none)
    ]
