use Rattle.std.proofs.Common.{◌≡◌, ◌++◌, take}
use Rattle.pmf_world.specs.Lines.{text_of_ledgers}
use Rattle.pmf_world.proofs.playing.push_ledgers.Given as goal

abbrev pub invariant-loop-number : goal.invariant-loop-number
invariant-loop-number l = l.text.items ≡ l.fn.text.items ++ text_of_ledgers 0 (take l.number l.world.ledgers)
