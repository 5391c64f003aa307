use Rattle.std.proofs.Common.{◌-◌, ◌<◌, ◌≤◌}
use Rattle.pmf_ledger.proofs.lemmas.PlaceLemmas.{Window}
use Rattle.pmf_ledger.proofs.ledger.Ledger.place_of.Given as goal

abbrev pub invariant-loop-low : goal.invariant-loop-low
invariant-loop-low l = record { window : Window l.self.sections l.name l.low l.high; reach : l.low ≤ l.middle; inside : l.low < l.high → l.middle < l.high }

abbrev pub decreases-loop-low : goal.decreases-loop-low
decreases-loop-low l = l.high - l.low
