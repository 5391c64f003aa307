use Rattle.std.proofs.Common.{ℕ, ◌<◌, get_or}
use Rattle.pmf_ledger.specs.{LedgerValue.{LedgerValue}, Places.{LacksName}}
use Rattle.pmf_ledger.proofs.pile.standing_in.Given as goal

abbrev pub invariant-loop-i : goal.invariant-loop-i
invariant-loop-i l = record {
  absent : (k : ℕ) (d : LedgerValue) → k < l.i → LacksName (get_or l.ledgers k d).sections l.section.name;
}
