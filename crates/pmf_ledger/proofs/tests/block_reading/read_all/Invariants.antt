use Rattle.std.proofs.Common.{ℕ, List}
use Rattle.pmf_ledger.specs.{BlockReading.{HasTaken}, Loading.{Reading}}
use Rattle.pmf_ledger.proofs.tests.block_reading.read_all.Given as goal

abbrev pub invariant-loop-turn : goal.invariant-loop-turn
invariant-loop-turn l = (text : List ℕ) × (r : Reading) × HasTaken text r l.reader
