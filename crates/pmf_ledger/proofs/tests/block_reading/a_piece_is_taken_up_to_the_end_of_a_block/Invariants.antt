use Rattle.std.proofs.Common.{ℕ, List}
use Rattle.pmf_ledger.specs.{BlockReading.{HasTaken}, Loading.{Reading}}
use Rattle.pmf_ledger.proofs.tests.block_reading.a_piece_is_taken_up_to_the_end_of_a_block.Given as goal

abbrev pub invariant-loop-taken : goal.invariant-loop-taken
invariant-loop-taken g l = (text : List ℕ) × (r : Reading) × HasTaken text r l.reader
