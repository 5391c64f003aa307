use Rattle.std.proofs.Common.{◌≡◌, ◌≤◌, ◌++◌, ◌-◌, ℕ, List, length, take}
use Rattle.pmf_ledger.specs.{BlockReading.{HasTaken}, Loading.{Reading}}
use Rattle.pmf_ledger.proofs.block_reader.BlockReader.feed.Given as goal

abbrev pub invariant-loop-length : goal.invariant-loop-length
invariant-loop-length l = record {
  within : l.taken ≤ length l.piece;
  taken : (text : List ℕ) (r : Reading) → HasTaken text r l.initial.self → (e : Reading) × HasTaken (text ++ take l.taken l.piece) e l.self × (e.blocks ≡ r.blocks);
}

abbrev pub decreases-loop-length : goal.decreases-loop-length
decreases-loop-length l = length l.piece - l.taken
