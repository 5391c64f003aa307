use Rattle.std.proofs.Common.{[], sym, subst}
use Rattle.pmf_ledger.{specs.BlockReading.{EndsWithin}, specs.Loading.{unread}, proofs.lemmas.TextFrontLemmas.{within-start}}
use Rattle.pmf_ledger.proofs.block_reader.BlockReader.new.Goals as goal

pub returns : goal.returns
returns c = record { line = 1; lines = c.new.ensures; within = subst (λ xs. EndsWithin [] xs 1 unread) (sym c.new-2.ensures.items) within-start }
