use Rattle.std.proofs.Common.{◌++◌, codes, subst, sym}
use Rattle.pmf_ledger.{specs.BlockReading.{EndsWithin}, specs.LedgerText.{version_of}, proofs.lemmas.LoneBlockLemmas.{begun, within-version}}
use Rattle.pmf_ledger.proofs.block_reader.BlockReader.behind_version.Goals as goal

pub returns : goal.returns
returns c = record {
  line = 2;
  lines = c.behind_version.ensures;
  within = subst (λ xs. EndsWithin (version_of c.args.profile ++ codes "\n") xs 2 (begun c.args.profile)) (sym c.new.ensures.items) (within-version c.args.profile);
}
