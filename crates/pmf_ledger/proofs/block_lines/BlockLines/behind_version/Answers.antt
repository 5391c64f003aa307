use Rattle.std.proofs.Common.{refl, arith, Some}
use Rattle.pmf_ledger.{specs.BlockReading.{without_blocks}, specs.Loading.{after_version, unread}}
use Rattle.pmf_ledger.proofs.block_lines.BlockLines.behind_version.Goals as goal

pub returns : goal.returns
returns c = record {
  stands = (c.by.ensures (without_blocks (after_version unread 1 (Some c.args.profile))) refl refl, refl);
  line_is = refl;
  count = refl;
  few = omega arith;
  rises = λ i j d less inside. absurd (omega (arith, less, inside));
  last = refl;
}
