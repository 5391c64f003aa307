use Rattle.std.proofs.{Common.{arith, subst}, lemmas.Grind.{common_steps}, lemmas.List.Elements.{All-more}}
use Rattle.pmf_ledger.specs.LedgerText.{IsSpelled}
use Rattle.pmf_ledger.proofs.writing.push_blocks.Goals as goal

pub loop-verdict-preserved : goal.loop-verdict-preserved
loop-verdict-preserved c = record {
  text = grind (arith, common_steps);
  spelled = All-more IsSpelled c.args.verdicts.now c.loop-verdict.verdict-index c.verdict-item.result c.loop-verdict-test.true c.loop-verdict.invariant.spelled (subst IsSpelled c.verdict-item.is c.in_ok-push_block.ensures.spelled);
}
