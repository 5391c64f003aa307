use Rattle.std.proofs.Common.{sym}
use Rattle.pmf_cut.proofs.{CuttingLemmas.{quiet-said, silent}, OutputLemmas.{puts-nothing}}
use Rattle.pmf_cut.proofs.cutter.Cutter.pass.Goals as goal

pub returns : goal.returns
returns c = λ ends step records handed more cuts holds says. record {
  step_is = cuts.step_is;
  has = silent step records handed _ _ _ _ _ cuts.has ends _ more says
      (quiet-said ends handed c.newest-newest.result c.current-current.result _ _ (puts-nothing ends _ _ _ _ c.args.bytes.now more (sym c.current-current.ensures) c.in_ok-push.ensures holds says handed c.newest-newest.ensures cuts.has.opened));
}
