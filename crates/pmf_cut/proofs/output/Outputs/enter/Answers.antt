use Rattle.std.proofs.Common.{true}
use Rattle.pmf_cut.proofs.OutputLemmas.{puts-marker}
use Rattle.pmf_cut.proofs.output.Outputs.enter.Goals as goal

pub returns : goal.returns
returns c = let is = c.in_ok-bytes.ensures in puts-marker true _ _ c.args.file c.args.number _ is.text c.in_ok-push.ensures (rw c.deref.ensures.value is.holds) is.says
