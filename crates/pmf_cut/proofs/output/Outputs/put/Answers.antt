use Rattle.std.proofs.Common.{[]}
use Rattle.pmf_cut.proofs.OutputLemmas.{says-event}
use Rattle.pmf_cut.proofs.output.Outputs.put.Goals as goal

pub returns : goal.returns
returns c = λ ends text event holds says. says-event ends c.args.file c.args.number [] _ _ _ c.args.bytes.now text event c.in_ok-enter.ensures c.in_ok-push.ensures holds says
