use Rattle.std.{proofs.Common.{arith}}
use Rattle.pmf_storelog.proofs.QuickLemmas.{begins_with_digits}
use Rattle.pmf_storelog.proofs.quick.read_digits_up_to.Goals as goal

pub returns : goal.returns
returns c =
    let loop = c.loop-count.invariant in
    begins_with_digits c.args.text.now c.loop-count.value c.loop-count.count (omega arith) (omega arith) (omega arith) (omega arith) loop.digits loop.value_is
