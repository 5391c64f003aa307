use Rattle.std.proofs.Common.{length}
use Rattle.pmf_stream.proofs.joining.+join_halves.Given as goal

abbrev pub decreases-join_halves : goal.decreases-join_halves
decreases-join_halves l = length l.texts.now
