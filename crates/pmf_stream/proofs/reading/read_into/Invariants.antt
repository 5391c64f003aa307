use Rattle.std.proofs.Common.{◌≡◌, ◌+◌, ◌-◌, length}
use Rattle.pmf_stream.proofs.lemmas.ReadAllLemmas.{Reading}
use Rattle.pmf_stream.proofs.reading.read_into.Given as goal

abbrev pub invariant-loop-total : goal.invariant-loop-total
invariant-loop-total g l = record {
  taken : Reading g.I.Intake.Takes l.limit (g.R.Source.left l.initial.reader) (g.R.Source.left l.reader) l.initial.intake l.intake l.total;
  counted : g.R.Device.failed_calls l.reader ≡ g.R.Device.failed_calls l.initial.reader;
  room : length l.buffer ≡ length l.initial.buffer;
}

abbrev pub decreases-loop-total : goal.decreases-loop-total
decreases-loop-total g l = l.limit + 1 - l.total
