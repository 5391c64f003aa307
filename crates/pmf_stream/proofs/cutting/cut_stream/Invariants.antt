use Rattle.std.proofs.Common.{◌≡◌, ◌≤◌, ◌-◌, length}
use Rattle.pmf_stream.specs.Files.{CutsSoFar}
use Rattle.pmf_stream.proofs.cutting.cut_stream.Given as goal

abbrev pub invariant-loop-total : goal.invariant-loop-total
invariant-loop-total g l = record {
  room : length l.piece ≡ 65536;
  within : l.total ≤ l.limit;
  so_far : CutsSoFar l.fn.lengths.step (g.R.Source.left l.initial.reader) (g.R.Source.left l.reader) (g.W.Outlet.held_in l.initial.writer) (g.W.Outlet.held_in l.writer) l.cutter;
  reads : g.R.Device.failed_calls l.reader ≡ g.R.Device.failed_calls l.initial.reader;
  writes : g.W.Device.failed_calls l.writer ≡ g.W.Device.failed_calls l.initial.writer;
}

abbrev pub decreases-loop-total : goal.decreases-loop-total
decreases-loop-total g l = l.limit - l.total
