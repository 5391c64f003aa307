use Rattle.std.proofs.Common.{◌≡◌, take}
use Rattle.pmf_cut.specs.Outputs.{bytes_for}
use Rattle.pmf_stream.specs.Files.{AppendsEach}
use Rattle.pmf_stream.proofs.cutting.write_out.Given as goal

abbrev pub invariant-loop-text : goal.invariant-loop-text
invariant-loop-text g l = record {
  written : AppendsEach (g.W.Outlet.held_in l.initial.writer) (g.W.Outlet.held_in l.writer) (bytes_for (take l.text-index l.text-items));
  writes : g.W.Device.failed_calls l.writer ≡ g.W.Device.failed_calls l.initial.writer;
}
