use Rattle.std.{proofs.Common.{length, ◌-◌, ◌≡◌, ◌≤◌, take}, specs.Io.KnownBytes.{Appends}}
use Rattle.pmf_device.proofs.writing.write_text.Given as goal

abbrev pub invariant-loop-written : goal.invariant-loop-written
invariant-loop-written g l = record {
  within : l.written ≤ length l.text;
  appended : Appends (g.W.Sink.held l.initial.writer) (g.W.Sink.held l.writer) (take l.written l.text);
  counted : g.W.Device.failed_calls l.writer ≡ g.W.Device.failed_calls l.initial.writer;
}

abbrev pub decreases-loop-written : goal.decreases-loop-written
decreases-loop-written g l = length l.text - l.written
