use Rattle.std.proofs.Common.{◌≡◌, ◌++◌, ℕ, List, Option, take}
use Rattle.pmf_device.specs.Pages.{IsPage}
use Rattle.pmf_why.specs.Telling.{told_text}
use Rattle.pmf_why.proofs.why.write_told.Given as goal

abbrev pub invariant-loop-one : goal.invariant-loop-one
invariant-loop-one g l = record {
  put : (held : Option (List ℕ)) (front : List ℕ) → IsPage held (g.W.Sink.held l.initial.writer) front l.initial.page →
      IsPage held (g.W.Sink.held l.writer) (front ++ told_text (take l.one-index l.told)) l.page;
  counted : g.W.Device.failed_calls l.writer ≡ g.W.Device.failed_calls l.initial.writer;
}
