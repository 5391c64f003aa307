use Rattle.std.proofs.Common.{◌≡◌, map, take}
use Rattle.pmf_device.specs.Pages.{IsPage}
use Rattle.pmf_query.proofs.FirstLemmas.{left_of, text_first}
use Rattle.pmf_query.proofs.explaining.write_sections.Given as goal

abbrev pub invariant-loop-section : goal.invariant-loop-section
invariant-loop-section g l =
    let met = map (λ s. s.value) (take l.section-index l.sections) in record {
      left : l.left ≡ left_of l.asked.profile l.asked.first met;
      page : IsPage (g.W.Sink.held l.initial.writer) (g.W.Sink.held l.writer) (text_first l.asked.profile l.asked.first met) l.page;
      counted : g.W.Device.failed_calls l.writer ≡ g.W.Device.failed_calls l.initial.writer;
    }
