use Rattle.std.proofs.Common.{◌≡◌, ℕ, List, length, map, take}
use Rattle.pmf_device.specs.Pages.{IsPage}
use Rattle.pmf_query.specs.Standing.{Stands}
use Rattle.pmf_why.specs.{Telling.{HasParts, told_text}, Why.{asked_sections}}
use Rattle.pmf_why.proofs.why.tell_sections.Given as goal

abbrev pub invariant-loop-section : goal.invariant-loop-section
invariant-loop-section g l = record {
  parts : (bytes : List ℕ) → Stands bytes l.standing → HasParts l.fn.asked bytes (asked_sections l.fn.asked (map (λ s. s.value) (take l.section-index l.sections))) l.telling;
  sent : l.sent ≡ length l.telling.told.items;
  page : IsPage (g.W.Sink.held l.initial.writer) (g.W.Sink.held l.writer) (told_text l.telling.told.items) l.page;
  counted : g.W.Device.failed_calls l.writer ≡ g.W.Device.failed_calls l.initial.writer;
}
