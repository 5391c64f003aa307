use Rattle.std.proofs.Common.{◌∙◌, ◌==◌, ◌||◌, not, ap, count_by}
use Rattle.pmf_event.specs.Section.{Trace}
use Rattle.pmf_lint.{specs.Due.{fills}, specs.Summing.{asserts}, proofs.DueLemmas.{any_more, filled_more}}
use Rattle.pmf_lint.proofs.due.look_for_assertions.Goals as goal

pub loop-section-preserved : goal.loop-section-preserved
loop-section-preserved c =
    let value = c.events-events.ensures.value ∙ ap (λ (t : Trace). t.events) c.deref.ensures in record {
      asserted = any_more (λ s. s.value) c.args.sections.now c.loop-section.section-index c.section-item.result c.loop-section-test.true c.section-item.is c.loop-section.asserted c.asserts_any.result _ c.loop-section.invariant.asserted
          (c.asserts_any.ensures ∙ ap (λ es. not (count_by (λ e. asserts e) es == 0)) value) c.either-asserted.ensures;
      filled = filled_more (λ s. s.value) c.args.sections.now c.loop-section.section-index c.section-item.result c.loop-section-test.true c.section-item.is c.loop-section.filled _ c.loop-section.invariant.filled
          (c.in_ok-filled.ensures ∙ ap (λ es. c.loop-section.filled || fills es) value);
    }
