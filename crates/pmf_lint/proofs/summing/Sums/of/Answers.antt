use Rattle.std.proofs.Common.{◌≡◌, ◌∙◌, sym, ap, subst, length, count_by}
use Rattle.pmf_event.specs.{Places.{count}, Section.{Trace}}
use Rattle.pmf_lint.{specs.Covering.{is_uncovered, uncovered_of}, specs.Leaving.{AreLeft}, specs.Marks.{Marks}, specs.Misread.{is_unmet}, specs.Summing.{asserts, is_store}, specs.Upkeep.{upkeep_of}, proofs.{EmptyLemmas.{unmet_counted}, TallySumLemmas.{sums_one}}}
use Rattle.pmf_lint.proofs.summing.Sums.of.Goals as goal

pub returns-clause-value : goal.returns-clause-value
unfolding uncovered_of
returns-clause-value c =
    let es = c.events-events.result.now in
    let value = c.events-events.ensures.value ∙ ap (λ (t : Trace). t.events) c.deref.ensures in
    let looked = c.in_ok-looked.looked in
    let same = ap (λ (t : Trace). t.events) c.in_ok-looked.ensures in
    let counted : c.count_marked.result ≡ uncovered_of looked.section.value.events = c.count_marked.ensures (is_uncovered looked.section.value.events) (length looked.section.value.events)
    (subst (Marks (is_uncovered looked.section.value.events) (length looked.section.value.events)) (sym c.deref-2.ensures.value) looked.are_uncovered) in
    sums_one c.args.section.now.value _ _ _ _ _ _ (c.len.ensures.value ∙ ap (λ fs. length fs) value) (c.from.ensures ∙ c.count_assertions.ensures ∙ ap (λ fs. count_by (λ e. asserts e) fs) value) (c.from-2.ensures ∙ c.in_ok-walk.ensures.empty ∙ ap (λ fs. count (is_unmet fs) (length fs)) value ∙ unmet_counted c.args.section.now.value)
    (c.from-3.ensures ∙ c.count_stores.ensures ∙ ap (λ fs. count_by (λ e. is_store e) fs) value)
    (c.from-4.ensures ∙ counted ∙ ap uncovered_of same) (c.upkeep_of.ensures.value es c.in_ok-walk.ensures (subst (λ fs. AreLeft fs looked.left) (same ∙ sym value) looked.are_left) ∙ ap upkeep_of value)
