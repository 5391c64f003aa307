use Rattle.std.proofs.{Common.{◌∙◌, ◌+◌, ◌*◌, ◌^◌, ◌++◌, ◌∷◌, [], List, map, take, sym, ap, subst}, lemmas.List.{map-append}}
use Rattle.pmf_event.specs.Section.{Trace}
use Rattle.pmf_lint.{specs.declared.looking.Looked.{Looked}, specs.Summing.{IsWithin, both}, proofs.{StoreNameLemmas.{sections_more}, TallySumLemmas.{none_within, sums_more, within_both}}}
use Rattle.pmf_lint.proofs.summing.look_through.Goals as goal

pub loop-section-init : goal.loop-section-init
loop-section-init c = record {
  are = c.none-sums.ensures;
  small = subst (IsWithin 0) (sym c.none-sums.ensures) none_within;
  looked = ap (λ (ls : List Looked). map (λ (k : Looked). k.section.value) ls) c.new-all.ensures.items;
}

pub loop-section-preserved : goal.loop-section-preserved
loop-section-preserved c =
    let of_looked = λ (k : Looked). k.section.value in
    let found = c.in_ok-more in record {
      are = c.add.ensures ∙ ap (λ s. both s found.more) c.loop-section.invariant.are ∙ ap (both _) c.in_ok-more.ensures.value
          ∙ sym (sums_more (λ s. s.value) c.args.sections.now c.loop-section.section-index c.section-item.result c.loop-section-test.true c.section-item.is);
      small = subst (IsWithin ((c.loop-section.section-index + 1) * 2 ^ 64)) (sym c.add.ensures)
          (within_both c.loop-section.section-index c.loop-section.sums found.more c.loop-section.invariant.small c.in_ok-more.ensures.small);
      looked = ap (λ (ls : List Looked). map of_looked ls) c.in_ok-push.ensures.items ∙ map-append of_looked c.loop-section.all.items (found.looked ∷ [])
          ∙ ap (λ (ts : List Trace). ts ++ found.looked.section.value ∷ []) c.loop-section.invariant.looked ∙ ap (λ (t : Trace). map (λ s. s.value) (take c.loop-section.section-index c.args.sections.now) ++ t ∷ []) c.in_ok-more.ensures.looked
          ∙ sym (sections_more (λ s. s.value) c.args.sections.now c.loop-section.section-index c.section-item.result c.loop-section-test.true c.section-item.is);
    }
