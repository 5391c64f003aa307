use Rattle.std.specs.Option.{option_map}
use Rattle.std.proofs.{Common.{◌≡◌, ◌++◌, ◌∷◌, ◌+◌, ◌-◌, [], flat_map, length, ◌∙◌, refl, sym, ap, subst, map, take, drop, arith, take-append-drop}, lemmas.List.{map-append, map_more}}
use Rattle.pmf_device.{specs.Pages.{IsPage, StopsIn}, specs.declared.page.Stop.TheVariants.{OutOfMemory}, proofs.PageLemmas.{stops_here, stops_on, stops_so}}
use Rattle.pmf_query.{specs.AllExplained.{failures, first_of, text_of_failed}, proofs.FirstLemmas.{goes_on, left_none, left_of, left_one, text_first, text_none, text_one}}
use Rattle.pmf_query.proofs.explaining.write_sections.Goals as goal

pub loop-section-init : goal.loop-section-init
loop-section-init g c =
    let held = g.W.Sink.held c.args.writer.now in
    let profile = c.args.asked.profile in
    let first = c.args.asked.first in record {
      left = left_none profile first;
      page = subst (λ front. IsPage held held front c.new-page.result) (sym (text_none profile first)) (c.new-page.ensures held);
      counted = refl;
    }

pub returns-in_err-text-clause-text : goal.returns-in_err-text-clause-text
returns-in_err-text-clause-text g c =
    let profile = c.args.asked.profile in
    let first = c.args.asked.first in
    let sections = c.args.sections.now in
    let i = c.loop-section.section-index in
    let met = map (λ s. s.value) (take i sections) in
    let more = map (λ s. s.value) (drop i sections) in
    let all = map (λ s. s.value) sections in
    let parted : all ≡ met ++ more = ap (map (λ s. s.value)) (sym (take-append-drop i sections)) ∙ map-append (λ s. s.value) (take i sections) (drop i sections) in
    let on = goes_on profile first met more all parted (text_first profile first met) refl in
    stops_so _ (StopsIn (λ text. text ≡ text_first profile first all) _ _) c.from_residual.result OutOfMemory c.from_residual.ensures
    (stops_here (λ text. text ≡ text_first profile first all) _ _ (text_first profile first met) on.0 c.loop-section.page c.loop-section.invariant.page on.1)

pub returns-in_err-put-clause-text : goal.returns-in_err-put-clause-text
returns-in_err-put-clause-text g c =
    let profile = c.args.asked.profile in
    let first = c.args.asked.first in
    let sections = c.args.sections.now in
    let i = c.loop-section.section-index in
    let t = c.section-item.result.value in
    let met = map (λ s. s.value) (take i sections) in
    let more = map (λ s. s.value) (drop (i + 1) sections) in
    let all = map (λ s. s.value) sections in
    let one = map_more (λ s. s.value) sections i c.section-item.result c.loop-section-test.true ∙ ap (λ s. met ++ s.value ∷ []) (sym c.section-item.is) in
    let parted = ap (map (λ s. s.value)) (sym (take-append-drop (i + 1) sections)) ∙ map-append (λ s. s.value) (take (i + 1) sections) (drop (i + 1) sections) ∙ ap (λ front. front ++ more) one in
    let part = c.as_bytes.result.now in
    let part_is = c.as_bytes.ensures.value ∙ c.in_ok-text.ensures.text ∙ ap (λ l. flat_map text_of_failed (first_of l (failures profile t))) c.loop-section.invariant.left in
    let front = text_first profile first met in
    let tells = ap (λ p. front ++ p) part_is ∙ sym (text_one profile first met t) in
    stops_so _ (StopsIn (λ text. text ≡ text_first profile first all) _ _) c.from_residual-in_err-put.result c.in_err-put.field-0.0 c.from_residual-in_err-put.ensures
    (stops_on (λ text. text ≡ front ++ part) (λ text. text ≡ text_first profile first all) _ _ c.in_err-put.field-0.0
    (λ text is. goes_on profile first (met ++ t ∷ []) more all parted text (is ∙ tells))
    (c.in_err-put.ensures.put _ front c.loop-section.invariant.page))

pub loop-section-preserved : goal.loop-section-preserved
loop-section-preserved g c =
    let held = g.W.Sink.held c.args.writer.now in
    let profile = c.args.asked.profile in
    let first = c.args.asked.first in
    let sections = c.args.sections.now in
    let i = c.loop-section.section-index in
    let t = c.section-item.result.value in
    let met = map (λ s. s.value) (take i sections) in
    let one = map_more (λ s. s.value) sections i c.section-item.result c.loop-section-test.true ∙ ap (λ s. met ++ s.value ∷ []) (sym c.section-item.is) in
    let part_is = c.as_bytes.ensures.value ∙ c.in_ok-text.ensures.text ∙ ap (λ l. flat_map text_of_failed (first_of l (failures profile t))) c.loop-section.invariant.left in
    let front = text_first profile first met in
    let tells = ap (λ p. front ++ p) part_is ∙ sym (text_one profile first met t) ∙ ap (text_first profile first) (sym one) in record {
      left = c.in_ok-text.ensures.left ∙ ap (option_map (λ k. k - length (failures profile t))) c.loop-section.invariant.left ∙ left_one profile first met t ∙ ap (left_of profile first) (sym one);
      page = subst (λ text. IsPage held (g.W.Sink.held c.put.new.writer) text c.put.new.self) tells (c.in_ok-put.ensures.put held front c.loop-section.invariant.page);
      counted = omega (arith, c.in_ok-put.ensures.counted, c.loop-section.invariant.counted);
    }
