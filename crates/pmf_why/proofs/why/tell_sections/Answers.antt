use Rattle.std.proofs.Common.{◌++◌, ◌+◌, ◌∙◌, refl, sym, ap, subst, length, map, take, drop, take_all, arith}
use Rattle.pmf_device.{specs.Pages.{IsPage, StopsIn}, specs.declared.page.Stop.TheVariants.{OutOfMemory}, proofs.PageLemmas.{ends_so, stops_here, stops_on, stops_so}}
use Rattle.pmf_why.{specs.Telling.{HasParts, told_text}, specs.Why.{TellsAll, asked_sections}, proofs.GoingOnLemmas.{goes_on}, proofs.GrowLemmas.{text_since, told_since}, proofs.PartsLemmas.{tells_all}, proofs.SectionLemmas.{met_more, met_parts}}
use Rattle.pmf_why.proofs.why.tell_sections.Goals as goal

pub loop-section-init : goal.loop-section-init
unfolding told_text
loop-section-init g c =
    let held = g.W.Sink.held c.args.writer.now in record {
      parts = λ bytes stands. c.new-telling.ensures.parts bytes;
      sent = ap length (sym c.new-telling.ensures.none);
      page = subst (λ ts. IsPage held held (told_text ts) c.new-page.result) (sym c.new-telling.ensures.none) (c.new-page.ensures held);
      counted = refl;
    }

pub returns-in_err-meet-clause-text : goal.returns-in_err-meet-clause-text
returns-in_err-meet-clause-text g c = λ bytes stands.
    let sections = c.args.sections.now in
    let i = c.loop-section.section-index in
    let all = map (λ s. s.value) sections in
    let IsText = TellsAll c.args.asked bytes (asked_sections c.args.asked all) in
    let held = g.W.Sink.held c.args.writer.now in
    let t = c.loop-section.telling in
    let on = goes_on c.args.asked bytes c.args.standing.now stands (map (λ s. s.value) (take i sections)) (map (λ s. s.value) (drop i sections)) all t (met_parts (λ s. s.value) sections i) (c.loop-section.invariant.parts bytes stands) in
    stops_so _ (StopsIn IsText held (g.W.Sink.held c.loop-section.writer)) c.from_residual.result OutOfMemory c.from_residual.ensures
    (stops_here IsText held (g.W.Sink.held c.loop-section.writer) (told_text t.told.items) on.0 c.loop-section.page c.loop-section.invariant.page on.1)

pub returns-in_err-write_told-clause-text : goal.returns-in_err-write_told-clause-text
returns-in_err-write_told-clause-text g c = λ bytes stands.
    let sections = c.args.sections.now in
    let i = c.loop-section.section-index in
    let all = map (λ s. s.value) sections in
    let IsText = TellsAll c.args.asked bytes (asked_sections c.args.asked all) in
    let held = g.W.Sink.held c.args.writer.now in
    let holds = g.W.Sink.held c.write_told.new.writer in
    let old = c.loop-section.telling in
    let new = c.meet.new.self in
    let grows = c.in_ok-meet.ensures.grows in
    let since = told_since old.told.items new.told.items c.deref.result.now c.loop-section.sent grows c.loop-section.invariant.sent c.deref.ensures.value in
    let whole = ap (λ ts. told_text old.told.items ++ told_text ts) since ∙ sym (text_since old.told.items new.told.items grows) in
    let met = met_more (λ s. s.value) sections i c.section-item.result c.loop-section-test.true c.section-item.is in
    let has = subst (λ ts. HasParts c.args.asked bytes (asked_sections c.args.asked ts) new) (sym met)
    (c.in_ok-meet.ensures.parts c.args.asked bytes _ stands (c.loop-section.invariant.parts bytes stands)) in
    let on = goes_on c.args.asked bytes c.args.standing.now stands (map (λ s. s.value) (take (i + 1) sections)) (map (λ s. s.value) (drop (i + 1) sections)) all new (met_parts (λ s. s.value) sections (i + 1)) has in
    stops_so _ (StopsIn IsText held holds) c.from_residual-in_err-write_told.result c.in_err-write_told.field-0.0 c.from_residual-in_err-write_told.ensures
    (stops_on _ IsText held holds c.in_err-write_told.field-0.0
    (λ text tells. (on.0, subst IsText (ap (λ bs. bs ++ on.0) (sym (tells ∙ whole))) on.1))
    (c.in_err-write_told.ensures.put held (told_text old.told.items) c.loop-section.invariant.page))

pub loop-section-preserved : goal.loop-section-preserved
loop-section-preserved g c =
    let sections = c.args.sections.now in
    let i = c.loop-section.section-index in
    let held = g.W.Sink.held c.args.writer.now in
    let old = c.loop-section.telling in
    let new = c.meet.new.self in
    let grows = c.in_ok-meet.ensures.grows in
    let since = told_since old.told.items new.told.items c.deref.result.now c.loop-section.sent grows c.loop-section.invariant.sent c.deref.ensures.value in
    let whole = ap (λ ts. told_text old.told.items ++ told_text ts) since ∙ sym (text_since old.told.items new.told.items grows) in
    let met = met_more (λ s. s.value) sections i c.section-item.result c.loop-section-test.true c.section-item.is in record {
      parts = λ bytes stands. subst (λ ts. HasParts c.args.asked bytes (asked_sections c.args.asked ts) new) (sym met)
          (c.in_ok-meet.ensures.parts c.args.asked bytes _ stands (c.loop-section.invariant.parts bytes stands));
      sent = c.len-sent.ensures ∙ new.told.ok.0;
      page = subst (λ text. IsPage held (g.W.Sink.held c.write_told.new.writer) text c.write_told.new.page) whole
          (c.in_ok-write_told.ensures.put held (told_text old.told.items) c.loop-section.invariant.page);
      counted = omega (arith, c.in_ok-write_told.ensures.counted, c.loop-section.invariant.counted);
    }

pub returns-in_err-end-clause-text : goal.returns-in_err-end-clause-text
returns-in_err-end-clause-text g c = λ bytes stands.
    let sections = c.args.sections.now in
    let i = c.loop-section.section-index in
    let all = map (λ s. s.value) sections in
    let IsText = TellsAll c.args.asked bytes (asked_sections c.args.asked all) in
    let held = g.W.Sink.held c.args.writer.now in
    let holds = g.W.Sink.held c.loop-section.writer in
    let t = c.loop-section.telling in
    let on = goes_on c.args.asked bytes c.args.standing.now stands (map (λ s. s.value) (take i sections)) (map (λ s. s.value) (drop i sections)) all t (met_parts (λ s. s.value) sections i) (c.loop-section.invariant.parts bytes stands) in
    stops_so _ (StopsIn IsText held holds) c.from_residual-in_err-end.result OutOfMemory c.from_residual-in_err-end.ensures
    (stops_here IsText held holds (told_text t.told.items) on.0 c.loop-section.page c.loop-section.invariant.page on.1)

pub returns-clause-text : goal.returns-clause-text
returns-clause-text g c = λ bytes stands.
    let sections = c.args.sections.now in
    let all = map (λ s. s.value) sections in
    let IsText = TellsAll c.args.asked bytes (asked_sections c.args.asked all) in
    let held = g.W.Sink.held c.args.writer.now in
    let holds = g.W.Sink.held c.put.new.writer in
    let t = c.loop-section.telling in
    let front = told_text t.told.items in
    let end = take_all c.loop-section.section-index sections (omega (arith, c.loop-section-test.false)) in
    let has = subst (λ ss. HasParts c.args.asked bytes (asked_sections c.args.asked (map (λ s. s.value) ss)) t) end (c.loop-section.invariant.parts bytes stands) in
    let part = c.as_bytes.ensures.value ∙ c.in_ok-end.ensures in
    ends_so IsText held holds (front ++ c.as_bytes.result.now) c.put.new.self c.put.result
    (tells_all c.args.asked bytes (asked_sections c.args.asked all) t has (front ++ c.as_bytes.result.now) (ap (λ bs. front ++ bs) part))
    (c.put.ensures.put held front c.loop-section.invariant.page)
