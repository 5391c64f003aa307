use Rattle.std.proofs.{Common.{◌≡◌, ◌≤◌, true, false, length, sym, ap, subst, ◌∙◌, arith}, lemmas.List.{take_all}}
use Rattle.std.specs.List.{list_any}
use Rattle.pmf_event.specs.{declared.name.Name.{Name}, Section.{Trace}}
use Rattle.pmf_query.specs.Locating.{AreLocations}
use Rattle.pmf_lint.{specs.Misread.{misread_among}, proofs.MisreadLemmas.{all_sections, found_here, is_of_misread, none_here}}
use Rattle.pmf_lint.proofs.misread.has_misread.Goals as goal

pub returns-then-branch : goal.returns-then-branch
returns-then-branch c =
    let x = c.section-item.result in
    let located = c.in_section-located.result.now in
    let number = ap (λ (n : Name). n.number) (c.name.ensures ∙ ap (λ (t : Trace). t.name) c.deref.ensures) in
    let stands = subst (λ n. AreLocations c.args.log.now n located) number (c.in_section-located.ensures c.args.log.now c.in_ok-standing.ensures) in
    let same = c.events.ensures.value ∙ ap (λ (t : Trace). t.events) c.deref-in-loop-section.ensures in
    let any = subst (λ es. misread_among es located (length es) ≡ true) same (sym c.in_ok-is_any_misread.ensures ∙ c.if-branch.true) in
    found_here (λ s. s.value) c.requires.sections.0 c.args.log.now c.args.sections.now c.requires.sections.1 c.loop-section.section-index x located (omega (arith, c.loop-section-test.true)) c.section-item.is stands any

pub loop-section-preserved : goal.loop-section-preserved
loop-section-preserved c =
    let x = c.section-item.result in
    let located = c.in_section-located.result.now in
    let number = ap (λ (n : Name). n.number) (c.name.ensures ∙ ap (λ (t : Trace). t.name) c.deref.ensures) in
    let stands = subst (λ n. AreLocations c.args.log.now n located) number (c.in_section-located.ensures c.args.log.now c.in_ok-standing.ensures) in
    let same = c.events.ensures.value ∙ ap (λ (t : Trace). t.events) c.deref-in-loop-section.ensures in
    let none = subst (λ es. misread_among es located (length es) ≡ false) same (sym c.in_ok-is_any_misread.ensures ∙ c.if-branch.false) in
    none_here (λ s. s.value) c.requires.sections.0 c.args.log.now c.args.sections.now c.requires.sections.1 c.loop-section.section-index x located (omega (arith, c.loop-section-test.true)) c.section-item.is stands none c.loop-section.invariant

pub returns : goal.returns
returns c =
    let all : length c.args.sections.now ≤ c.loop-section.section-index = omega arith in
    sym c.loop-section.invariant ∙ ap (list_any (is_of_misread (λ s. s.value) c.args.log.now)) (take_all c.loop-section.section-index c.args.sections.now all)
    ∙ all_sections (λ s. s.value) c.requires.sections.0 c.args.log.now c.args.sections.now c.requires.sections.1
