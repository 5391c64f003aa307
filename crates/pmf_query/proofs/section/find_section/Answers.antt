use Rattle.std.proofs.Common.{◌≤◌, map, length, sym, subst, arith, Contains, take_all}
use Rattle.pmf_query.proofs.NumberFoundLemmas.{LacksNumber-more}
use Rattle.pmf_query.proofs.section.find_section.Goals as goal

pub loop-section-preserved : goal.loop-section-preserved
loop-section-preserved c =
    LacksNumber-more (λ section. section.value) c.args.sections.now c.args.number c.loop-section.section-index c.section-item.result c.loop-section-test.true c.section-item.is
    (λ same. c.if-name-number.false (let named = c.name.ensures in let inside = c.deref.ensures in cc))
    c.loop-section.invariant

pub returns : goal.returns
returns c = λ t found same.
    let end : length c.args.sections.now ≤ c.loop-section.section-index = omega arith in
    c.loop-section.invariant t (subst (λ sections. Contains (map (λ section. section.value) sections) t) (sym (take_all c.loop-section.section-index c.args.sections.now end)) found) same
