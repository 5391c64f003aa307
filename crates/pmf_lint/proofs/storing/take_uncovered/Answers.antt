use Rattle.std.proofs.Common.{length, sym, ap, subst, arith}
use Rattle.pmf_lint.{specs.Counting.{Lists}, specs.Covering.{is_uncovered}, specs.Marks.{Marks}, specs.StoreNames.{is_asked}, proofs.StoreNameLemmas.{asked_marks, not_asked}}
use Rattle.pmf_lint.proofs.storing.take_uncovered.Goals as goal

pub returns-then-not-asked : goal.returns-then-not-asked
returns-then-not-asked c = λ names lists.
    let es = c.args.looked.now.section.value.events in
    subst (Lists c.args.listing.now) (not_asked c.args.asked es c.args.located.now (length es) names c.if-not-asked.true) lists

pub take_marked-requires : goal.take_marked-requires
take_marked-requires c = (c.requires.0, c.requires.1, omega (arith, c.requires.2, ap (λ bs. length bs) c.deref.ensures.value, c.args.looked.now.are_uncovered.long))

pub returns : goal.returns
returns c = λ names lists.
    let es = c.args.looked.now.section.value.events in
    c.in_ok-take_marked.ensures names (is_asked c.args.asked es) (length es) lists
    (asked_marks c.args.asked es (length es) c.deref.result.now c.if-not-asked.false
    (subst (Marks (is_uncovered es) (length es)) (sym c.deref.ensures.value) c.args.looked.now.are_uncovered))
