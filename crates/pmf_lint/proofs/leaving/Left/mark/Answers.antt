use Rattle.pmf_lint.proofs.LeavingLemmas.{marked_last, marked_no}
use Rattle.pmf_lint.proofs.leaving.Left.mark.Goals as goal

pub returns-in_default : goal.returns-in_default
returns-in_default c = λ es first end less all below. marked_no es first end c.args.standing less all c.args.self.now below c.in_default.is

pub returns : goal.returns
returns c = λ es first end less all below.
    marked_last es first end c.args.standing less all c.args.self.now below _ c.in-Some.last c.both-left.result c.both.result c.in-Some.is c.both-left.ensures c.both.ensures
    c.mark_if.ensures.long c.mark_if.ensures.each c.mark_if-2.ensures.long c.mark_if-2.ensures.each
