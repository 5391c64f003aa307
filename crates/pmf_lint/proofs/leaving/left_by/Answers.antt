use Rattle.std.proofs.Common.{◌∙◌, Some, sym, ap}
use Rattle.pmf_lint.proofs.LeavingLemmas.{none_there, some_place, stored_is}
use Rattle.pmf_lint.proofs.leaving.left_by.Goals as goal

pub returns-in-Some : goal.returns-in-Some
returns-in-Some c = λ es stands here. c.left_in.ensures es stands (here ∙ ap (λ e. Some e) (stored_is c.args.event.now c.in-Some.span (sym c.stored.ensures ∙ c.in-Some.is)))

pub returns-in-None : goal.returns-in-None
returns-in-None c = λ es stands here. none_there es c.args.place c.args.event.now 9223372036854775808 (some_place es c.args.place _ here) here (sym c.stored.ensures ∙ c.in-None.is)
