use Rattle.std.proofs.Common.{sym, subst, Contains}
use Rattle.pmf_query.proofs.section.section_with.Goals as goal

pub returns-in_default : goal.returns-in_default
returns-in_default c = λ t has. c.in_default.ensures t (subst (λ sections. Contains sections t) (sym c.sections.ensures) has.0) has.1
