use Rattle.std.proofs.Common.{sym, ◌∙◌, ◌-◌, arith}
use Rattle.pmf_shadow.proofs.StandingLemmas.{same-from_none, same-from_first, first-further}
use Rattle.pmf_shadow.proofs.shadow.Shadow.end_of_run.Goals as goal

pub returns-in-None-clause-same : goal.returns-in-None-clause-same
returns-in-None-clause-same c = λ b low high.
    same-from_none c.args.self.now.bytes c.args.state c.args.first (c.args.end - c.args.first) (sym c.first_where.ensures ∙ c.in-None.is) b low (omega arith)

pub returns-in-Some-clause-further : goal.returns-in-Some-clause-further
returns-in-Some-clause-further c =
    (first-further c.args.self.now.bytes c.args.state c.args.first (c.args.end - c.args.first) c.in-Some.byte c.requires.here (sym c.first_where.ensures ∙ c.in-Some.is)).0

pub returns-in-Some-clause-within : goal.returns-in-Some-clause-within
returns-in-Some-clause-within c =
    let further = first-further c.args.self.now.bytes c.args.state c.args.first (c.args.end - c.args.first) c.in-Some.byte c.requires.here (sym c.first_where.ensures ∙ c.in-Some.is) in omega (arith, further.1)

pub returns-in-Some-clause-same : goal.returns-in-Some-clause-same
returns-in-Some-clause-same c =
    same-from_first c.args.self.now.bytes c.args.state c.args.first (c.args.end - c.args.first) c.in-Some.byte (sym c.first_where.ensures ∙ c.in-Some.is)
