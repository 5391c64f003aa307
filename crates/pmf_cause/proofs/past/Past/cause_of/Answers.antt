use Rattle.std.proofs.Common.{sym, ◌∙◌}
use Rattle.pmf_cause.proofs.JudgingLemmas.{no_cause}
use Rattle.pmf_cause.proofs.past.Past.cause_of.Goals as goal

pub returns-then-not-asks_why-clause-is : goal.returns-then-not-asks_why-clause-is
returns-then-not-asks_why-clause-is c = no_cause c.args.events.now _ c.args.row.now.finding (sym c.asks_why.ensures ∙ c.if-not-asks_why.true)
