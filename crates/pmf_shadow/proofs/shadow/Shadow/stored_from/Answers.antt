use Rattle.std.proofs.Common.{sym, ◌∙◌}
use Rattle.pmf_shadow.proofs.StandingLemmas.{none-stored, run-lies, run-stored}
use Rattle.pmf_shadow.proofs.shadow.Shadow.stored_from.Goals as goal

pub returns-in_err-byte-clause-stored : goal.returns-in_err-byte-clause-stored
returns-in_err-byte-clause-stored c = let none = c.from_residual.ensures in rw none (none-stored c.args.self.now c.args.first c.args.end (sym c.first_where.ensures ∙ c.in_err-byte.was))

pub returns-clause-lie : goal.returns-clause-lie
returns-clause-lie c = rw c.unwrap_or.ensures (run-lies c.args.self.now c.args.first c.args.end c.in_ok-byte.byte c.first_where-until.result (sym c.first_where.ensures ∙ c.in_ok-byte.was) (sym c.first_where-until.ensures))

pub returns-clause-stored : goal.returns-clause-stored
returns-clause-stored c = rw c.unwrap_or.ensures (run-stored c.args.self.now c.args.first c.args.end c.in_ok-byte.byte c.first_where-until.result (sym c.first_where.ensures ∙ c.in_ok-byte.was) (sym c.first_where-until.ensures))
