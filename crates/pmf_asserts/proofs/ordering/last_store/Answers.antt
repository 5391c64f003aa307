use Rattle.std.proofs.Common.{sym, ◌∙◌}
use Rattle.pmf_asserts.proofs.FindingLemmas.{place-written, never-written, never-unwritten}
use Rattle.pmf_asserts.proofs.ordering.last_store.Goals as goal

pub returns-in-None-clause-written : goal.returns-in-None-clause-written
returns-in-None-clause-written c = λ told es p stands some. absurd (never-written told es p c.args.byte (sym c.in-None.is ∙ c.interval_at.ensures told es p stands) some)

pub returns-in-Some-clause-written : goal.returns-in-Some-clause-written
returns-in-Some-clause-written c = λ told es p stands some. place-written told es p c.args.byte c.in-Some.interval (sym c.in-Some.is ∙ c.interval_at.ensures told es p stands) some

pub returns-in-Some-clause-unwritten : goal.returns-in-Some-clause-unwritten
returns-in-Some-clause-unwritten c = λ told es p stands none. absurd (never-unwritten told es p c.args.byte c.in-Some.interval (sym c.in-Some.is ∙ c.interval_at.ensures told es p stands) none)
