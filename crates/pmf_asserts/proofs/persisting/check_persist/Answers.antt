use Rattle.std.proofs.Common.{sym, ◌∙◌, Some, None}
use Rattle.pmf_asserts.proofs.FindingLemmas.{persist-empty, persist-found}
use Rattle.pmf_asserts.proofs.persisting.check_persist.Goals as goal

pub returns-then-not-written_included : goal.returns-then-not-written_included
returns-then-not-written_included c = λ told es p stands.
    persist-empty es p c.args.span (sym (c.written_included.ensures told es p stands) ∙ c.if-not-written_included.true)

pub returns-in-None : goal.returns-in-None
returns-in-None c = λ told es p stands.
    persist-found es p c.args.span None (sym (c.written_included.ensures told es p stands) ∙ c.if-not-written_included.false) (sym c.in-None.is ∙ c.least_open.ensures told es p stands)

pub returns-in-Some : goal.returns-in-Some
returns-in-Some c = λ told es p stands.
    persist-found es p c.args.span (Some c.in-Some.byte) (sym (c.written_included.ensures told es p stands) ∙ c.if-not-written_included.false) (sym c.in-Some.is ∙ c.least_open.ensures told es p stands)
