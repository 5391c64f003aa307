use Rattle.std.proofs.Common.{sym, ◌∙◌, ap}
use Rattle.pmf_event.specs.FlushWarnings.{doubled_finding, needless_finding}
use Rattle.pmf_asserts.proofs.flushes.check_flush.Goals.{in-None, in-Some}
use Rattle.pmf_asserts.proofs.flushes.check_flush.Goals as goal

pub returns-in-None-clean-clause-doubled : goal.returns-in-None-clean-clause-doubled
returns-in-None-clean-clause-doubled c = λ told es p stands. elim c.match-lines.branch [
  | in-None w ↦ w.doubled-is ∙ ap doubled_finding (sym w.in-None.is ∙ c.flush_lines-lines.ensures.pending told es p stands)
  | in-Some w ↦ w.doubled-is ∙ ap doubled_finding (sym w.in-Some.is ∙ c.flush_lines-lines.ensures.pending told es p stands)
]

pub returns-in-None-clean-clause-needless : goal.returns-in-None-clean-clause-needless
returns-in-None-clean-clause-needless c = λ told es p stands. ap needless_finding (sym c.in-None-clean.is ∙ c.flush_lines-lines.ensures.clean told es p stands)

pub returns-in-Some-clean-clause-doubled : goal.returns-in-Some-clean-clause-doubled
returns-in-Some-clean-clause-doubled c = λ told es p stands. elim c.match-lines.branch [
  | in-None w ↦ w.doubled-is ∙ ap doubled_finding (sym w.in-None.is ∙ c.flush_lines-lines.ensures.pending told es p stands)
  | in-Some w ↦ w.doubled-is ∙ ap doubled_finding (sym w.in-Some.is ∙ c.flush_lines-lines.ensures.pending told es p stands)
]

pub returns-in-Some-clean-clause-needless : goal.returns-in-Some-clean-clause-needless
returns-in-Some-clean-clause-needless c = λ told es p stands. ap needless_finding (sym c.in-Some-clean.is ∙ c.flush_lines-lines.ensures.clean told es p stands)
