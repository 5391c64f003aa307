use Rattle.std.proofs.Common.{refl, ◌∙◌}
use Rattle.pmf_storelog.specs.LogText.{sections_of}
use Rattle.pmf_storelog.proofs.tally.Tally.into_log.Goals as goal

pub returns-clause-ok : goal.returns-clause-ok
unfolding sections_of
returns-clause-ok c = λ run records taken. c.new.ensures ∙ rw (c.in_ok-sections.ensures run _ _ _ taken.sections, taken.skipped) refl
