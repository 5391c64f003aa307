use Rattle.pmf_storelog.specs.LogText.{sections_of, section_named, events_in, numbers_of, current_of}
use Rattle.pmf_storelog.proofs.SectionLemmas.{counted_as}
use Rattle.pmf_storelog.proofs.tally.Tally.only_section.Goals as goal

pub returns : goal.returns
unfolding sections_of
returns c = λ run records taken.
    counted_as _ (numbers_of records) (λ number. section_named run number (events_in records number)) c.only.result (c.only.ensures run (numbers_of records) (events_in records) (current_of records) taken.sections)
