use Rattle.pmf_verdict.proofs.LookBackLemmas.{later_events_change_no_row}
use Rattle.pmf_verdict.proofs.laws.later_events_change_no_row.Goals as goal

pub returns : goal.returns
returns c = later_events_change_no_row
