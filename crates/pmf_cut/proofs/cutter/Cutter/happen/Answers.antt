use Rattle.pmf_storelog.specs.LogText.{current_of}
use Rattle.pmf_cut.proofs.cutter.Cutter.happen.Goals as goal

pub returns : goal.returns
returns c = λ ends step records handed text cuts holds says.
    let found = c.in_ok-place.ensures step records handed cuts in
    let kept = c.in_ok-cut_if_due.ensures step records handed (current_of records) found.1 found.0 in
    c.in_ok-take_event.ensures ends step records handed text kept.1 kept.0 holds says
