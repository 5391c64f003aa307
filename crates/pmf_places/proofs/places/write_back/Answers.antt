use Rattle.pmf_places.proofs.PlaceLemmas.{flushed}
use Rattle.pmf_places.proofs.places.write_back.Goals as goal

pub returns-in_ok-change-in-Flush : goal.returns-in_ok-change-in-Flush
returns-in_ok-change-in-Flush c =
    flushed c.args.places.now c.change.new.self c.lines_of-first.result.0 c.lines_of-first.result.1 c.args.place c.in_ok-change-in-Flush.ensures.ok c.in-Flush.span c.args.event.now c.in-Flush.is
    c.lines_of-first.ensures
