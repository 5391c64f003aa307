use Rattle.pmf_event.specs.{Line.{line_of_byte}, Store.{flushes}}
use Rattle.pmf_runs.specs.Runs.{state_at}
use Rattle.pmf_places.proofs.PlaceLemmas.{last_next}
use Rattle.pmf_images.proofs.walks.FlushesWalk.follow.Goals as goal

pub returns-clause-keeps : goal.returns-clause-keeps
returns-clause-keeps c = λ es p here at_place was b.
    last_next (state_at c.args.self.now.places b).of _ c.args.place (flushes (line_of_byte b)) es p c.args.event.now here at_place (c.in_ok-write_back.ensures b) (was b)
