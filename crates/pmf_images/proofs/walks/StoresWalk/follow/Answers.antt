use Rattle.pmf_event.specs.Store.{stores}
use Rattle.pmf_runs.specs.Runs.{state_at}
use Rattle.pmf_places.proofs.PlaceLemmas.{last_next}
use Rattle.pmf_images.proofs.walks.StoresWalk.follow.Goals as goal

pub returns-clause-keeps : goal.returns-clause-keeps
returns-clause-keeps c = λ es p here at_place was b.
    last_next (state_at c.args.self.now.places b).of _ c.args.place (stores b) es p c.args.event.now here at_place (c.in_ok-store.ensures b) (was b)
