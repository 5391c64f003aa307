use Rattle.pmf_event.specs.Store.{stores}
use Rattle.pmf_places.proofs.PlaceLemmas.{last_from_none}
use Rattle.pmf_images.proofs.walks.Stores.new.Goals as goal

pub returns : goal.returns
returns c = λ es b. last_from_none c.new.result b (stores b) (c.new.ensures.states b) es
