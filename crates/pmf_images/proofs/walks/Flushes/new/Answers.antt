use Rattle.pmf_event.specs.{Line.{line_of_byte}, Store.{flushes}}
use Rattle.pmf_places.proofs.PlaceLemmas.{last_from_none}
use Rattle.pmf_images.proofs.walks.Flushes.new.Goals as goal

pub returns : goal.returns
returns c = λ es b. last_from_none c.new.result b (flushes (line_of_byte b)) (c.new.ensures.states b) es
