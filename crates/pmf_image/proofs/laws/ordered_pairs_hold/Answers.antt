use Rattle.pmf_image.proofs.OrderedLemmas.{holds-where_ordered}
use Rattle.pmf_image.proofs.laws.ordered_pairs_hold.Goals as goal

pub returns : goal.returns
returns c = holds-where_ordered
