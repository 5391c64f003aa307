use Rattle.pmf_storelog.proofs.InOrderLemmas.{the_set_in_order}
use Rattle.pmf_storelog.proofs.laws.in_order_is_the_set_in_order.Goals as goal

pub returns : goal.returns
returns c = the_set_in_order
