use Rattle.pmf_lint.proofs.StoreNameLemmas.{named_none}
use Rattle.pmf_lint.proofs.storing.StoreNames.none.Goals as goal

pub returns : goal.returns
returns c = λ stands asked. named_none stands asked _ c.new.ensures c.new-2.ensures c.new-3.ensures
