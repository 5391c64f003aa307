use Rattle.std.proofs.Common.{refl}
use Rattle.pmf_shadow.proofs.FrontLemmas.{some_put, all_put}
use Rattle.pmf_shadow.proofs.front.ByteMap.settle.Goals as goal

pub returns-in_err-put_all-clause-same : goal.returns-in_err-put_all-clause-same
returns-in_err-put_all-clause-same c = some_put c.args.self.now _ refl c.in_err-put_all.ensures.others

pub returns-clause-same : goal.returns-clause-same
returns-clause-same c = all_put c.args.self.now _ c.in_ok-put_all.ensures.put c.in_ok-put_all.ensures.others c.new.ensures.len
