use Rattle.std.proofs.Common.{refl}
use Rattle.pmf_shadow.proofs.FrontLemmas.{on_err, kept_behind}
use Rattle.pmf_shadow.proofs.front.ByteMap.change_runs.Goals as goal

pub returns-clause-unchanged : goal.returns-clause-unchanged
returns-clause-unchanged g c = on_err c.change.result (kept_behind c.args.self.now _ refl) c.change.ensures.unchanged
