use Rattle.std.proofs.Common.{refl}
use Rattle.pmf_storelog.proofs.TallyLemmas.{taken_none}
use Rattle.pmf_storelog.proofs.tally.Tally.new.Goals as goal

pub returns-clause-taken : goal.returns-clause-taken
returns-clause-taken c = taken_none c.args.run _ c.new.ensures refl refl
