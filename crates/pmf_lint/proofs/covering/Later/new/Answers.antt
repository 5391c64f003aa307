use Rattle.std.proofs.Common.{refl}
use Rattle.pmf_lint.proofs.CoverLemmas.{stands_last}
use Rattle.pmf_lint.proofs.covering.Later.new.Goals as goal

pub returns : goal.returns
returns c = stands_last _ c.new.ensures.states refl
