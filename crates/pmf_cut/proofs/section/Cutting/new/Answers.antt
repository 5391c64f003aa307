use Rattle.std.proofs.Common.{refl}
use Rattle.pmf_cut.proofs.OrderLemmas.{past-none}
use Rattle.pmf_cut.proofs.section.Cutting.new.Goals as goal

pub returns-clause-past : goal.returns-clause-past
returns-clause-past c = λ es. past-none _ es refl
