use Rattle.std.proofs.Common.{refl}
use Rattle.pmf_why.proofs.PartsLemmas.{nothing_taken}
use Rattle.pmf_why.proofs.taking.Telling.new.Goals as goal

pub returns-clause-parts : goal.returns-clause-parts
returns-clause-parts c = λ bytes. nothing_taken c.args.asked bytes _ refl c.new.ensures.items c.new-2.ensures.items c.new-3.ensures.items
