use Rattle.std.proofs.Common.{refl}
use Rattle.pmf_storelog.proofs.AheadLemmas.{plain_skipped}
use Rattle.pmf_storelog.proofs.plain.Plain.skip.Goals as goal

pub returns-clause-plain : goal.returns-clause-plain
returns-clause-plain c = λ records text is says. plain_skipped records c.args.self.now _ is text refl says refl refl
