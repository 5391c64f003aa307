use Rattle.std.proofs.Common.{refl}
use Rattle.pmf_ledger.proofs.lemmas.PileLemmas.{one-of-all, some-of-all}
use Rattle.pmf_ledger.proofs.pile.Pile.into_ledger.Goals as goal

pub returns-clause-ledger : goal.returns-clause-ledger
returns-clause-ledger c = λ profile set are. one-of-all profile set c.together.result c.together.new.full.items (c.together.ensures.ledgers profile set are) (c.together.ensures.each refl)

pub returns-clause-some : goal.returns-clause-some
returns-clause-some c = λ profile set are. some-of-all profile set c.together.result c.args.self.full.items c.args.self.last are c.args.self.filled c.together.ensures.some
