use Rattle.std.proofs.Common.{subst}
use Rattle.pmf_ledger.specs.Places.{IsPlaceOf, LacksName}
use Rattle.pmf_ledger.proofs.ledger.Ledger.standing_of.Goals as goal

pub returns-in-Err : goal.returns-in-Err
returns-in-Err c = let sections = c.args.self.now.sections in subst (λ n. IsPlaceOf sections n c.in-Err.place × LacksName sections n) c.name.ensures c.in-Err.ensures
