use Rattle.std.proofs.Common.{refl, IsTrue, false}
use Rattle.pmf_ledger.proofs.lemmas.PlaceLemmas.{HasName-from_place}
use Rattle.pmf_ledger.proofs.ledger.Ledger.has.Goals as goal

pub returns-in-Ok : goal.returns-in-Ok
returns-in-Ok c = (λ _. HasName-from_place c.args.self.now.sections c.args.name c.in-Ok.field-0 c.in-Ok.ensures, λ _. refl)

pub returns-in-Err : goal.returns-in-Err
returns-in-Err c = (λ bad. let wrong : IsTrue false = bad in cc, λ held. absurd (c.in-Err.ensures.1 held.0 held.1 held.2))
