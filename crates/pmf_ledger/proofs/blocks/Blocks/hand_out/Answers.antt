use Rattle.std.proofs.Common.{ap, length, refl, List, arith}
use Rattle.pmf_event.specs.Section.{Trace}
use Rattle.pmf_ledger.proofs.blocks.Blocks.hand_out.Goals as goal

pub returns-in_err-last : goal.returns-in_err-last
returns-in_err-last c = λ r read few.
    let given = c.in_err-last.ensures r.profile r.blocks read.pile few in
    let long = ap (λ (ss : List Trace). length ss) given.1 in
    let count = read.count in rw c.from_residual.ensures (record { pile = given.0; count = omega (arith, count, long) }, given.1)

pub returns : goal.returns
returns c = λ r read few. let given = c.in_ok-last.ensures r.profile r.blocks read.pile few in (record { pile = given.0; count = refl }, given.1)
