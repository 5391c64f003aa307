use Rattle.std.proofs.Common.{◌≡◌, arith}
use Rattle.pmf_query.proofs.FirstLemmas.{front_told, none_left}
use Rattle.pmf_query.proofs.explaining.front_of.Goals as goal

pub returns-in_default-checked_sub-clause-left : goal.returns-in_default-checked_sub-clause-left
returns-in_default-checked_sub-clause-left c =
    let none : c.loop-index.more ≡ 0 = omega (arith, c.in_default-checked_sub.ensures) in
    none_left c.args.rows.now c.loop-index.index c.loop-index.more c.args.left.now c.loop-index.invariant none

pub returns-in_default-checked_sub-clause-front : goal.returns-in_default-checked_sub-clause-front
returns-in_default-checked_sub-clause-front c =
    let none : c.loop-index.more ≡ 0 = omega (arith, c.in_default-checked_sub.ensures) in
    front_told c.args.rows.now c.loop-index.index c.loop-index.more c.args.left.now c.loop-index.invariant none
