use Rattle.std.proofs.Common.{◌-◌, arith}
use Rattle.pmf_shadow.specs.Bytes.{passing, state_at}
use Rattle.pmf_shadow.proofs.{StretchLemmas.{count-but}, TotalsLemmas.{none_but}}
use Rattle.pmf_shadow.proofs.shadow.Shadow.lines_left.Goals as goal

pub returns-then-with-rest : goal.returns-then-with-rest
unfolding passing
returns-then-with-rest g c =
    none_but (passing (g.T.Test.passes c.args.test.now) c.args.self.now.bytes) (passing (g.U.Test.passes c.args.other.now) c.args.self.now.bytes) c.args.first (c.args.end - c.args.first) c.args.with c.args.rest
    (λ b is. c.requires.both (state_at c.args.self.now.bytes b) is) c.requires.counted c.requires.rest c.if-with-rest.true

pub overflow_sub-result : goal.overflow_sub-result
unfolding passing
overflow_sub-result g c =
    let counted = count-but (passing (g.T.Test.passes c.args.test.now) c.args.self.now.bytes) (passing (g.U.Test.passes c.args.other.now) c.args.self.now.bytes) c.args.first (c.args.end - c.args.first) c.args.with c.args.rest
    (λ b is. c.requires.both (state_at c.args.self.now.bytes b) is) c.requires.counted c.requires.rest in
    let fewer = counted.0 in omega arith
