use Rattle.std.proofs.Common.{arith, ◌-◌}
use Rattle.pmf_shadow.specs.Bytes.{passing}
use Rattle.pmf_shadow.proofs.{StretchLemmas.{count-lacks}, TotalsLemmas.{none_lack}}
use Rattle.pmf_shadow.proofs.shadow.Shadow.lines_without.Goals as goal

pub overflow_sub-result-2 : goal.overflow_sub-result-2
overflow_sub-result-2 g c =
    let counted = count-lacks (passing (g.T.Test.passes c.args.test.now) c.args.self.now.bytes) c.args.first (c.args.end - c.args.first) c.args.with c.requires.counted in
    let fits = counted.0 in omega arith

pub returns-then-with-end : goal.returns-then-with-end
returns-then-with-end g c = none_lack (passing (g.T.Test.passes c.args.test.now) c.args.self.now.bytes) c.args.first (c.args.end - c.args.first) c.args.with c.requires.counted c.if-with-end.true
