use Rattle.std.proofs.Common.{arith}
use Rattle.pmf_runs.specs.Lines.{line_has}
use Rattle.pmf_shadow.specs.Bytes.{passing}
use Rattle.pmf_shadow.proofs.{AskLemmas.{count_alone, count_none}, WalkLemmas.{count_on}}
use Rattle.pmf_shadow.proofs.front.ByteMap.count_lines.Goals as goal

pub loop-line-init : goal.loop-line-init
loop-line-init g c =
    let order = c.requires.order in
    record {
      from = omega arith;
      upto = omega arith;
      few = omega arith;
      count = count_none (line_has (passing (g.T.Test.passes c.args.test.now) c.args.self.now)) c.args.first;
    }

pub loop-line-preserved : goal.loop-line-preserved
loop-line-preserved g c =
    let inv = c.loop-line.invariant in
    let from = inv.from in
    let low = c.next_front-found.ensures.from in
    let high = c.next_front-found.ensures.upto in
    let next = c.max-next.ensures in
    record {
      from = grind arith;
      upto = grind (arith, c.loop-line-test.true);
      few = c.with_lines-count.ensures.few;
      count = count_on (line_has (passing (g.T.Test.passes c.args.test.now) c.args.self.now)) c.args.first c.loop-line.line c.max-next.result c.loop-line.count c.with_lines-count.result from (grind arith) inv.count c.with_lines-count.ensures.is;
    }

pub returns-then-is_empty : goal.returns-then-is_empty
returns-then-is_empty g c = count_alone c.args.self.now (g.T.Test.passes c.args.test.now) c.args.first c.args.end c.count_lines.result (c.is_empty.ensures.0 c.if-is_empty.true) c.count_lines.ensures
