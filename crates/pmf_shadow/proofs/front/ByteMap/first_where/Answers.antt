use Rattle.std.proofs.Common.{◌∙◌, ◌-◌, sym, arith}
use Rattle.pmf_event.proofs.RangeLemmas.{none-from}
use Rattle.pmf_shadow.specs.Bytes.{passing}
use Rattle.pmf_shadow.proofs.AskLemmas.{first_alone, first_later, none_more, none_all}
use Rattle.pmf_shadow.proofs.front.ByteMap.first_where.Goals as goal

pub returns-then-is_some : goal.returns-then-is_some
returns-then-is_some g c =
    first_later (passing (g.T.Test.passes c.args.test.now) c.args.self.now) c.args.first c.loop-at.at c.next-stop.result c.args.end c.first_on-found.result c.loop-at.invariant.from c.next-stop.ensures.upto c.loop-at.invariant.none
    c.first_on-found.ensures (sym c.is_some.ensures ∙ c.if-is_some.true)

pub loop-at-preserved : goal.loop-at-preserved
loop-at-preserved g c =
    let up = c.next-stop.ensures.from in
    let from = c.loop-at.invariant.from in
    record {
      from = omega arith;
      upto = λ some. c.next-stop.ensures.upto;
      none = none_more (passing (g.T.Test.passes c.args.test.now) c.args.self.now) c.args.first c.loop-at.at c.next-stop.result (omega arith) c.loop-at.invariant.none
          (sym (none-from c.first_on-found.result (sym c.is_some.ensures ∙ c.if-is_some.false)) ∙ c.first_on-found.ensures);
    }

pub returns : goal.returns
returns g c = none_all (passing (g.T.Test.passes c.args.test.now) c.args.self.now) c.args.first c.loop-at.at c.args.end (omega (arith, c.loop-at-test.false)) c.loop-at.invariant.none

pub returns-then-is_empty : goal.returns-then-is_empty
returns-then-is_empty g c = c.first_where.ensures ∙ first_alone c.args.self.now (g.T.Test.passes c.args.test.now) c.args.first (c.args.end - c.args.first) (c.is_empty.ensures.0 c.if-is_empty.true)
