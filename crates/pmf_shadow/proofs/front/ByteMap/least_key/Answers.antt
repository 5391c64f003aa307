use Rattle.std.proofs.Common.{◌∙◌, ◌-◌, refl, arith}
use Rattle.pmf_shadow.specs.Bytes.{keyed}
use Rattle.pmf_shadow.proofs.AskLemmas.{least_alone, least_none, least_more, least_end}
use Rattle.pmf_shadow.proofs.front.ByteMap.least_key.Goals as goal

pub loop-at-init : goal.loop-at-init
loop-at-init g c = record {
  from = omega arith;
  upto = λ le. le;
  none = λ lt. refl;
  least = least_none (keyed (g.K.Key.key c.args.key.now) c.args.self.now) c.args.first c.args.first refl;
}

pub loop-at-preserved : goal.loop-at-preserved
loop-at-preserved g c =
    let up = c.next-stop.ensures.from in
    let from = c.loop-at.invariant.from in
    record {
      from = omega arith;
      upto = λ some. c.next-stop.ensures.upto;
      none = λ lt. absurd (omega (arith, c.loop-at-test.true));
      least = c.lesser-least.ensures ∙ least_more (keyed (g.K.Key.key c.args.key.now) c.args.self.now) c.args.first c.loop-at.at c.next-stop.result c.loop-at.least c.least_on.result from (omega arith) c.loop-at.invariant.least c.least_on.ensures;
    }

pub returns : goal.returns
returns g c =
    least_end (keyed (g.K.Key.key c.args.key.now) c.args.self.now) c.args.first c.loop-at.at c.args.end c.loop-at.least (omega (arith, c.loop-at-test.false)) c.loop-at.invariant.from c.loop-at.invariant.upto c.loop-at.invariant.least (c.loop-at.invariant.none)

pub returns-then-is_empty : goal.returns-then-is_empty
returns-then-is_empty g c = c.least_key.ensures ∙ least_alone c.args.self.now (g.K.Key.key c.args.key.now) c.args.first (c.args.end - c.args.first) (c.is_empty.ensures.0 c.if-is_empty.true)
