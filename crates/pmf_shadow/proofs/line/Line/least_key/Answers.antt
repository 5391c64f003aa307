use Rattle.std.proofs.Common.{◌%◌, ◌/◌, ◌∙◌, ap, refl, sym, arith, get_or}
use Rattle.pmf_shadow.proofs.AskLemmas.{least_none, least_more, least_end, word_key, word_default}
use Rattle.pmf_shadow.proofs.line.Line.least_key.Goals as goal

pub loop-byte-init : goal.loop-byte-init
loop-byte-init g c = record {
  from = omega arith;
  upto = λ le. le;
  none = λ lt. refl;
  least = λ d. least_none (λ b. g.K.Key.key c.args.key.now (get_or c.args.self.now.words (b % 64 / 8) d)) c.args.first c.args.first refl;
}

pub loop-byte-preserved : goal.loop-byte-preserved
loop-byte-preserved g c =
    let up = c.step-byte.ensures.up in
    let from = c.loop-byte.invariant.from in
    record {
      from = omega arith;
      upto = λ some. c.step-byte.ensures.upto;
      none = λ lt. absurd (omega (arith, c.loop-byte-test.true));
      least = λ d.
          c.lesser-least.ensures ∙ least_more (λ b. g.K.Key.key c.args.key.now (get_or c.args.self.now.words (b % 64 / 8) d)) c.args.first c.loop-byte.byte c.step-byte.result c.loop-byte.least c.key.result from (omega arith) (c.loop-byte.invariant.least d)
          (c.key.ensures ∙ ap (g.K.Key.key c.args.key.now) (word_default c.args.self.now c.loop-byte.byte _ d) ∙ sym (word_key c.args.self.now (g.K.Key.key c.args.key.now) d c.loop-byte.byte c.step-byte.result up c.step-byte.ensures.within));
    }

pub returns : goal.returns
returns g c = λ d.
    least_end (λ b. g.K.Key.key c.args.key.now (get_or c.args.self.now.words (b % 64 / 8) d)) c.args.first c.loop-byte.byte c.args.end c.loop-byte.least (omega (arith, c.loop-byte-test.false)) c.loop-byte.invariant.from c.loop-byte.invariant.upto (c.loop-byte.invariant.least d) c.loop-byte.invariant.none
