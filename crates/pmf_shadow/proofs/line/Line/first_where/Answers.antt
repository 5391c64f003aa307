use Rattle.std.proofs.Common.{◌%◌, ◌/◌, ◌∙◌, ap, sym, arith, get_or}
use Rattle.pmf_shadow.proofs.AskLemmas.{found_here, none_all, word_default}
use Rattle.pmf_shadow.proofs.line.Line.first_where.Goals as goal

pub returns-then-passes : goal.returns-then-passes
returns-then-passes g c = λ d.
    found_here (λ b. g.T.Test.passes c.args.test.now (get_or c.args.self.now.words (b % 64 / 8) d)) c.args.first c.loop-byte.byte c.args.end c.loop-byte.invariant.from (omega (arith, c.loop-byte-test.true)) (c.loop-byte.invariant.none d)
    (ap (g.T.Test.passes c.args.test.now) (word_default c.args.self.now c.loop-byte.byte d _) ∙ sym c.passes.ensures ∙ c.if-passes.true)

pub returns : goal.returns
returns g c = λ d. none_all (λ b. g.T.Test.passes c.args.test.now (get_or c.args.self.now.words (b % 64 / 8) d)) c.args.first c.loop-byte.byte c.args.end (omega (arith, c.loop-byte-test.false)) (c.loop-byte.invariant.none d)
