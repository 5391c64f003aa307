use Rattle.std.proofs.Common.{◌≡◌, rules, length, refl, sym, ◌∙◌, arith}
use Rattle.pmf_event.proofs.PackedLemmas.{agree_next, agree_all}
use Rattle.pmf_event.proofs.events.Events.are_equal.Goals as goal

pub loop-index-preserved : goal.loop-index-preserved
loop-index-preserved c = agree_next c.args.self.now c.args.other.now c.loop-index.index c.at.result c.at-in-loop-index.result c.loop-index.invariant c.at.ensures.value c.at-in-loop-index.ensures.value (c.if-not-is_same.ensures.0 refl)

pub returns : goal.returns
returns c =
    let all : length c.args.self.now ≡ c.loop-index.index = omega (arith, c.loop-index-test.false, c.loop-index.auto.index-end, c.len-index-end.ensures.value) in
    (λ _. agree_all c.args.self.now c.args.other.now (sym c.len.ensures.value ∙ c.if-len.false ∙ c.len-2.ensures.value) (λ k within. c.loop-index.invariant k (omega (arith, within, all))), λ _. search rules)
