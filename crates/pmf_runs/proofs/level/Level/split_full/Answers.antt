use Rattle.std.proofs.Common.{arith, subst}
use Rattle.pmf_runs.{specs.Ranks.{HasKey}, proofs.{RunRules.{level_parts}, SpaceLemmas.{space-key}}}
use Rattle.pmf_runs.proofs.level.Level.split_full.Goals as goal

pub returns-then-is_key-clause-space : goal.returns-then-is_key-clause-space
returns-then-is_key-clause-space g c =
    let has = subst (λ ks. HasKey ks c.middle-middle.result) c.deref-in-loop-self-2.ensures.value (c.is_key.ensures.key c.if-is_key.true) in
    space-key g.P.Part.full g.P.Part.middle c.loop-self.self c.index-in-loop-self.result.now c.args.place c.loop-self.index c.middle-middle.result c.loop-self.invariant.at c.index-in-loop-self.ensures c.middle-middle.ensures has

pub loop-self-smaller : goal.loop-self-smaller
loop-self-smaller g c = grind (arith, level_parts)

pub loop-self-preserved : goal.loop-self-preserved
loop-self-preserved g c = grind (arith, level_parts)

pub returns-clause-space : goal.returns-clause-space
returns-clause-space g c = grind (arith, level_parts)
