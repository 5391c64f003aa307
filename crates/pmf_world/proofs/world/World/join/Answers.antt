use Rattle.std.proofs.Common.{rules, ◌≡◌, ◌<◌, length, subst}
use Rattle.pmf_world.{specs.declared.step.WorldAnswer.TheVariants.{Joined}, specs.declared.step.WorldStep.TheVariants.{Join}, specs.Worlds.{Steps}, proofs.lemmas.WorldLedgerLemmas.{join-itself}}
use Rattle.pmf_world.proofs.world.World.join.Goals as goal

pub returns-else-into-from-clause-steps : goal.returns-else-into-from-clause-steps
returns-else-into-from-clause-steps c =
    let into : c.args.into < length c.args.self.now.ledgers = search rules in
    let same : c.args.into ≡ c.args.from = search rules in
    subst (λ k. Steps c.args.self.now (Join c.args.into k) Joined c.args.self.now) same (join-itself c.args.self.now c.args.into into)
