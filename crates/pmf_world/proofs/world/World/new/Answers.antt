use Rattle.std.proofs.{Common.{arith}, lemmas.Grind.{common_steps}}
use Rattle.std.proofs.Common.{rules, ◌≡◌, map, [], subst, sym, replicate}
use Rattle.pmf_ledger.specs.Repeats.{HaveOwnNames}
use Rattle.pmf_world.{proofs.lemmas.TurningLemmas.{empties-ours}}
use Rattle.pmf_world.proofs.world.World.new.Goals as goal

pub invariant_of-result : goal.invariant_of-result
invariant_of-result c =
    let own : HaveOwnNames (map (λ s. s.value) c.args.sections.now) = search rules in
    let profile : c.in_ok-floor.floor.profile ≡ c.args.profile = search rules in
    let sections : c.in_ok-floor.floor.sections ≡ map (λ s. s.value) c.args.sections.now = search rules in
    let made : c.in_ok-ledgers.ledgers.items ≡ replicate c.args.ledgers (record { profile = c.args.profile; sections = [] }) = search rules in (
      subst HaveOwnNames (sym sections) own,
      grind (arith, common_steps, empties-ours),
    )
