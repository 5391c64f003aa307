use Rattle.std.proofs.Common.{rules, ◌<◌, length, subst}
use Rattle.pmf_ledger.specs.Repeats.{HaveOwnNames}
use Rattle.pmf_world.{specs.Floors.{IsSent}, specs.Gatherings.{TakesAt}, specs.Worlds.{WorldValue}, proofs.lemmas.WorldLedgerLemmas.{arrive-steps}}
use Rattle.pmf_ledger.specs.declared.taking.Taken.TheVariants as taken
use Rattle.pmf_world.proofs.world.World.arrive.Goals as goal

pub returns-in-Added-clause-steps : goal.returns-in-Added-clause-steps
returns-in-Added-clause-steps c =
    let ledger : c.args.ledger < length c.args.self.now.ledgers = search rules in
    let own = subst (λ (w : WorldValue). HaveOwnNames w.sections) c.self.view_is c.self.invariant.0 in
    let sent : IsSent c.args.self.now.profile c.args.self.now.sections c.args.self.now.farm.messages c.args.message c.in_ok-copy.copy = search rules in
    let takes : TakesAt c.args.self.now c.args.ledger c.in_ok-copy.copy.section taken.Added c.take_at.new.self = search rules in
    arrive-steps c.args.self.now c.take_at.new.self c.args.message c.args.ledger c.in_ok-copy.copy taken.Added own sent ledger takes

pub returns-in-Repeat-clause-steps : goal.returns-in-Repeat-clause-steps
returns-in-Repeat-clause-steps c =
    let ledger : c.args.ledger < length c.args.self.now.ledgers = search rules in
    let own = subst (λ (w : WorldValue). HaveOwnNames w.sections) c.self.view_is c.self.invariant.0 in
    let sent : IsSent c.args.self.now.profile c.args.self.now.sections c.args.self.now.farm.messages c.args.message c.in_ok-copy.copy = search rules in
    let takes : TakesAt c.args.self.now c.args.ledger c.in_ok-copy.copy.section taken.Repeat c.take_at.new.self = search rules in
    arrive-steps c.args.self.now c.take_at.new.self c.args.message c.args.ledger c.in_ok-copy.copy taken.Repeat own sent ledger takes
