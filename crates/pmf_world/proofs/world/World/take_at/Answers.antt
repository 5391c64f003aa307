use Rattle.std.proofs.{Common.{rules, ◌<◌, length, subst, sym, Contains}, lemmas.List.Elements.{All-set}}
use Rattle.pmf_world.{specs.Worlds.{IsOfWorld, WorldValue}, proofs.lemmas.WorldLedgerLemmas.{holds_no_other, is_ours-after, ledger-is, ledger-ours, takes-at}}
use Rattle.pmf_world.proofs.world.World.take_at.Goals as goal

pub take_into-requires-clause-agrees : goal.take_into-requires-clause-agrees
take_into-requires-clause-agrees c =
    let there : c.args.ledger < length c.self.inside.ledgers.items = search rules in
    let has = subst (λ (w : WorldValue). Contains w.sections c.args.verdict.section) (sym c.self.view_is) c.requires.of in
    let ours = ledger-ours c.self.inside.floor.profile c.self.inside.floor.sections c.self.inside.ledgers.items c.args.ledger c.index_mut.result.now c.index_mut.ensures.value there c.self.invariant.1 in
    holds_no_other _ _ _ _ c.self.invariant.0 ours has

pub invariant_of-self : goal.invariant_of-self
invariant_of-self c =
    let there : c.args.ledger < length c.self.inside.ledgers.items = search rules in
    let has = subst (λ (w : WorldValue). Contains w.sections c.args.verdict.section) (sym c.self.view_is) c.requires.of in
    let ours = ledger-ours c.self.inside.floor.profile c.self.inside.floor.sections c.self.inside.ledgers.items c.args.ledger c.index_mut.result.now c.index_mut.ensures.value there c.self.invariant.1 in (
      c.self.invariant.0,
      All-set (IsOfWorld c.self.inside.floor.profile c.self.inside.floor.sections) c.self.inside.ledgers.items c.args.ledger c.take_into.new.ledger
          (is_ours-after _ _ c.index_mut.result.now _ _ ours has c.take_into.result c.take_into.ensures.gains c.take_into.ensures.unchanged) c.self.invariant.1,
    )

pub returns-clause-takes : goal.returns-clause-takes
returns-clause-takes c =
    let there : c.args.ledger < length c.self.inside.ledgers.items = search rules in
    takes-at c.args.self.now _ c.args.ledger _ c.index_mut.result.now c.take_into.new.ledger c.take_into.result c.self.view_is (ledger-is c.self.inside.floor.profile c.self.inside.ledgers.items c.args.ledger c.index_mut.result.now c.index_mut.ensures.value there) c.take_into.ensures.gathers c.take_into.ensures.repeat
