use Rattle.std.proofs.{Common.{rules, ◌≡◌, ◌<◌, length, subst, sym, ◌∙◌, All, arith}, lemmas.List.{set-get_or}, lemmas.List.Elements.{All-set}, lemmas.Grind.{common_steps}}
use Rattle.pmf_world.{specs.Worlds.{IsOfWorld}, proofs.lemmas.WorldLedgerLemmas.{clash_nowhere, is_ours-joined, joins-at, ledger-is, ledger-ours, set-again}}
use Rattle.pmf_world.proofs.world.World.join_at.Goals as goal

pub join_both-requires-clause-agree : goal.join_both-requires-clause-agree
join_both-requires-clause-agree c =
    let into : c.args.into < length c.self.inside.ledgers.items = search rules in
    let from : c.args.from < length c.self.inside.ledgers.items = search rules in
    let own = ledger-ours c.self.inside.floor.profile c.self.inside.floor.sections c.self.inside.ledgers.items c.args.into c.index_mut.result.now c.index_mut.ensures.value into c.self.invariant.1 in
    let other = ledger-ours c.self.inside.floor.profile c.self.inside.floor.sections c.self.inside.ledgers.items c.args.from c.index.result.now (search rules) from c.self.invariant.1 in
    let copied : c.in_ok-other.other ≡ c.index.result.now = search rules in
    clash_nowhere _ _ _ _ c.self.invariant.0 (subst (IsOfWorld _ _) (sym c.replace-own.ensures.value) own) (subst (IsOfWorld _ _) (sym copied) other)

pub invariant_of-self : goal.invariant_of-self
invariant_of-self c =
    let into : c.args.into < length c.self.inside.ledgers.items = search rules in
    let from : c.args.from < length c.self.inside.ledgers.items = search rules in
    let own = ledger-ours c.self.inside.floor.profile c.self.inside.floor.sections c.self.inside.ledgers.items c.args.into c.index_mut.result.now c.index_mut.ensures.value into c.self.invariant.1 in
    let other = ledger-ours c.self.inside.floor.profile c.self.inside.floor.sections c.self.inside.ledgers.items c.args.from c.index.result.now (search rules) from c.self.invariant.1 in
    let copied : c.in_ok-other.other ≡ c.index.result.now = search rules in
    let joined = is_ours-joined c.self.inside.floor.profile c.self.inside.floor.sections c.replace-own.result c.in_ok-other.other c.in-Ok.joined (subst (IsOfWorld _ _) (sym c.replace-own.ensures.value) own) (subst (IsOfWorld _ _) (sym copied) other) c.in-Ok.ensures.unites in (
      c.self.invariant.0,
      subst (All (IsOfWorld c.self.inside.floor.profile c.self.inside.floor.sections)) (sym (set-again c.self.inside.ledgers.items c.args.into c.replace-own.new.dest c.in-Ok.joined))
          (All-set (IsOfWorld c.self.inside.floor.profile c.self.inside.floor.sections) c.self.inside.ledgers.items c.args.into c.in-Ok.joined joined c.self.invariant.1),
    )

pub invariant_of-self-in-Err : goal.invariant_of-self-in-Err
invariant_of-self-in-Err c =
    let into : c.args.into < length c.self.inside.ledgers.items = search rules in
    let own = ledger-ours c.self.inside.floor.profile c.self.inside.floor.sections c.self.inside.ledgers.items c.args.into c.index_mut.result.now c.index_mut.ensures.value into c.self.invariant.1 in
    let back = c.in-Err.ensures.returned ∙ c.replace-own.ensures.value in (
      c.self.invariant.0,
      subst (All (IsOfWorld c.self.inside.floor.profile c.self.inside.floor.sections)) (sym (set-again c.self.inside.ledgers.items c.args.into c.replace-own.new.dest c.in-Err.own))
          (All-set (IsOfWorld c.self.inside.floor.profile c.self.inside.floor.sections) c.self.inside.ledgers.items c.args.into c.in-Err.own (subst (IsOfWorld _ _) (sym back) own) c.self.invariant.1),
    )

pub returns-in-Ok-clause-joins : goal.returns-in-Ok-clause-joins
returns-in-Ok-clause-joins c =
    let into : c.args.into < length c.self.inside.ledgers.items = search rules in
    let from : c.args.from < length c.self.inside.ledgers.items = search rules in
    let copied : c.in_ok-other.other ≡ c.index.result.now = search rules in
    joins-at c.args.self.now _ c.args.into c.args.from c.replace-own.result c.in_ok-other.other c.in-Ok.joined _ c.self.view_is
    (c.replace-own.ensures.value ∙ ledger-is c.self.inside.floor.profile c.self.inside.ledgers.items c.args.into c.index_mut.result.now c.index_mut.ensures.value into)
    (copied ∙ ledger-is c.self.inside.floor.profile c.self.inside.ledgers.items c.args.from c.index.result.now (search rules) from) c.in-Ok.ensures.gathers (set-again c.self.inside.ledgers.items c.args.into c.replace-own.new.dest c.in-Ok.joined)

pub returns-in-Err-clause-unchanged : goal.returns-in-Err-clause-unchanged
returns-in-Err-clause-unchanged c = grind (arith, common_steps, set-again, set-get_or)
