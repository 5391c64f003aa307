use Rattle.std.proofs.{Common.{rules, ◌≡◌, ◌++◌, [], ◌∷◌, map, set, ap, subst, sym, ◌∙◌, arith}, lemmas.List.{map-append}, lemmas.Option.{none-some, same_Some}, lemmas.Grind.{common_steps}}
use Rattle.pmf_world.{specs.Floors.{IsFloor}, proofs.lemmas.FloorLemmas.{IsFloor-posted, alike, becomes, doing_set, few-messages, has-verdict, worker_within}}
use Rattle.pmf_world.proofs.floor.Floor.post.Goals as goal

pub overflow_cast-number : goal.overflow_cast-number
overflow_cast-number c =
    let few = few-messages _ _ _ _ c.self.inside.messages.items c.self.invariant in
    search (rules, few)

pub index_mut-requires : goal.index_mut-requires
index_mut-requires c = grind (arith, common_steps, worker_within)

pub unreachable-requires : goal.unreachable-requires
unreachable-requires c =
    let has = has-verdict _ _ _ c.self.inside.workers.items _ c.args.worker c.args.section c.index_mut.result.now (search rules) c.index_mut.ensures.value c.self.invariant in
    none-some _ (sym c.in-None.is ∙ ap (λ w. w.verdict) c.replace.ensures.value ∙ has.1)

pub invariant_of-self-in-Some : goal.invariant_of-self-in-Some
invariant_of-self-in-Some c =
    let has = has-verdict _ _ _ c.self.inside.workers.items _ c.args.worker c.args.section c.index_mut.result.now (search rules) c.index_mut.ensures.value c.self.invariant in
    let held = sym c.in-Some.is ∙ ap (λ w. w.verdict) c.replace.ensures.value ∙ has.1 in
    let items : c.push_reserved.new.self.items ≡ c.self.inside.messages.items ++ record { section = c.args.section; verdict = c.in-Some.verdict } ∷ [] = search rules in
    subst (λ w. IsFloor c.self.inside.profile (map (λ s. s.value) c.self.inside.sections.items) c.self.inside.board.items (set c.self.inside.workers.items c.args.worker w) c.push_reserved.new.self.items) (sym c.replace.ensures.after)
    (subst (IsFloor c.self.inside.profile (map (λ s. s.value) c.self.inside.sections.items) c.self.inside.board.items _) (sym items)
    (IsFloor-posted _ _ c.self.inside.board.items c.self.inside.workers.items c.self.inside.messages.items c.args.worker c.args.section c.in-Some.verdict (search rules) (same_Some _ _ held) c.self.invariant))

pub returns-clause-sent : goal.returns-clause-sent
returns-clause-sent c = grind (arith, common_steps, becomes, alike, doing_set, map-append)
