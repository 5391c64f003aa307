use Rattle.std.{proofs.Common.{◌≡◌, map, get_or, rules, ap, ◌∙◌}, specs.Cmp.{nat_cmp_total}, specs.Map.Iter.{deref_pair}, proofs.lemmas.Map.Iter.{btree_map_turn, rest_more, rest_all}}
use Rattle.pmf_storelog.proofs.SectionLemmas.{next_listed, all_listed}
use Rattle.pmf_storelog.proofs.sections.in_order.Goals as goal

pub push_section-requires : goal.push_section-requires
push_section-requires c =
    let turn = btree_map_turn deref_pair c.loop-place.yielded c.into_iter-place-iterator.result c.loop-place.place-iterator c.next.new.self c.next.result (c.in-Some.field-0-0, c.in-Some.place) c.loop-place.yielded_by c.in-Some.is c.next.ensures.steps nat_cmp_total c.args.places.now (search rules) (search rules) in
    c.requires _ _ turn.1

pub loop-place-preserved : goal.loop-place-preserved
loop-place-preserved c = λ d.
    next_listed (λ e. get_or (map (λ a. a.value) c.args.shared.now) e.1 d) _ _ _ _ _ _ (c.loop-place.invariant d)
    (rest_more deref_pair c.loop-place.place-iterator c.next.new.self c.next.result (c.in-Some.field-0-0, c.in-Some.place) c.in-Some.is c.next.ensures.steps)
    (c.in_ok-push_section.ensures d)

pub returns-clause-listed : goal.returns-clause-listed
returns-clause-listed c = λ d.
    let start : c.into_iter-place-iterator.result ≡ c.args.places.now.entries = search rules in
    all_listed (λ e. get_or (map (λ a. a.value) c.args.shared.now) e.1 d) _ _ _ (c.loop-place.invariant d)
    (rest_all deref_pair c.loop-place.place-iterator c.next.new.self c.next.result c.in-None.is c.next.ensures.steps)
    ∙ ap (map (λ e. get_or (map (λ a. a.value) c.args.shared.now) e.1 d)) start
