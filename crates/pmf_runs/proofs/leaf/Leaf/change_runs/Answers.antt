use Rattle.std.proofs.{Common.{refl, subst, ◌∙◌, sym}, lemmas.List.{with_items_is}}
use Rattle.pmf_runs.{specs.Ranks.{low_rank, high_rank, ChangesItems}, proofs.LeafLemmas.{changes-rewritten}, proofs.JoinedLemmas.{joined-rewritten}}
use Rattle.pmf_runs.proofs.leaf.Leaf.change_runs.Goals as goal

pub returns : goal.returns
returns g c = λ from end bounds.
    let change = g.C.Change.changed c.args.change.now in
    let changes : ChangesItems (low_rank c.args.self.now.keys.items from) (high_rank c.args.self.now.keys.items end) change c.args.self.now.states.items c.change_between.new.states =
    rw (bounds.first, bounds.beyond, c.deref_mut.ensures.value) at c.change_between.ensures in
    let there = subst (ChangesItems (low_rank c.args.self.now.keys.items from) (high_rank c.args.self.now.keys.items end) change c.args.self.now.states.items)
    (sym (with_items_is c.args.self.now.states c.change_between.new.states (changes.len ∙ sym c.args.self.now.states.ok.0))) changes in (
      changes-rewritten c.args.self.now _ c.join_between.new.self from end change c.join_between.ensures.same bounds.begins bounds.ends refl there,
      joined-rewritten c.args.self.now _ c.join_between.new.self c.args.low c.args.high from end change c.join_between.ensures.joined
          bounds.begins bounds.ends bounds.order bounds.first bounds.beyond refl there,
    )
