use Rattle.std.proofs.Common.{subst, arith}
use Rattle.pmf_runs.{specs.Ranks.{IsStop}, specs.Leaves.{leaf_state}, proofs.LeafLemmas.{rank-bound}, proofs.ChangingLemmas.{run-is, leaf-run, alters-more, sees-low, sees-upto}}
use Rattle.pmf_runs.proofs.leaf.Leaf.altered.Goals as goal

pub loop-start-smaller : goal.loop-start-smaller
loop-start-smaller g c =
    let at = subst (λ ks. IsStop ks c.loop-start.index c.args.end c.stop_of-stop.result) c.deref-in-loop-start.ensures.value c.stop_of-stop.ensures in
    let runs = run-is c.args.self.now.keys.items c.loop-start.start c.args.end c.loop-start.index c.stop_of-stop.result c.args.self.now.ordered (c.loop-start.invariant.index c.loop-start-test.true) c.loop-start-test.true at in
    let up = runs.up in
    omega (arith, c.loop-start-test.true)

pub loop-start-preserved : goal.loop-start-preserved
loop-start-preserved g c =
    let lt = c.loop-start-test.true in
    let at = subst (λ ks. IsStop ks c.loop-start.index c.args.end c.stop_of-stop.result) c.deref-in-loop-start.ensures.value c.stop_of-stop.ensures in
    let runs = run-is c.args.self.now.keys.items c.loop-start.start c.args.end c.loop-start.index c.stop_of-stop.result c.args.self.now.ordered (c.loop-start.invariant.index lt) lt at in
    let is = c.loop-start.invariant.index lt in
    let bound = rank-bound c.args.self.now c.loop-start.start in
    let after = c.loop-start.invariant.after lt in
    let order = c.loop-start.invariant.first lt in
    let up = runs.up in
    record {
      index = runs.next;
      past = omega (arith, c.args.self.now.states.ok.0, c.args.self.now.counted);
      first = λ _. sees-low c.args.first c.loop-start.start c.stop_of-stop.result _ (g.C.Change.changed c.args.change.now) _ _ _ _ order after c.after-altered.ensures;
      after = λ _. omega arith;
      upto = sees-upto c.loop-start.start c.stop_of-stop.result c.args.end _ (g.C.Change.changed c.args.change.now) _ _ _ _ runs.upto c.loop-start.invariant.upto c.after-altered.ensures;
      found = alters-more (leaf_state c.args.self.now) (g.C.Change.changed c.args.change.now) c.args.first c.args.end c.loop-start.start c.stop_of-stop.result
          c.loop-start.altered.first c.loop-start.altered.end c.after-altered.result.first c.after-altered.result.end c.index.result.now after order up
          (leaf-run c.args.self.now c.index.result.now c.loop-start.start c.args.end c.loop-start.index c.stop_of-stop.result runs c.index.ensures)
          c.loop-start.invariant.found c.after-altered.ensures;
    }
