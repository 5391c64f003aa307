use Rattle.std.proofs.Common.{refl, Some}
use Rattle.pmf_runs.{specs.Leaves.{leaf_state}, proofs.LeafLemmas.{same-items, same-both}, proofs.ChangingLemmas.{changes-after, on-ok, on-error}, proofs.RunLemmas.{on-err}, proofs.CutLemmas.{hinted}}
use Rattle.pmf_runs.proofs.leaf.Leaf.change_from.Goals as goal

pub returns-then-not-is_before-clause-ok : goal.returns-then-not-is_before-clause-ok
returns-then-not-is_before-clause-ok g c =
    on-ok c.change_across.result (hinted c.args.self.now _ c.change_across.new.self c.args.first c.args.end (g.C.Change.changed c.args.change.now) refl refl) c.change_across.ensures.ok

pub returns-then-not-is_before-clause-unchanged : goal.returns-then-not-is_before-clause-unchanged
returns-then-not-is_before-clause-unchanged g c =
    on-error c.change_across.result (same-both (leaf_state c.args.self.now) _ _ (same-items c.args.self.now _ refl refl)) c.change_across.ensures.unchanged

pub returns-in_err-run-clause-unchanged : goal.returns-in_err-run-clause-unchanged
returns-in_err-run-clause-unchanged g c =
    on-err c.from_residual.result (same-both (leaf_state c.args.self.now) _ _ (same-items c.args.self.now _ refl refl) c.in_err-run.ensures.same)

pub returns-clause-ok : goal.returns-clause-ok
returns-clause-ok g c =
    let changes = c.change_runs.ensures (Some c.args.first) (Some c.args.end) c.in_ok-run.ensures.bounds in
    hinted c.args.self.now _ c.change_runs.new.self c.args.first c.args.end (g.C.Change.changed c.args.change.now) refl refl (
      changes-after (Some c.args.first) (Some c.args.end) (g.C.Change.changed c.args.change.now) _ _ _ c.in_ok-run.ensures.same changes.0,
      λ joined. changes.1 (c.in_ok-run.ensures.joined joined),
    )
