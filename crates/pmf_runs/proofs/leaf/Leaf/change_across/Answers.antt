use Rattle.std.proofs.Common.{None, Some}
use Rattle.pmf_runs.{specs.Leaves.{leaf_state}, proofs.LeafLemmas.{same-both}, proofs.ChangingLemmas.{changes-after}, proofs.RunLemmas.{on-err}, proofs.JoinedLemmas.{joined-swap}}
use Rattle.pmf_runs.proofs.leaf.Leaf.change_across.Goals as goal

pub returns-in_err-begin-2-clause-unchanged : goal.returns-in_err-begin-2-clause-unchanged
returns-in_err-begin-2-clause-unchanged g c =
    on-err c.from_residual-in_err-begin-2.result (same-both (leaf_state c.args.self.now) _ _ c.in_ok-begin.ensures.same c.in_err-begin-2.ensures.same)

pub returns-clause-ok : goal.returns-clause-ok
returns-clause-ok g c = (
  changes-after (Some c.args.first) (Some c.args.end) (g.C.Change.changed c.args.change.now) (leaf_state c.args.self.now) _ _
      (same-both (leaf_state c.args.self.now) _ _ c.in_ok-begin.ensures.same c.in_ok-begin-2.ensures.same)
      c.change_all.ensures.0,
  λ joined. c.change_all.ensures.1 (c.in_ok-begin-2.ensures.joined (Some c.args.first) (joined-swap _ _ _ (c.in_ok-begin.ensures.joined None joined))),
)
