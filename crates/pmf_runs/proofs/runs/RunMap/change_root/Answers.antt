use Rattle.std.proofs.Common.{refl}
use Rattle.pmf_runs.proofs.{RunLemmas.{on-err, keeps-root, changes-root}, RunJoinedLemmas.{joined-root, root-joined}}
use Rattle.pmf_runs.proofs.runs.RunMap.change_root.Goals as goal

pub returns-in_err-change_range-in-Some-clause-unchanged : goal.returns-in_err-change_range-in-Some-clause-unchanged
returns-in_err-change_range-in-Some-clause-unchanged g c =
    on-err c.from_residual.result (keeps-root c.args.self.now _ c.in-Some.root c.change_range.new.self c.in-Some.is refl refl c.in_err-change_range-in-Some.ensures.unchanged)

pub returns-clause-ok : goal.returns-clause-ok
returns-clause-ok g c =
    changes-root c.args.self.now _ c.in-Some.root c.change_range.new.self c.args.first c.args.end (g.C.Change.changed c.args.change.now) c.in-Some.is refl refl c.in_ok-change_range-in-Some.ensures.ok.0

pub returns-clause-joined : goal.returns-clause-joined
returns-clause-joined g c = λ whole.
    joined-root _ c.change_range.new.self refl (c.in_ok-change_range-in-Some.ensures.ok.1 (root-joined c.args.self.now c.in-Some.root c.in-Some.is whole))
