use Rattle.std.proofs.Common.{arith, sym, ◌∙◌, refl}
use Rattle.pmf_runs.proofs.{RunLemmas.{keeps-made}, RunJoinedLemmas.{joined-root}}
use Rattle.pmf_runs.proofs.runs.RunMap.ensure_root.Goals as goal

pub returns-clause-same : goal.returns-clause-same
returns-clause-same g c =
    keeps-made c.args.self.now _ c.in_ok-root.root (sym c.is_some.ensures ∙ c.if-is_some.false) refl c.in_ok-root.ensures.states

pub returns-clause-joined : goal.returns-clause-joined
returns-clause-joined g c = grind (arith, joined-root)
