use Rattle.std.proofs.Common.{◌+◌, ◌*◌, arith, subst, refl, IfSome}
use Rattle.pmf_runs.specs.Runs as behind
use Rattle.pmf_shadow.specs.Words.{HaveState}
use Rattle.pmf_shadow.proofs.FrontLemmas.{none_put}
use Rattle.pmf_shadow.proofs.line.put_words.Goals as goal

pub returns-then-are_same-clause-put : goal.returns-then-are_same-clause-put
returns-then-are_same-clause-put c =
    let upto = c.requires.upto in
    none_put c.args.runs.now (64 * c.args.number + 8 * c.args.from) (64 * c.args.number + 8 * c.args.upto) (64 * c.args.number + 64) c.args.state (omega arith)
    (subst (λ even. IfSome even (HaveState (behind.state_at c.args.runs.now) (64 * c.args.number + 8 * c.args.from) (64 * c.args.number + 64))) (c.if-are_same.ensures refl) c.requires.even)
