use Rattle.std.proofs.{Common.{arith, sym, ◌∙◌}, lemmas.Bool.{not-false}}
use Rattle.pmf_image.proofs.ContradictionLemmas.{scope-deep, scope-from}
use Rattle.pmf_image.proofs.contradicting.scope_contradicted.Goals as goal

pub returns-then-scope-gt0 : goal.returns-then-scope-gt0
returns-then-scope-gt0 c =
    let depth = c.scope_at-scope.ensures.depth in
    let some = c.if-scope-gt0.true in
    scope-deep c.args.events.now c.args.place c.args.certificate (omega arith)

pub returns : goal.returns
returns c =
    let depth = c.scope_at-scope.ensures.depth in
    let none = c.if-scope-gt0.false in
    scope-from c.args.events.now c.args.place c.args.certificate c.finds.result (omega arith)
    (sym c.scope_at-scope.ensures.scope ∙ not-false _ c.if-not-scope.false) (omega arith) c.finds.ensures
