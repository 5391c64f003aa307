use Rattle.std.proofs.Common.{◌∙◌, ◌&&◌, Some, ap, sym}
use Rattle.pmf_lint.specs.Misread.{lacks_bytes, may_be_met, misreads}
use Rattle.pmf_lint.proofs.{CoverLemmas.{both_are}, EmptyLemmas.{none_misread}}
use Rattle.pmf_lint.proofs.misread.misreads.Goals as goal

pub returns-then-not-unmet : goal.returns-then-not-unmet
returns-then-not-unmet c = λ told es p stands is. none_misread es p c.args.event.now c.args.unmet is c.if-not-unmet.true

pub returns-in_ok-second-in-Ordered : goal.returns-in_ok-second-in-Ordered
returns-in_ok-second-in-Ordered c = λ told es p stands is.
    let s = c.in-Ordered.before in
    let t = c.in-Ordered.after in
    let unmet = sym c.if-not-unmet.false ∙ is ∙ ap (λ e. lacks_bytes es p (Some e)) c.in-Ordered.is in
    both_are _ _ _ (may_be_met es p s) (may_be_met es p t) c.both.ensures (c.in_ok-first-in-Ordered.ensures told es p stands) (c.in_ok-second-in-Ordered.ensures told es p stands)
    ∙ ap (λ unmet. unmet && (may_be_met es p s && may_be_met es p t)) unmet ∙ ap (λ e. misreads es p (Some e)) (sym c.in-Ordered.is)

pub returns-in_ok-met-in-Persist : goal.returns-in_ok-met-in-Persist
returns-in_ok-met-in-Persist c = λ told es p stands is.
    let s = c.in-Persist.span in
    let unmet = sym c.if-not-unmet.false ∙ is ∙ ap (λ e. lacks_bytes es p (Some e)) c.in-Persist.is in
    c.in_ok-met-in-Persist.ensures told es p stands ∙ ap (λ unmet. unmet && may_be_met es p s) unmet ∙ ap (λ e. misreads es p (Some e)) (sym c.in-Persist.is)
