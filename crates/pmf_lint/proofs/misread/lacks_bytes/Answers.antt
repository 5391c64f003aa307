use Rattle.std.proofs.Common.{◌∙◌, Some, ap, sym, not}
use Rattle.pmf_lint.specs.Misread.{is_met, lacks_bytes}
use Rattle.pmf_lint.proofs.CoverLemmas.{both_are}
use Rattle.pmf_lint.proofs.misread.lacks_bytes.Goals as goal

pub returns-in-Persist : goal.returns-in-Persist
returns-in-Persist c = λ told es p stands.
    ap not (c.written_included.ensures told es p stands) ∙ ap (λ e. lacks_bytes es p (Some e)) (sym c.in-Persist.is)

pub returns-in-Ordered : goal.returns-in-Ordered
returns-in-Ordered c = λ told es p stands.
    let s = c.in-Ordered.before in
    let t = c.in-Ordered.after in
    ap not (both_are _ _ _ (is_met es p s) (is_met es p t) c.both.ensures (c.written_included-in-Ordered.ensures told es p stands) (c.written_included-in-Ordered-2.ensures told es p stands))
    ∙ ap (λ e. lacks_bytes es p (Some e)) (sym c.in-Ordered.is)
