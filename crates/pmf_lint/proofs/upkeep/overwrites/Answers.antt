use Rattle.std.proofs.Common.{◌∙◌, Some, ap, sym, is_some}
use Rattle.pmf_lint.specs.Upkeep.{overwrites}
use Rattle.pmf_lint.proofs.upkeep.overwrites.Goals as goal

pub returns-in-Store : goal.returns-in-Store
returns-in-Store c = λ told es p stands. c.is_some.ensures ∙ ap is_some (c.least_open.ensures told es p stands) ∙ ap (λ e. overwrites es p (Some e)) (sym c.in-Store.is)
