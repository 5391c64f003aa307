use Rattle.std.proofs.Common.{◌∙◌, ◌||◌, ap, sym}
use Rattle.pmf_lint.specs.Misread.{is_met_as_read, read_as_hexadecimal}
use Rattle.pmf_lint.proofs.misread.may_be_met.Goals as goal

pub returns-then-written_included : goal.returns-then-written_included
returns-then-written_included c = λ told es p stands.
    ap (λ met. met || is_met_as_read es p (read_as_hexadecimal c.args.span)) (sym c.if-written_included.true ∙ c.written_included.ensures told es p stands)

pub returns : goal.returns
returns c = λ told es p stands.
    c.in_ok-met.ensures told es p stands ∙ ap (λ met. met || is_met_as_read es p (read_as_hexadecimal c.args.span)) (sym c.if-written_included.false ∙ c.written_included.ensures told es p stands)
