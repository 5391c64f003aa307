use Rattle.std.proofs.Common.{Some}
use Rattle.pmf_lint.{specs.Misread.{misreads}, proofs.MisreadLemmas.{if_decimal}}
use Rattle.pmf_lint.proofs.misread.is_misread_here.Goals as goal

pub returns : goal.returns
returns c = λ told es p stands.
    if_decimal c.args.decimal (misreads es p (Some c.args.event.now)) c.in_ok-misread.misread c.if-not-decimal.false (c.in_ok-misread.ensures told es p stands (c.lacks_bytes.ensures told es p stands))
