use Rattle.std.proofs.Common.{sym, ◌∙◌, arith}
use Rattle.pmf_shadow.proofs.StretchLemmas.{stretch-bounds}
use Rattle.pmf_shadow.proofs.shadow.Shadow.stretch_end.Goals as goal

pub overflow_add-result : goal.overflow_add-result
overflow_add-result g c =
    let bounds = stretch-bounds _ c.args.first c.args.end c.in-Some.byte c.requires.ordered (sym c.first_where.ensures ∙ c.in-Some.is) in
    let within = bounds.1 in let room = c.requires.room in omega arith
