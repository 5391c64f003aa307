use Rattle.std.proofs.Common.{sym, ◌∙◌, ◌-◌, arith}
use Rattle.pmf_shadow.proofs.FrontLemmas.{one_state}
use Rattle.pmf_shadow.proofs.line.state_of.Goals as goal

pub returns-in-None : goal.returns-in-None
returns-in-None c = record {
  each = λ b low high. one_state c.args.runs.now c.at-state.result c.args.first (c.args.end - c.args.first) (sym c.first_where.ensures ∙ c.in-None.is) b low (omega arith);
}
