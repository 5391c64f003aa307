use Rattle.std.proofs.Common.{sym, ◌∙◌}
use Rattle.pmf_why.proofs.{MeetLemmas.{met_one, met_without, not_met}}
use Rattle.pmf_why.proofs.taking.Telling.meet_row.Goals as goal

pub returns-then-not-is_asked-clause-rows : goal.returns-then-not-is_asked-clause-rows
returns-then-not-is_asked-clause-rows c = λ asked before has. not_met asked before c.args.self.now _ c.args.row.now has (sym c.is_asked.ensures ∙ c.if-not-is_asked.true)

pub returns-in_default-clause-rows : goal.returns-in_default-clause-rows
returns-in_default-clause-rows c = λ asked before has. met_without asked before c.args.self.now _ c.args.row.now has (sym c.in_default.is ∙ c.requires.cause)

pub returns-clause-rows : goal.returns-clause-rows
returns-clause-rows c = λ asked before has. met_one asked before c.args.self.now _ c.args.row.now has (sym c.is_asked.ensures ∙ c.if-not-is_asked.false) c.in-Some.cause (sym c.in-Some.is ∙ c.requires.cause) c.take_row.result _ (c.take_row.ensures.rows asked before has)
