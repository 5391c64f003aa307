use Rattle.std.proofs.Common.{sym, ◌∙◌}
use Rattle.pmf_cut.proofs.LostLemmas.{knows-unchecked, knows-all, knows-late}
use Rattle.pmf_cut.proofs.lost.Past.may_lose.Goals as goal

pub returns-else-written_included : goal.returns-else-written_included
returns-else-written_included c = λ no.
    knows-unchecked c.args.self.now c.args.shadow.now c.args.head c.args.before c.args.after
    (λ told es p stands. sym (c.written_included.ensures told es p stands) ∙ c.if-written_included.false) (c.has_old-else-written_included.ensures no)

pub returns-then-has_old-2 : goal.returns-then-has_old-2
returns-then-has_old-2 c = λ no.
    knows-late c.args.self.now c.args.shadow.now c.args.head c.args.before c.args.after (c.has_old.ensures c.if-has_old.false) (c.has_told.ensures no)

pub returns-else-has_old-2 : goal.returns-else-has_old-2
returns-else-has_old-2 c = λ no.
    knows-all c.args.self.now c.args.shadow.now c.args.head c.args.before c.args.after (c.has_old-2.ensures no) (c.has_old.ensures c.if-has_old.false)
