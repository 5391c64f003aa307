use Rattle.std.proofs.Common.{sym, ◌∙◌, ◌*◌, refl, ap}
use Rattle.pmf_shadow.proofs.{StandsLemmas.{follows-flush}, TotalsLemmas.{unless_some}}
use Rattle.pmf_shadow.proofs.shadow.Shadow.flush.Goals as goal

pub returns-clause-follows : goal.returns-clause-follows
returns-clause-follows c = λ place. let lines = c.lines_of-first in
    follows-flush place c.args.self.now _ c.args.span _ _ (ap (λ k. k * 64) lines.ensures.first) (ap (λ k. k * 64) lines.ensures.end) lines.ensures.valid.not_empty refl c.in_ok-change.ensures.ok

pub invariant_of-self : goal.invariant_of-self
invariant_of-self c = record { counted = unless_some c.change.new.self c.args.self.now.fences c.args.self.now.totals (sym c.is_some.ensures ∙ c.if-is_some.false) }
