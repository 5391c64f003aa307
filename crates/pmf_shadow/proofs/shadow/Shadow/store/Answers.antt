use Rattle.std.proofs.Common.{sym, ◌∙◌, refl}
use Rattle.pmf_shadow.proofs.{StandsLemmas.{follows-store}, TotalsLemmas.{unless_some}}
use Rattle.pmf_shadow.proofs.shadow.Shadow.store.Goals as goal

pub returns-clause-follows : goal.returns-clause-follows
returns-clause-follows c =
    follows-store c.args.place c.args.self.now _ c.args.span c.first.result c.end.result c.first.ensures.value c.end.ensures.value c.first.ensures.valid.not_empty refl c.in_ok-change.ensures.ok

pub invariant_of-self : goal.invariant_of-self
invariant_of-self c = record { counted = unless_some c.change.new.self c.args.self.now.fences c.args.self.now.totals (sym c.is_some.ensures ∙ c.if-is_some.false) }
