use Rattle.std.proofs.Common.{subst}
use Rattle.pmf_cut.{specs.{declared.part.Part.{Part}, Lost.{Knows}}, proofs.OrderLemmas.{knows-first, knows-more}}
use Rattle.pmf_cut.proofs.section.Cutting.tell_lost.Goals as goal

pub returns-then-is_empty-clause-lost : goal.returns-then-is_empty-clause-lost
returns-then-is_empty-clause-lost c = λ none. (none, knows-first c.args.self.now c.args.before c.args.after (c.is_empty.ensures c.if-is_empty.true))

pub returns-else-may_lose-clause-lost : goal.returns-else-may_lose-clause-lost
returns-else-may_lose-clause-lost c = λ none. (
  none,
  knows-more c.args.self.now c.catch_up.new.self c.args.before c.args.after c.in_ok-catch_up.ensures.stays c.in_ok-catch_up.ensures.none
      (subst (λ (part : Part). Knows c.args.self.now.past part.shadow c.args.self.now.head c.args.before c.args.after) c.part.ensures (c.may_lose.ensures c.if-may_lose.false)),
)
