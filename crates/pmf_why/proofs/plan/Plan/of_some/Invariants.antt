use Rattle.pmf_why.specs.Plans.{IsPlan}
use Rattle.pmf_why.proofs.plan.Plan.of_some.Given as goal

abbrev pub invariant-loop : goal.invariant-loop
invariant-loop l = IsPlan l.verdict l.plan
