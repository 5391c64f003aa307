use Rattle.std.proofs.Common.{arith, ◌∙◌}
use Rattle.pmf_runs.proofs.runs.RunMap.first_root.Goals as goal

pub returns-clause-states : goal.returns-clause-states
returns-clause-states g c = λ d b.
    c.in_ok-root.ensures.same.states d b ∙ c.plain-2.ensures.same.states d b ∙ c.around-2.ensures.same.states d b ∙ c.in_ok-level.ensures.same.states d b
    ∙ c.plain.ensures.same.states d b ∙ c.around.ensures.same.states d b ∙ c.in_ok-leaf.ensures.states d b

pub returns-clause-joined : goal.returns-clause-joined
returns-clause-joined g c = grind arith
