use Rattle.std.proofs.Common.{◌≡◌, rules}
use Rattle.pmf_cause.proofs.RowOrderLemmas.{in_order}
use Rattle.pmf_cause.proofs.walk.causes.Goals as goal

pub causes_of-requires-clause-order : goal.causes_of-requires-clause-order
causes_of-requires-clause-order c =
    let same : c.events.result.now ≡ c.args.verdict.now.section.events = search rules in
    in_order c.rows.result.now c.events.result.now c.args.verdict.now.profile c.args.verdict.now.section.events same c.rows.ensures.value
