use Rattle.std.proofs.Common.{◌≤◌, rules}
use Rattle.pmf_stream.proofs.joining.join_text.Goals as goal

pub returns-in-Err-clause-refused : goal.returns-in-Err-clause-refused
returns-in-Err-clause-refused c =
    c.fault_at.ensures.refused c.args.before c.args.text.now c.in-Err.ensures.loads c.in-Err.ensures.memory

pub returns-in-Err-join_two-clause-refused : goal.returns-in-Err-join_two-clause-refused
returns-in-Err-join_two-clause-refused c =
    let later : 1 ≤ c.args.index = search rules in
    c.fault_of_join.ensures.refused c.args.before c.in-Ok.ledger c.args.index c.args.text.now later c.in-Ok.ensures.loads c.in-Err-join_two.ensures.refused
