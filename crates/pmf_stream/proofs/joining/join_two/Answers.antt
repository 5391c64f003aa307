use Rattle.pmf_stream.proofs.lemmas.TextJoiningLemmas.{IsJoinFaultOf-refused, IsJoinOfTwo-joined}
use Rattle.pmf_stream.proofs.joining.join_two.Goals as goal

pub returns-in-Ok : goal.returns-in-Ok
returns-in-Ok c = record { joined = IsJoinOfTwo-joined c.args.before c.args.after c.in-Ok.joined (λ apart. c.in-Ok.ensures.mismatch.1 apart) c.in-Ok.ensures.unites c.in-Ok.ensures.gathers; refused = tt }

pub returns-clause-refused : goal.returns-clause-refused
returns-clause-refused c = IsJoinFaultOf-refused c.args.before c.args.after c.in-Err.fault c.in-Err.ensures.mismatch c.in-Err.ensures.conflict c.in-Err.ensures.memory
