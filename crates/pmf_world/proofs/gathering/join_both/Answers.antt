use Rattle.std.proofs.Common.{rules}
use Rattle.pmf_ledger.specs.{declared.joining.JoinFault.TheVariants.{Conflict}, Joining.{AreRefusedAs}}
use Rattle.pmf_world.proofs.gathering.join_both.Goals as goal

pub unreachable-requires-in-Err-Conflict-default-default : goal.unreachable-requires-in-Err-Conflict-default-default
unreachable-requires-in-Err-Conflict-default-default c =
    let refused : AreRefusedAs c.join.result (Conflict c.in-Err-Conflict-default-default.field-0-0-0) = search rules in
    c.requires.agree _ ((c.join.ensures.conflict c.in-Err-Conflict-default-default.field-0-0-0).0 refused).1.0
