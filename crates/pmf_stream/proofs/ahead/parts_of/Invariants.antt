use Rattle.std.proofs.Common.{All}
use Rattle.pmf_storelog.specs.Ahead.{IsAheadOf}
use Rattle.pmf_stream.proofs.ahead.parts_of.Given as goal

abbrev pub invariant-loop : goal.invariant-loop
invariant-loop l = All (IsAheadOf l.piece) l.parts.items
