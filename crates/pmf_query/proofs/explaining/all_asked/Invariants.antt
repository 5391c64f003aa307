use Rattle.std.proofs.Common.{◌≡◌, take, flat_map}
use Rattle.pmf_query.specs.Asking.{asked_of}
use Rattle.pmf_query.proofs.explaining.all_asked.Given as goal

abbrev pub invariant-loop-row : goal.invariant-loop-row
invariant-loop-row l = l.asked.items ≡ flat_map asked_of (take l.row-index l.rows)
