use Rattle.std.proofs.Common.{◌≡◌, ◌≤◌, take, count_by}
use Rattle.pmf_why.specs.Kinds.{is_one_kind}
use Rattle.pmf_why.proofs.taking.count_kind.Given as goal

abbrev pub invariant-loop-other : goal.invariant-loop-other
invariant-loop-other l = record { few : l.count ≤ l.other-index; counted : l.count ≡ count_by (is_one_kind l.kind) (take l.other-index l.kinds) }
