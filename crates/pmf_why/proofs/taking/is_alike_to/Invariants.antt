use Rattle.std.{proofs.Common.{◌≡◌, take}, specs.List.{list_any}}
use Rattle.pmf_why.specs.{declared.taking.Told.{Told}, Kinds.{is_one_kind}}
use Rattle.pmf_why.proofs.taking.is_alike_to.Given as goal

abbrev pub invariant-loop-one : goal.invariant-loop-one
invariant-loop-one l = l.met ≡ list_any (λ (t : Told). is_one_kind t.kind l.kind) (take l.one-index l.told)
