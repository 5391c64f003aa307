use Rattle.std.proofs.Common.{◌≡◌, ◌+◌, ◌-◌, ◌≤◌, ◌++◌, length, map, take}
use Rattle.std.specs.Vec.{vec_len, vec_capacity}
use Rattle.pmf_event.specs.Packed.{behind}
use Rattle.pmf_event.proofs.events.put_behind.Given as goal

abbrev pub invariant-loop-one : goal.invariant-loop-one
invariant-loop-one l = (l.packed.items ≡ l.fn.packed.items ++ map (behind l.before) (take l.one-index l.more)) × (vec_len l.packed + (length l.more - l.one-index) ≤ vec_capacity l.packed)
