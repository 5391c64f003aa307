use Rattle.std.proofs.Common.{◌≡◌, ◌++◌, map, get_or}
use Rattle.pmf_event.specs.Section.{Trace}
use Rattle.pmf_storelog.proofs.sections.in_order.Given as goal

abbrev pub invariant-loop-place : goal.invariant-loop-place
invariant-loop-place l = (d : Trace) →
    map (λ a. a.value) l.list.items ++ map (λ e. get_or (map (λ a. a.value) l.shared) e.1 d) l.place-iterator ≡ map (λ e. get_or (map (λ a. a.value) l.shared) e.1 d) l.initial.place-iterator
