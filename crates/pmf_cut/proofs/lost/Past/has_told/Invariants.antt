use Rattle.std.proofs.Common.{◌-◌, ◌≤◌}
use Rattle.pmf_cut.specs.Lost.{NoneTold}
use Rattle.pmf_cut.proofs.lost.Past.has_told.Given as goal

abbrev pub invariant-loop-first : goal.invariant-loop-first
invariant-loop-first l = (l.first ≤ l.end) × NoneTold l.shadow l.head l.initial.first l.first

abbrev pub decreases-loop-first : goal.decreases-loop-first
decreases-loop-first l = l.end - l.first
