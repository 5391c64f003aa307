use Rattle.std.proofs.Common.{◌≡◌, take}
use Rattle.pmf_cut.specs.Cutting.{lost_in}
use Rattle.pmf_cut.proofs.cutter.lost_in.Given as goal

abbrev pub invariant-loop-section : goal.invariant-loop-section
invariant-loop-section l = l.lost ≡ 0 → lost_in (take l.section-index l.sections) ≡ 0
