use Rattle.std.proofs.Common.{true, ◌≡◌, ◌-◌, ◌≤◌, ◌++◌, ◌∷◌, [], ℕ, List, length}
use Rattle.pmf_storelog.specs.Separators.{parts_of, ended_parts, records_of}
use Rattle.pmf_cut.specs.Cutting.{Cuts, CutsTo}
use Rattle.pmf_cut.proofs.cutter.Cutter.copy.Given as goal

abbrev pub invariant-loop-len : goal.invariant-loop-len
invariant-loop-len l = (l.start ≤ length l.text)
    × ((step : ℕ) (done : List ℕ) (handed : ℕ → List ℕ) → parts_of done ≡ ended_parts done ++ [] ∷ [] → Cuts true step (records_of done) handed l.initial.self → CutsTo step done l.text handed l.self l.start)

abbrev pub decreases-loop-len : goal.decreases-loop-len
decreases-loop-len l = length l.text - l.start
