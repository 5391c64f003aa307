-- Worked examples of what a worker does, computed by the definitions.
use Rattle.std.proofs.Common.{List, [], ◌∷◌, ◌<◌, refl, arith}
use Rattle.pmf_event.specs.{declared.profile.Profile.{Profile}, Section.{Trace}}
use Rattle.pmf_board.specs.{declared.view.View.{View}, Views.{task, view, first_view}}
use Rattle.pmf_farm.specs.Working.{AreInTurn, HasWorked, checked_of}

-- it took section 0 of two and marked it, and was then lost with section 1 in its hand
worked : (sections : List Trace) (profile : Profile) → HasWorked sections profile first_view (view (task 0 1 ∷ task 1 1 ∷ []) (0 ∷ []) [] 65) [] (checked_of sections profile (task 0 1) ∷ []) 1
worked sections profile = record { tasks = task 0 1 ∷ []; rest = task 1 1 ∷ []; took = refl; marked = refl; put = refl; few = omega arith }

-- of three sections worker 1 takes none behind section 0
out_of_turn : (v : View) → AreInTurn 3 1 (task 0 1 ∷ task 1 1 ∷ []) v → ⊥
out_of_turn v turns = let falls : 2 < 0 = turns.rise 0 1 (task 0 1) (omega arith) (omega arith) in omega (arith, falls)
