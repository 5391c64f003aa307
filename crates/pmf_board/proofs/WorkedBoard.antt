-- Worked examples of a board of two sections, the first one handed out and marked by pass p, computed by the definitions alone.
use Rattle.std.proofs.Common.{◌≡◌, zero, suc, true, false, List, [], ◌∷◌, map, Some, None, refl, inl, inr, arith}
use Rattle.pmf_board.specs.{declared.entry.Entry.{Entry}, declared.view.View.{View}, Machine.{entry, untouched, opening, mark, take_fresh, take_again}, Views.{task, sight, view, first_view, took, marked, kept, given, both, times, marks, dones, most_seen}, Rule.{due, entry_of, word_of}, Calls.{PassesOver, round_from}}

abbrev board : List Entry
board = entry 1 true ∷ untouched ∷ []

abbrev p : View
p = marked (took first_view (task 0 1)) 0 1

steps :
    (take_fresh (opening 2) 0 ≡ Some (1, entry 1 false ∷ untouched ∷ []))  -- the first hand-out
    × (mark (entry 1 false ∷ untouched ∷ []) 0 ≡ board)  -- its section is marked
    × (take_again board 0 ≡ None)  -- what is done is not on offer
    × (take_again board 1 ≡ Some (1, entry 1 true ∷ entry 1 false ∷ []))  -- a section that was never handed out
    × (take_fresh (entry 1 false ∷ []) 0 ≡ None)  -- no second one is fresh
    × (take_again (entry 7 false ∷ []) 0 ≡ Some (8, entry 8 false ∷ []))  -- the last hand-out
    × (take_again (entry 8 false ∷ []) 0 ≡ None)  -- there is no ninth
    × (take_again board 2 ≡ None)  -- no such section
    × (map word_of board ≡ 17 ∷ 0 ∷ [])  -- as words
    × (entry_of 24 ≡ entry 8 true)  -- and back
steps = (refl, refl, refl, refl, refl, refl, refl, refl, refl, refl)

counts :
    (p ≡ view (task 0 1 ∷ []) (0 ∷ []) (sight 0 (entry 1 true) ∷ sight 0 (entry 1 false) ∷ []) 65)
    × (times 0 1 p ≡ 1)  -- taken once
    × (times 0 2 p ≡ 0)  -- and no more
    × (marks 0 p ≡ 1)
    × (dones 0 p ≡ 1)  -- one of two sights tells done
    × (most_seen 0 p ≡ 1)
    × (most_seen 1 p ≡ 0)  -- nothing was seen of the other section
    × (both (kept p) (given p) ≡ view p.took p.marked (sight 0 (entry 1 true) ∷ sight 0 (entry 1 false) ∷ p.saw) 65)  -- split and joined again
    × (due board 0 1 ≡ 1)
    × (due board 0 0 ≡ 0)  -- numbers begin with 1
    × (due board 0 2 ≡ 0)  -- and end with the hand-outs
    × (round_from 3 1 0 ≡ 2)  -- upwards and round
counts = (refl, refl, refl, refl, refl, refl, refl, refl, refl, refl, refl, refl)

-- a take that starts at 0 and gives section 1 passes over section 0, which p saw done
passes : PassesOver 1 2 0 1 p
passes zero there before = inl (omega arith)
passes (suc zero) there before = absurd (omega (arith, before))
passes (suc (suc s)) there before = absurd (omega (arith, there))

-- one that starts at 1 and gives section 0 would pass over section 1, of which p saw nothing
passes_none : PassesOver 1 2 1 0 p → ⊥
passes_none over = elim (over 1 (omega arith) (omega arith)) [ inl done ↦ omega (arith, done) | inr handed ↦ omega (arith, handed) ]
