-- Worked examples of a world of two sections, two workers and two ledgers, stepped by hand, and of schedules, by the definitions alone.
use Rattle.std.proofs.{Common.{◌≡◌, ℕ, true, false, List, [], ◌∷◌, Some, Ok, Err, codes, refl, inl, inr, arith}, lemmas.Grind.{common_steps}}
use Rattle.pmf_board.specs.{declared.entry.Entry.{Entry}, Machine.{entry, untouched}}
use Rattle.pmf_storelog.specs.Numbers.{is_numeral}
use Rattle.pmf_world.specs.{declared.doing.Doing.{Doing}, declared.step.WorldStep.{WorldStep}, Steps.{WorldState, opening_of, stepped, after}, Laws.{IsGathered}, Schedule.{number_of, step_of_one, step_of_two, step_of_line, steps_of_lines, schedule_of}}
use Rattle.pmf_world.specs.declared.step.WorldStep.TheVariants.{Fresh, Again, Check, Send, Mark, Lose, Arrive, Join}
use Rattle.pmf_world.specs.declared.doing.Doing.TheVariants as doing
use Rattle.pmf_world.specs.declared.step.WorldAnswer.TheVariants as answer
use Rattle.pmf_world.specs.declared.step.WorldFault.TheVariants as fault

-- at first; what stands of section 0 and what worker 0 is doing then, the messages, and what was gathered at the two ledgers
abbrev first : WorldState
first = opening_of 2 2 2

abbrev world : Entry → Doing → List ℕ → List (List ℕ) → WorldState
world e d messages sets = record {
  farm = record { board = e ∷ untouched ∷ []; workers = d ∷ doing.Idle ∷ []; messages = messages };
  sets = sets;
}

abbrev nothing : List (List ℕ)
nothing = [] ∷ [] ∷ []

-- section 0 was handed out once, worker 0 does so, and these messages were sent
abbrev once : Doing → List ℕ → WorldState
once d messages = world (entry 1 false) d messages nothing

-- section 0 is done, and its message was sent
abbrev done : List (List ℕ) → WorldState
done sets = world (entry 1 true) doing.Idle (0 ∷ []) sets

turns :
    (first ≡ world untouched doing.Idle [] nothing)
    × (stepped first (Fresh 0 0) ≡ Ok (answer.Task 0 1, once (doing.HasTask 0) []))
    × (stepped (once (doing.HasTask 0) []) (Check 0) ≡ Ok (answer.Checked, once (doing.HasVerdict 0) []))
    × (stepped (once (doing.HasVerdict 0) []) (Send 0) ≡ Ok (answer.Sent 0, once (doing.HasSent 0) (0 ∷ [])))
    × (stepped (once (doing.HasSent 0) (0 ∷ [])) (Mark 0) ≡ Ok (answer.Marked, done nothing))
    × (stepped (once (doing.HasTask 0) []) (Lose 0) ≡ Ok (answer.WorkerLost, once doing.Gone []))
    × (stepped (once doing.Idle []) (Fresh 0 0) ≡ Ok (answer.NoTask, once doing.Idle []))
    × (stepped (once doing.Idle []) (Again 0 0) ≡ Ok (answer.Task 0 2, world (entry 2 false) (doing.HasTask 0) [] nothing))
turns = (refl, refl, refl, refl, refl, refl, refl, refl)

-- the message arrives at ledger 1, and again; ledger 1 is joined into ledger 0
ledgers :
    (stepped (done nothing) (Arrive 0 1) ≡ Ok (answer.Added, done ([] ∷ (0 ∷ []) ∷ [])))
    × (stepped (done ([] ∷ (0 ∷ []) ∷ [])) (Arrive 0 1) ≡ Ok (answer.Repeat, done ([] ∷ (0 ∷ 0 ∷ []) ∷ [])))
    × (stepped (done ([] ∷ (0 ∷ []) ∷ [])) (Join 0 1) ≡ Ok (answer.Joined, done ((0 ∷ []) ∷ (0 ∷ []) ∷ [])))
ledgers = (refl, refl, refl)

refusals :
    (stepped first (Fresh 2 2) ≡ Err fault.NoSuchWorker)  -- this comes before the section
    × (stepped first (Again 0 2) ≡ Err fault.NoSuchSection)
    × (stepped first (Arrive 0 2) ≡ Err fault.NoSuchMessage)  -- this comes before the ledger
    × (stepped first (Join 0 2) ≡ Err fault.NoSuchLedger)
    × (stepped (once doing.Gone []) (Check 0) ≡ Err fault.Gone)
    × (stepped first (Send 0) ≡ Err fault.Misplaced)
    × (stepped (once (doing.HasTask 0) []) (Fresh 0 1) ≡ Err fault.Misplaced)
refusals = (refl, refl, refl, refl, refl, refl, refl)

-- ---- what was gathered

abbrev sent : List WorldStep
sent = Send 0 ∷ Check 0 ∷ Fresh 0 0 ∷ []

abbrev joined : List WorldStep
joined = Join 1 0 ∷ Arrive 0 0 ∷ sent

-- section 0 arrived at ledger 0, which was then joined into ledger 1
gathered : IsGathered first joined 0 0 × IsGathered first joined 1 0
unfolding IsGathered after
gathered = (inl (inr (refl, (refl, refl))), inr (refl, (refl, inr (refl, (refl, refl)))))

-- nothing is gathered before a message arrives
none_sent : (k s : ℕ) → IsGathered first sent k s → ⊥
unfolding IsGathered
none_sent k s g = grind (arith, common_steps)

-- the message brings its own section to the one ledger at which it arrives
one_arrived : (k s : ℕ) → IsGathered first (Arrive 0 0 ∷ sent) k s → (0 ≡ k) × (Some 0 ≡ Some s)
unfolding IsGathered after
one_arrived k s g = elim g [ inl g ↦ absurd (none_sent k s g) | inr arrive ↦ arrive.1 ]

-- section 1, which did not arrive, is gathered nowhere, and at ledger 1 nothing is before the join
not_gathered : ((k : ℕ) → IsGathered first joined k 1 → ⊥) × (IsGathered first (Arrive 0 0 ∷ sent) 1 0 → ⊥)
unfolding IsGathered after
not_gathered = grind (arith, common_steps, one_arrived)

-- ---- schedules

schedules :
    (schedule_of (codes "fresh 0 1\n\ncheck 0\nsend 0") ≡ Ok (Fresh 0 1 ∷ Check 0 ∷ Send 0 ∷ []))  -- an empty line, and no last LF
    × (schedule_of (codes "again 1 007\nmark 1\nlose 0\narrive 12 3\njoin 1 0\n")
    ≡ Ok (Again 1 7 ∷ Mark 1 ∷ Lose 0 ∷ Arrive 12 3 ∷ Join 1 0 ∷ []))
    × (schedule_of [] ≡ Ok [])
    × (schedule_of (codes "check 0\n\nfresh 0\nfresh 0 0 0\n") ≡ Err 3)  -- the first bad step, empty lines counted
    × (schedule_of (codes "check  0\n") ≡ Err 1)  -- two blanks
    × (schedule_of (codes "check 4294967296\n") ≡ Err 1)  -- a number of 33 bits
    × (schedule_of (codes "Check 0\n") ≡ Err 1)
unfolding schedule_of steps_of_lines step_of_line step_of_one step_of_two number_of is_numeral
schedules = (refl, refl, refl, refl, refl, refl, refl)
