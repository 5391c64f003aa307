-- The numbers of tasks: a task's number is one above the hand-outs that its section had before, and hand-outs never fall.
use Rattle.std.proofs.{Common.{◌≡◌, ℕ, ◌<◌, ◌≤◌, List, [], ◌∷◌, ◌++◌, arith, ◌≢◌, slice_get, Option, All, AllPairs}, lemmas.List.Elements.{All-nil, All-cons, All-weaker}, lemmas.Option.{slice_get_within, get_or_from_slice_get}, lemmas.List.Kept.{AllPairs-cons}, lemmas.Grind.{common_steps}}
use Rattle.pmf_board.specs.{declared.entry.Entry.{Entry}, Machine.{entry_at}}
use Rattle.pmf_world.{specs.declared.doing.Doing.{Doing}, specs.declared.step.WorldStep.{WorldStep}, specs.Turns.{mark_where, take_found}, specs.Steps.{WorldState, Stepped, after, opening_of, stepped, turned, world_of}, specs.Laws.{TasksDiffer, task_in, tasks_in}, proofs.lemmas.GatheredLemmas.{get_or-set_cases}}

abbrev handouts_at : WorldState → ℕ → ℕ
handouts_at w s = (entry_at w.farm.board s).handouts

-- at most one task, whose number is above the hand-outs that its section had, and not above those that it has
IsNext : WorldState → WorldState → List (ℕ × ℕ) → Type 0
IsNext old new [] = Unit {0}
IsNext old new (t ∷ []) = (handouts_at old t.0 < t.1) × (t.1 ≤ handouts_at new t.0)
IsNext old new (t ∷ u ∷ ts) = ⊥

-- hand-outs never fall in a step, and a task of it is the next of its section
record Hands (w : WorldState) (r : Stepped) : Type 0 where
  pub grows : (s : ℕ) → handouts_at w s ≤ handouts_at (world_of w r) s
  pub is_next : IsNext w (world_of w r) (task_in r)

module _ (w : WorldState) (worker : ℕ) where
  Hands-take : (limit s : ℕ) (found : Option Doing) (section : Option Entry) → slice_get w.farm.board s ≡ section → Hands w (turned w (take_found limit w.farm worker s found section))
  unfolding IsNext
  Hands-take limit s found section at = grind (arith, common_steps, get_or_from_slice_get, slice_get_within, get_or-set_cases)

  Hands-mark : (found : Option Doing) → Hands w (turned w (mark_where w.farm worker found))
  unfolding IsNext
  Hands-mark found = grind (arith, common_steps, get_or-set_cases)

step_hands : (w : WorldState) (newest : WorldStep) → Hands w (stepped w newest)
unfolding IsNext
step_hands w newest = grind (arith, common_steps, Hands-take, Hands-mark)

-- the task's number is not above the hand-outs of its section
abbrev IsCounted : WorldState → ℕ × ℕ → Type 0
IsCounted w t = t.1 ≤ handouts_at w t.0

-- no two of these tasks are the same, and each is counted
record IsNumbered (w : WorldState) (tasks : List (ℕ × ℕ)) : Type 0 where
  pub counted : All (IsCounted w) tasks
  pub differ : AllPairs (λ t u. t ≢ u) tasks

IsNumbered-next : (old new : WorldState) (next tasks : List (ℕ × ℕ)) → ((s : ℕ) → handouts_at old s ≤ handouts_at new s) → IsNext old new next → IsNumbered old tasks → IsNumbered new (next ++ tasks)
unfolding IsNext
IsNumbered-next old new [] tasks grows next is = grind (arith, common_steps, All-weaker)
IsNumbered-next old new (t ∷ []) tasks grows next is = grind (arith, common_steps, All-weaker, All-cons, AllPairs-cons)
IsNumbered-next old new (t ∷ u ∷ ts) tasks grows next is = absurd next

numbered_after : (first : WorldState) (steps : List WorldStep) → IsNumbered (after first steps) (tasks_in first steps)
unfolding after tasks_in
numbered_after first [] = record { counted = All-nil (IsCounted first); differ = λ i j d less inside. absurd (omega (arith, inside)) }
numbered_after first (newest ∷ before) =
    let w = after first before in
    let hands = step_hands w newest in
    IsNumbered-next w (world_of w (stepped w newest)) (task_in (stepped w newest)) (tasks_in first before) hands.grows hands.is_next (numbered_after first before)

pub all_differ : TasksDiffer
all_differ sections workers ledgers steps = (numbered_after (opening_of sections workers ledgers) steps).differ
