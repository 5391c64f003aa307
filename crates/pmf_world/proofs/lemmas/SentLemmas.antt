-- Of each section that is done, and of each whose verdict a worker has just sent, a message was sent.
use Rattle.std.proofs.{Common.{◌≡◌, ℕ, true, List, [], ◌∷◌, ◌++◌, set, Some, None, refl, ap, slice_get, Contains, Option, All, rules, arith}, lemmas.List.Elements.{All-replicate, All-set, All-weaker, Contains-append_left, Contains-push}, lemmas.Option.{slice_get_within, get_or_from_slice_get}, lemmas.Grind.{common_steps}}
use Rattle.pmf_board.specs.{declared.entry.Entry.{Entry}, Machine.{untouched, entry_at}}
use Rattle.pmf_world.{specs.declared.doing.Doing.{Doing}, specs.declared.step.WorldStep.{WorldStep}, specs.Turns.{FarmState, mark_where, send_where, take_found}, specs.Steps.{WorldState, after, opening_of, stepped, turned, world_of}, specs.Laws.{DoneWasSent}, proofs.lemmas.GatheredLemmas.{get_or-set_cases, get_or-replicate_default}}
use Rattle.pmf_world.specs.declared.doing.Doing.TheVariants as doing
use Rattle.pmf_world.specs.declared.step.WorldStep.TheVariants as step

-- if it has just sent a verdict, a message of that section is among these
abbrev HasToldTruly : List ℕ → Doing → Type 0
HasToldTruly messages (doing.HasSent s) = Contains messages s
HasToldTruly messages _ = Unit {0}

-- a message was sent of each section that is done, and of each whose verdict a worker has just sent
record IsSent (f : FarmState) : Type 0 where
  pub of_done : (s : ℕ) → (entry_at f.board s).done ≡ true → Contains f.messages s
  pub of_workers : All (HasToldTruly f.messages) f.workers

-- one message more
told_still : (messages : List ℕ) (s : ℕ) (d : Doing) → HasToldTruly messages d → HasToldTruly (messages ++ s ∷ []) d
told_still messages s d told = grind (arith, common_steps, Contains-append_left)

-- after a set to an entry that is done only where a message of its section was sent
done_still : (f : FarmState) (s : ℕ) (e : Entry) → IsSent f → (e.done ≡ true → Contains f.messages s) → (x : ℕ) → (entry_at (set f.board s e) x).done ≡ true → Contains f.messages x
done_still f s e is sent x done = grind (arith, common_steps, get_or-set_cases)

module _ (w : WorldState) (worker : ℕ) (is : IsSent w.farm) where
  IsSent-take : (limit s : ℕ) (found : Option Doing) (section : Option Entry) → slice_get w.farm.board s ≡ section → IsSent (world_of w (turned w (take_found limit w.farm worker s found section))).farm
  IsSent-take limit s found section at = search (rules, done_still)

  IsSent-send : (found : Option Doing) → IsSent (world_of w (turned w (send_where w.farm worker found))).farm
  IsSent-send None = is
  IsSent-send (Some (doing.HasVerdict s)) =
      let messages = w.farm.messages ++ s ∷ [] in
      let told = All-weaker (HasToldTruly w.farm.messages) (HasToldTruly messages) (told_still w.farm.messages s) w.farm.workers is.of_workers in
      record {
        of_done = λ x done. Contains-append_left w.farm.messages (s ∷ []) x (is.of_done x done);
        of_workers = All-set (HasToldTruly messages) w.farm.workers worker (doing.HasSent s) (Contains-push w.farm.messages s) told;
      }
  IsSent-send (Some _) = is

  IsSent-mark : (found : Option Doing) → slice_get w.farm.workers worker ≡ found → IsSent (world_of w (turned w (mark_where w.farm worker found))).farm
  IsSent-mark found at = search (rules, slice_get_within, get_or_from_slice_get, done_still)

step_sent : (w : WorldState) (newest : WorldStep) → IsSent w.farm → IsSent (world_of w (stepped w newest)).farm
step_sent w (step.Fresh worker section) is = IsSent-take w worker is 1 section _ _ refl
step_sent w (step.Again worker section) is = IsSent-take w worker is 8 section _ _ refl
step_sent w (step.Check worker) is = search rules
step_sent w (step.Send worker) is = IsSent-send w worker is _
step_sent w (step.Mark worker) is = IsSent-mark w worker is _ refl
step_sent w (step.Lose worker) is = search rules
step_sent w (step.Arrive message ledger) is = grind (arith, common_steps)
step_sent w (step.Join into from) is = grind (arith, common_steps)

sent_after : (first : WorldState) → IsSent first.farm → (steps : List WorldStep) → IsSent (after first steps).farm
unfolding after
sent_after first is [] = is
sent_after first is (newest ∷ before) = step_sent (after first before) newest (sent_after first is before)

pub done_is_sent : DoneWasSent
done_is_sent sections workers ledgers steps =
    let none_yet : IsSent (opening_of sections workers ledgers).farm = record {
      of_done = λ s done. let not_done = ap (λ (e : Entry). e.done) (get_or-replicate_default sections s untouched) in absurd (cc);
      of_workers = All-replicate (HasToldTruly []) workers doing.Idle tt;
    } in
    (sent_after (opening_of sections workers ledgers) none_yet steps).of_done
