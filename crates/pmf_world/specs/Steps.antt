-- The world: a farm, and what was gathered at each ledger; and what every step does to it. Defined here.
use Rattle.std.specs.{Prelude.{ℕ, eqb, if◌then◌else◌, List, [], ◌∷◌, ◌++◌, get_or, set, slice_get, replicate, Option, None, Some, Result, Ok, Err}, List.{list_any}}
use Rattle.pmf_board.specs.Machine.{opening}
use Rattle.pmf_world.specs.{declared.step.WorldStep.{WorldStep}, declared.step.WorldAnswer.{WorldAnswer}, declared.step.WorldFault.{WorldFault}, Turns.{FarmState, Turned, take_turn, check_where, send_where, mark_where, lose_where}}
use Rattle.pmf_world.specs.declared.doing.Doing.TheVariants as doing
use Rattle.pmf_world.specs.declared.step.WorldStep.TheVariants as step
use Rattle.pmf_world.specs.declared.step.WorldAnswer.TheVariants as answer
use Rattle.pmf_world.specs.declared.step.WorldFault.TheVariants as fault

-- the farm, and for each ledger the set of the sections gathered there: a list in which only membership counts
pub record WorldState : Type 0 where
  pub farm : FarmState
  pub sets : List (List ℕ)

-- at first nothing was handed out, all workers are idle, there is no message, and nothing was gathered
abbrev pub opening_of : ℕ → ℕ → ℕ → WorldState
opening_of sections workers ledgers = record {
  farm = record { board = opening sections; workers = replicate workers doing.Idle; messages = [] };
  sets = replicate ledgers [];
}

-- what a step comes to: its answer and the world after it, or why it is refused, and then the world is as it was
abbrev pub Stepped : Type 0
Stepped = Result (WorldAnswer × WorldState) WorldFault

-- a worker's turn, as a step of the world
abbrev pub turned : WorldState → Turned → Stepped
turned w (Ok (told, farm)) = Ok (told, record { farm = farm; sets = w.sets })
turned w (Err refused) = Err refused

-- the world where this was gathered at ledger k
abbrev pub with_set : WorldState → ℕ → List ℕ → WorldState
with_set w k gathered = record { farm = w.farm; sets = set w.sets k gathered }

-- a message arrives at ledger k: its section is gathered there, and is a repeat where it was before
abbrev pub arrive_found : WorldState → ℕ → Option ℕ → Option (List ℕ) → Stepped
arrive_found w k None gathered = Err fault.NoSuchMessage
arrive_found w k (Some s) None = Err fault.NoSuchLedger
arrive_found w k (Some s) (Some gathered) = Ok (if list_any (eqb s) gathered then answer.Repeat else answer.Added, with_set w k (s ∷ gathered))

-- what was gathered at one ledger joins what was gathered at ledger k, and stays
abbrev pub join_found : WorldState → ℕ → Option (List ℕ) → Option (List ℕ) → Stepped
join_found w k None other = Err fault.NoSuchLedger
join_found w k (Some own) None = Err fault.NoSuchLedger
join_found w k (Some own) (Some other) = Ok (answer.Joined, with_set w k (own ++ other))

-- what each step comes to
abbrev pub stepped : WorldState → WorldStep → Stepped
stepped w (step.Fresh worker section) = turned w (take_turn 1 w.farm worker section)
stepped w (step.Again worker section) = turned w (take_turn 8 w.farm worker section)
stepped w (step.Check worker) = turned w (check_where w.farm worker (slice_get w.farm.workers worker))
stepped w (step.Send worker) = turned w (send_where w.farm worker (slice_get w.farm.workers worker))
stepped w (step.Mark worker) = turned w (mark_where w.farm worker (slice_get w.farm.workers worker))
stepped w (step.Lose worker) = turned w (lose_where w.farm worker (slice_get w.farm.workers worker))
stepped w (step.Arrive message ledger) = arrive_found w ledger (slice_get w.farm.messages message) (slice_get w.sets ledger)
stepped w (step.Join into from) = join_found w into (slice_get w.sets into) (slice_get w.sets from)

-- the world after what a step came to
abbrev pub world_of : WorldState → Stepped → WorldState
world_of w (Ok (told, after)) = after
world_of w (Err refused) = w

-- the world after some steps, the newest of which comes first
unfoldable pub after : WorldState → List WorldStep → WorldState
after first [] = first
after first (newest ∷ before) = world_of (after first before) (stepped (after first before) newest)

-- the sections gathered at ledger k
abbrev pub set_at : WorldState → ℕ → List ℕ
set_at w k = get_or w.sets k []
