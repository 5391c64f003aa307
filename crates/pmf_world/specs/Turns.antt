-- A farm as a value, and what each turn of a worker does to it: the board machine, with what every worker is doing and
-- the messages that were sent. Sections, workers and messages are told by their numbers, from 0. Defined here.
use Rattle.std.specs.Prelude.{ℕ, List, [], ◌∷◌, ◌++◌, length, set, slice_get, Option, None, Some, Result, Ok, Err}
use Rattle.pmf_board.specs.{declared.entry.Entry.{Entry}, Machine.{mark, take_below}}
use Rattle.pmf_world.specs.declared.{doing.Doing.{Doing}, step.WorldAnswer.{WorldAnswer}, step.WorldFault.{WorldFault}}
use Rattle.pmf_world.specs.declared.doing.Doing.TheVariants as doing
use Rattle.pmf_world.specs.declared.step.WorldAnswer.TheVariants as answer
use Rattle.pmf_world.specs.declared.step.WorldFault.TheVariants as fault

-- what stands of each section, what each worker is doing, and of which section each message is that was ever sent
pub record FarmState : Type 0 where
  pub board : List Entry
  pub workers : List Doing
  pub messages : List ℕ

-- what a turn comes to: its answer and the farm after it, or why it is refused, and then the farm is as it was
abbrev pub Turned : Type 0
Turned = Result (WorldAnswer × FarmState) WorldFault

-- the farm where worker w does something else
abbrev pub with_worker : FarmState → ℕ → Doing → FarmState
with_worker f w d = record { board = f.board; workers = set f.workers w d; messages = f.messages }

-- the take by worker w of section s, from what the board gives: a task, with its number, or none
abbrev pub taken_by : FarmState → ℕ → ℕ → Option (ℕ × List Entry) → WorldAnswer × FarmState
taken_by f w s None = (answer.NoTask, f)
taken_by f w s (Some (number, board)) = (answer.Task s number, record { board = board; workers = set f.workers w (doing.HasTask s); messages = f.messages })

-- a take, by what the worker is doing: it has to be idle
abbrev pub take_where : ℕ → FarmState → ℕ → ℕ → Doing → Turned
take_where limit f w s doing.Idle = Ok (taken_by f w s (take_below limit f.board s))
take_where limit f w s doing.Gone = Err fault.Gone
take_where limit f w s _ = Err fault.Misplaced

-- a take, by the worker and the section that there are
abbrev pub take_found : ℕ → FarmState → ℕ → ℕ → Option Doing → Option Entry → Turned
take_found limit f w s None section = Err fault.NoSuchWorker
take_found limit f w s (Some d) None = Err fault.NoSuchSection
take_found limit f w s (Some d) (Some e) = take_where limit f w s d

-- worker w takes section s, if it was handed out fewer times than the limit: once for a fresh one, 8 times again
abbrev pub take_turn : ℕ → FarmState → ℕ → ℕ → Turned
take_turn limit f w s = take_found limit f w s (slice_get f.workers w) (slice_get f.board s)

-- worker w checks its task
abbrev pub check_where : FarmState → ℕ → Option Doing → Turned
check_where f w None = Err fault.NoSuchWorker
check_where f w (Some (doing.HasTask s)) = Ok (answer.Checked, with_worker f w (doing.HasVerdict s))
check_where f w (Some doing.Gone) = Err fault.Gone
check_where f w (Some _) = Err fault.Misplaced

-- worker w sends its verdict: the message joins those that were sent, for ever
abbrev pub send_where : FarmState → ℕ → Option Doing → Turned
send_where f w None = Err fault.NoSuchWorker
send_where f w (Some (doing.HasVerdict s)) =
    Ok (answer.Sent (length f.messages), record { board = f.board; workers = set f.workers w (doing.HasSent s); messages = f.messages ++ s ∷ [] })
send_where f w (Some doing.Gone) = Err fault.Gone
send_where f w (Some _) = Err fault.Misplaced

-- worker w marks the section whose verdict it sent, and is idle again
abbrev pub mark_where : FarmState → ℕ → Option Doing → Turned
mark_where f w None = Err fault.NoSuchWorker
mark_where f w (Some (doing.HasSent s)) = Ok (answer.Marked, record { board = mark f.board s; workers = set f.workers w doing.Idle; messages = f.messages })
mark_where f w (Some doing.Gone) = Err fault.Gone
mark_where f w (Some _) = Err fault.Misplaced

-- worker w is lost, for good
abbrev pub lose_where : FarmState → ℕ → Option Doing → Turned
lose_where f w None = Err fault.NoSuchWorker
lose_where f w (Some doing.Gone) = Err fault.Gone
lose_where f w (Some _) = Ok (answer.WorkerLost, with_worker f w doing.Gone)
