-- What a worker did on a board: the tasks that it took, and the verdicts that it put. Defined here.
use Rattle.std.specs.Prelude.{◌≡◌, ℕ, ◌<◌, ◌≤◌, ◌%◌, Bool, if◌then◌else◌, List, [], ◌∷◌, ◌++◌, length, map, All, AllPairs, Result, Ok, Err}
use Rattle.pmf_event.specs.{declared.profile.Profile.{Profile}, Section.{Trace}}
use Rattle.pmf_verdict.specs.Checked.{Checked, checked_by}
use Rattle.pmf_ledger.specs.Repeats.{section_at}
use Rattle.pmf_board.specs.{Calls.{Marks, PassesOver, PassesOverAll, round_from}, declared.task.Task.{Task}, declared.view.View.{View}, Views.{HasTaken, NeverFalls}}
use Rattle.pmf_farm.specs.declared.{gate.Turn.{Turn}, working.Ended.{Ended}}
use Rattle.pmf_farm.specs.declared.gate.Turn.TheVariants as turn
use Rattle.pmf_farm.specs.declared.working.Ended.TheVariants as ended

-- the section of the task, checked by the profile
abbrev pub checked_of : List Trace → Profile → Task → Checked
checked_of sections profile task = checked_by profile (section_at sections task.section)

-- the worker took some tasks and at most so many more; it marked the sections of the tasks, in order, and put their verdicts, in the same order, and nothing else
pub record HasWorked (sections : List Trace) (profile : Profile) (old new : View) (before after : List Checked) (most : ℕ) : Type 0 where
  pub tasks : List Task
  pub rest : List Task
  pub took : new.took ≡ old.took ++ tasks ++ rest
  pub marked : new.marked ≡ old.marked ++ map (λ t. t.section) tasks
  pub put : after ≡ before ++ map (checked_of sections profile) tasks
  pub few : length rest ≤ most

-- how many tasks a worker may leave: none where it ended with all, else the one in its hand
abbrev pub most_left : {E : Type 0} → Result Ended E → ℕ
most_left (Ok ended.All) = 0
most_left (Ok ended.Lost) = 1
most_left (Err fault) = 1

-- below how many hand-outs a section is taken: of one that was never handed out, and again
abbrev pub limit_of : Bool → ℕ
limit_of again = if again then 8 else 1

-- each task is its section's first hand-out; the sections come in their order from the start on, upwards and round, and each that was passed over was seen handed out or done
pub record AreInTurn (sections start : ℕ) (tasks : List Task) (view : View) : Type 0 where
  pub first : All (λ t. t.number ≡ 1) tasks
  pub rise : AllPairs (λ t u. round_from sections (start % sections) t.section < round_from sections (start % sections) u.section) tasks
  pub passed : All (λ t. PassesOver 1 sections start t.section view) tasks

-- the worker took these tasks more
abbrev pub Took : View → List Task → View → Type 0
Took old tasks new = new.took ≡ old.took ++ tasks

-- the worker first took sections in turn, from the start on, and then none but such as had been handed out before
pub record TakesInTurn (sections start : ℕ) (old new : View) : Type 0 where
  pub fresh : List Task
  pub again : List Task
  pub took : Took old (fresh ++ again) new
  pub in_turn : AreInTurn sections start fresh new
  pub later : All (λ t. 2 ≤ t.number) again

-- the worker took sections in turn, from the start on, and nothing else
pub record TakesFresh (sections start : ℕ) (old new : View) : Type 0 where
  pub tasks : List Task
  pub took : Took old tasks new
  pub in_turn : AreInTurn sections start tasks new

-- the worker took none but such as had been handed out before; what it had seen stays so
pub record TakesLater (old new : View) : Type 0 where
  pub tasks : List Task
  pub took : Took old tasks new
  pub later : All (λ (t : Task). 2 ≤ t.number) tasks
  pub never_falls : NeverFalls old new

-- the same, where each was seen handed out or done before
abbrev pub TakesAgain : ℕ → View → View → Type 0
TakesAgain sections old new = PassesOverAll 1 sections old → TakesLater old new

-- over a section that the worker took, its gate may answer that it is lost
abbrev pub IsLost : (ℕ → ℕ → Turn → Type 0) → ℕ → View → Type 0
IsLost answers worker view = (task : Task) × HasTaken view task × answers worker task.section turn.Lost

-- the task's section was marked, and its verdict put
pub record Serves (sections : List Trace) (profile : Profile) (task : Task) (old new : View) (before after : List Checked) : Type 0 where
  pub marks : Marks old task.section new
  pub put : after ≡ before ++ checked_of sections profile task ∷ []
