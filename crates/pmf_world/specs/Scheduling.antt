-- Why a schedule is not read. Defined here.
use Rattle.std.specs.Prelude.{◌≡◌, ℕ, List, Err}
use Rattle.pmf_world.specs.{declared.schedule.ScheduleFault.{ScheduleFault}, declared.schedule.ScheduleFault.TheVariants.{BadLine, OutOfMemory}, Schedule.{TellsSome, schedule_of}}

-- the first text line that is neither empty nor a step has this number; memory is wanted where some steps are told
abbrev pub IsBadSchedule : List ℕ → ScheduleFault → Type 0
IsBadSchedule text (BadLine line) = schedule_of text ≡ Err line
IsBadSchedule text OutOfMemory = TellsSome text
