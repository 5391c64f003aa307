-- The lines of which something is asked, as sets. No public clause cites this.
use Rattle.std.specs.Prelude.{◌≡◌, ℕ, Bool, true}
use Rattle.pmf_event.specs.{declared.finding.Finding.{Finding}, Line.{line_of_byte}}
use Rattle.pmf_event.specs.declared.finding.Finding.TheVariants as finding
use Rattle.pmf_runs.specs.{declared.members.Members.{Members}, declared.runs.RunMap.{RunMap}, contracts.members.BoolState.TheImpl.{ghosts}, Runs.{state_at}}
use Rattle.pmf_cause.specs.declared.watch.Watch.{Watch}

-- whether the byte's line is in the set
unfoldable pub has_line : RunMap Bool Members ghosts → ℕ → Bool
has_line lines b = state_at lines (line_of_byte b)

-- what the cause of a finding asks for is in the sets
unfoldable pub Asks : Watch → Finding → Type 0
Asks watch (finding.PersistFail byte) = has_line watch.stored byte ≡ true
Asks watch (finding.CheckFail byte) = has_line watch.stored byte ≡ true
Asks watch (finding.OrderedFail byte after crash) = (has_line watch.stored byte ≡ true) × (has_line watch.stored after ≡ true)
Asks watch (finding.OrderedSameLine byte after) = (has_line watch.stored byte ≡ true) × (has_line watch.stored after ≡ true)
Asks watch (finding.FlushDoubled line lines) = has_line watch.flushed line ≡ true
Asks watch (finding.FlushNeedless line lines) = has_line watch.flushed line ≡ true
Asks watch (finding.DupLog byte) = has_line watch.added byte ≡ true
Asks watch _ = Unit {0}

-- what was in the sets still is
pub record Widens (old new : Watch) : Type 0 where
  pub stored : (b : ℕ) → has_line old.stored b ≡ true → has_line new.stored b ≡ true
  pub flushed : (b : ℕ) → has_line old.flushed b ≡ true → has_line new.flushed b ≡ true
  pub added : (b : ℕ) → has_line old.added b ≡ true → has_line new.added b ≡ true
