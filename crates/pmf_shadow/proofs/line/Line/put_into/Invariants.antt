use Rattle.std.proofs.Common.{◌≡◌, ℕ, ◌+◌, ◌-◌, ◌*◌, ◌/◌, ◌%◌, ◌<◌, ◌≤◌, get_or, IfSome}
use Rattle.pmf_runs.specs.Runs as behind
use Rattle.pmf_shadow.specs.Words.{HaveState}
use Rattle.pmf_shadow.proofs.line.Line.put_into.Given as goal

abbrev pub invariant-loop-word : goal.invariant-loop-word
invariant-loop-word l = record {
  upto : l.word ≤ 8;
  others : (b : ℕ) → (b / 64 ≡ l.number → ⊥) → behind.state_at l.runs b ≡ behind.state_at l.initial.runs b;
  put : (b : ℕ) → b / 64 ≡ l.number → b % 64 / 8 < l.word → behind.state_at l.runs b ≡ get_or l.self.words (b % 64 / 8) (behind.state_at l.runs b);
  even : IfSome l.even (HaveState (behind.state_at l.runs) (64 * l.number + 8 * l.word) (64 * l.number + 64));
}

abbrev pub decreases-loop-word : goal.decreases-loop-word
decreases-loop-word l = 8 - l.word
