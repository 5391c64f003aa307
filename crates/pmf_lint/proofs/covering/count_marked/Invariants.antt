use Rattle.std.proofs.Common.{◌≡◌, ◌≤◌, ℕ, Bool}
use Rattle.pmf_event.specs.Places.{count}
use Rattle.pmf_lint.specs.Marks.{Marks}
use Rattle.pmf_lint.proofs.covering.count_marked.Given as goal

abbrev pub invariant-loop-marked : goal.invariant-loop-marked
invariant-loop-marked l = record {
  few : l.count ≤ l.marked-index;
  counted : (test : ℕ → Bool) (n : ℕ) → Marks test n l.marks → l.count ≡ count test l.marked-index;
}
