use Rattle.std.proofs.Common.{◌≡◌, ◌<◌, ℕ, length, get_or}
use Rattle.pmf_images.specs.{declared.{showing.Asked.{Asked}, telling.Due.{Due}}, Telling.{due_at}}
use Rattle.pmf_images.proofs.telling.dues_of.Given as goal

abbrev pub invariant-loop-index : goal.invariant-loop-index
invariant-loop-index l = record {
  long : length l.dues.items ≡ l.index;
  each : (k : ℕ) (d : Due) (a : Asked) → k < l.index → get_or l.dues.items k d ≡ due_at l.places l.asked k a;
}
