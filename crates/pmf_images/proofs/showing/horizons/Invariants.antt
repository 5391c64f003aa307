use Rattle.std.proofs.Common.{◌≡◌, ◌<◌, ℕ, length, get_or}
use Rattle.pmf_images.specs.{declared.showing.Asked.{Asked}, Horizons.{horizon_of}}
use Rattle.pmf_images.proofs.showing.horizons.Given as goal

abbrev pub invariant-loop-index : goal.invariant-loop-index
invariant-loop-index l = record {
  long : length l.horizons.items ≡ l.index;
  each : (k : ℕ) (a : Asked) → k < l.index → get_or l.horizons.items k 0 ≡ horizon_of l.events (get_or l.asked k a);
}
