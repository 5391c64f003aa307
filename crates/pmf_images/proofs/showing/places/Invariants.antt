use Rattle.std.proofs.Common.{◌≡◌, ◌<◌, ℕ, length, get_or}
use Rattle.pmf_images.specs.{declared.showing.Asked.{Asked}, Horizons.{place_of}}
use Rattle.pmf_images.proofs.showing.places.Given as goal

abbrev pub invariant-loop-one : goal.invariant-loop-one
invariant-loop-one l = record {
  long : length l.places.items ≡ l.one-index;
  each : (k : ℕ) (a : Asked) → k < l.one-index → get_or l.places.items k 0 ≡ place_of l.events (get_or l.asked k a);
}
