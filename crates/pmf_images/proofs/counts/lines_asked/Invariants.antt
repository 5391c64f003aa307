use Rattle.std.proofs.Common.{◌≡◌, ◌<◌, ℕ, length, get_or}
use Rattle.pmf_event.specs.Line.{line_of_byte}
use Rattle.pmf_images.specs.declared.showing.Asked.{Asked}
use Rattle.pmf_images.proofs.counts.lines_asked.Given as goal

abbrev pub invariant-loop-one : goal.invariant-loop-one
invariant-loop-one l = record {
  long : length l.lines.items ≡ l.one-index;
  each : (k d : ℕ) (a : Asked) → k < l.one-index → get_or l.lines.items k d ≡ line_of_byte (get_or l.asked k a).byte;
}
