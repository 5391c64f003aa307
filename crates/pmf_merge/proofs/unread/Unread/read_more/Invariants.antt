use Rattle.std.proofs.Common.{◌≡◌, ◌-◌, ◌+◌, ◌++◌, ℕ, List, length, true, if◌then◌else◌}
use Rattle.std.specs.Io.KnownBytes.{Consumes, IsAtEnd}
use Rattle.pmf_merge.specs.RawFeeding.{rest_of}
use Rattle.pmf_merge.proofs.unread.Unread.read_more.Given as goal

abbrev pub invariant-loop-ended : goal.invariant-loop-ended
invariant-loop-ended g l = record {
  read : (read : List ℕ) × (l.bytes.items ≡ rest_of l.initial.self ++ read) × Consumes (g.R.Source.left l.initial.source) (g.R.Source.left l.source) read;
  ended : l.ended ≡ true → IsAtEnd (g.R.Source.left l.source);
  counted : g.R.Device.failed_calls l.source ≡ g.R.Device.failed_calls l.initial.source;
  room : length l.piece ≡ length l.initial.piece;
}

abbrev pub decreases-loop-ended : goal.decreases-loop-ended
decreases-loop-ended g l = l.goal - length l.bytes.items + (if l.ended then 0 else 1)
