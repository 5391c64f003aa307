use Rattle.std.proofs.Common.{◌≡◌, ◌-◌, ◌+◌, ◌^◌, ℕ, List, length, false, None, Option, if◌then◌else◌}
use Rattle.std.specs.Io.KnownBytes.{IsAtEnd}
use Rattle.pmf_ledger.specs.RawText.{HasNoFirst, RawBlock}
use Rattle.pmf_merge.specs.RawFeeding.{IsRawFed, rest_of}
use Rattle.pmf_merge.proofs.raw_feed.RawFeed.find.Given as goal

abbrev pub invariant-loop-more : goal.invariant-loop-more
invariant-loop-more g l = record {
  fed : (start : Option (List ℕ)) (told : List RawBlock) → IsRawFed start (g.R.Source.left l.initial.source) told l.initial.self → IsRawFed start (g.R.Source.left l.source) told l.self;
  over : l.more ≡ false → IsAtEnd (g.R.Source.left l.source) × HasNoFirst (rest_of l.self.unread);
  none : l.self.next ≡ None;
  profile : l.self.profile ≡ l.initial.self.profile;
  counted : g.R.Device.failed_calls l.source ≡ g.R.Device.failed_calls l.initial.source;
  room : length l.piece ≡ length l.initial.piece;
}

abbrev pub decreases-loop-more : goal.decreases-loop-more
decreases-loop-more g l = 2 ^ 64 - length (rest_of l.self.unread) + (if l.more then 1 else 0)
