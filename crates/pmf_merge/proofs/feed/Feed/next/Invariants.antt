use Rattle.std.proofs.Common.{◌≡◌, ◌+◌, ◌-◌, ◌^◌, ◌++◌, ℕ, List, Option, false, if◌then◌else◌}
use Rattle.std.specs.Io.KnownBytes.{IsAtEnd}
use Rattle.pmf_ledger.specs.Loading.{Reading}
use Rattle.pmf_merge.specs.Feeding.{IsFed}
use Rattle.pmf_merge.proofs.feed.Feed.next.Given as goal

abbrev pub invariant-loop-more : goal.invariant-loop-more
invariant-loop-more g l = record {
  fed : (start : Option (List ℕ)) (text : List ℕ) (r : Reading) → IsFed start (g.R.Source.left l.initial.source) l.initial.self text r →
      (rest : List ℕ) × (e : Reading) × IsFed start (g.R.Source.left l.source) l.self (text ++ rest) e × (e.blocks ≡ r.blocks)
      × (l.more ≡ false → IsAtEnd (g.R.Source.left l.source) × (l.self.at ≡ l.self.end));
  counted : g.R.Device.failed_calls l.source ≡ g.R.Device.failed_calls l.initial.source;
}

abbrev pub decreases-loop-more : goal.decreases-loop-more
decreases-loop-more g l = 2 ^ 64 - l.self.total + (if l.more then 1 else 0)
