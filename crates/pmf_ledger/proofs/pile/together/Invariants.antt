use Rattle.std.proofs.Common.{◌≡◌, ◌∷◌, ◌++◌, [], List, length}
use Rattle.pmf_event.specs.{declared.profile.Profile.{Profile}, Section.{Trace}}
use Rattle.pmf_ledger.specs.Together.{AreLedgersOf}
use Rattle.pmf_ledger.proofs.pile.together.Given as goal

abbrev pub invariant-loop-full : goal.invariant-loop-full
invariant-loop-full l = record {
  ledgers : (profile : Profile) (set : List Trace) → AreLedgersOf profile set (l.fn.full.items ++ l.fn.last ∷ []) → AreLedgersOf profile set (l.full.items ++ l.joined ∷ []);
  some : l.fn.full.items ≡ [] → l.full.items ≡ [];
}

abbrev pub decreases-loop-full : goal.decreases-loop-full
decreases-loop-full l = length l.full.items
