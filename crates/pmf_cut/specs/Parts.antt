-- What a part of a section stands for. Defined here.
use Rattle.std.specs.Prelude.{◌≡◌, ℕ, suc, ◌+◌, ◌-◌, ◌<◌, ◌≤◌, true, false, List, ◌++◌, length, drop, slice_get, Some}
use Rattle.pmf_event.specs.{declared.event.Event.{Event}, declared.span.TheConstants.{ADDRESS_LIMIT}, Store.{event_at, last_store}, Exclusion.{is_excluded}, LineBytes.{is_undurable}, Transactions.{depth_at, in_scope}}
use Rattle.pmf_shadow.specs.Shadow.{StandsFor}
use Rattle.pmf_cut.specs.{declared.part.Part.{Part}, Alike.{IsAlike, IsOutside, IsCut}, Behind.{IsBehind}}

-- no byte from the limit of addresses on was stored to, or is excluded
abbrev pub LiesLow : List Event → ℕ → Type 0
LiesLow fs m = (b : ℕ) → ADDRESS_LIMIT ≤ b → (last_store fs m b ≡ 0) × (is_excluded fs m b ≡ false)

-- the part stands for the first m events of a list
pub record Stands (part : Part) (fs : List Event) (m : ℕ) : Type 0 where
  pub shadow : StandsFor part.shadow (λ k. k) fs m
  pub events : part.events ≡ m
  pub depth : part.depth ≡ depth_at fs m
  pub scope : part.is_scoped ≡ in_scope fs m
  pub low : LiesLow fs m

-- of each list that the old part stood for the new one stands for one event more, where that is this one
abbrev pub Follows : Part → Part → Event → Type 0
Follows old new e = (fs : List Event) (m : ℕ) → event_at fs (suc m) ≡ Some e → Stands old fs m → Stands new fs (suc m)

-- the list begins with these events
abbrev pub BeginsWith : List Event → List Event → Type 0
BeginsWith gs head = (k : ℕ) → k < length head → event_at gs (suc k) ≡ slice_get head k

-- the new part stands for each list that begins with this head; and the head is like whatever the old one stood for, and tells of
-- undurable bytes alone
pub record Renews (old new : Part) (head : List Event) : Type 0 where
  pub stands : (gs : List Event) → BeginsWith gs head → Stands new gs (length head)
  pub alike : (fs : List Event) (m : ℕ) (gs : List Event) → Stands old fs m → BeginsWith gs head → IsAlike fs m gs (length head)
  pub fresh : (fs : List Event) (m : ℕ) (gs : List Event) → Stands old fs m → BeginsWith gs head → (b : ℕ) → 0 < last_store gs (length head) b → is_undurable gs (length head) b ≡ true
  pub outside : (gs : List Event) → BeginsWith gs head → IsOutside gs (length head)

-- the events of a part that begins with this head behind the first p events of the whole
abbrev pub part_of : List Event → ℕ → List Event → List Event
part_of es p head = head ++ drop p es

-- the part is that of the whole from its cut at p on, with this head, when n events of the whole have happened
pub record IsPartOf (part : Part) (es : List Event) (p : ℕ) (head : List Event) (n : ℕ) : Type 0 where
  pub cut : IsCut es p (part_of es p head) (length head)
  pub within : p ≤ n
  pub behind : IsBehind es p n (part_of es p head) (length head) (length head + (n - p))
  pub stands : Stands part (part_of es p head) (length head + (n - p))

-- of each whole that the old part is one of the new one is, when this event has happened, too
abbrev pub GoesOnWith : Part → Part → Event → Type 0
GoesOnWith old new e = (es : List Event) (p : ℕ) (head : List Event) (n : ℕ) → event_at es (suc n) ≡ Some e → IsPartOf old es p head n → IsPartOf new es p head (suc n)

-- of each whole that the old part is one of the new one is the part from here on, with this head
abbrev pub BeginsAt : Part → Part → List Event → Type 0
BeginsAt old new head = (es : List Event) (p : ℕ) (before : List Event) (n : ℕ) → IsPartOf old es p before n → IsPartOf new es n head n
