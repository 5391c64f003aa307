-- What the parts before one know, and the order assertions whose findings a cut may change.
use Rattle.std.specs.Prelude.{◌≡◌, ◌⊎◌, ℕ, ◌<◌, ◌≤◌, Bool, true, false, not, ◌&&◌, nat_le, List, Option, None, Some, is_none}
use Rattle.pmf_event.specs.{declared.event.Event.{Event}, Span.{Extent}, Store.{last_store}, Exclusion.{is_excluded}}
use Rattle.pmf_shadow.specs.{declared.shadow.Shadow.{Shadow}, declared.standing.Standing.{Standing}, Shadow.{StandsFor}}
use Rattle.pmf_runs.specs.Runs.{state_at}
use Rattle.pmf_cut.specs.{declared.lost.Past.{Past}, declared.part.Part.{Part}, Behind.{SameBytes, SamePairs}, Laws.{KnowsPairs}, Parts.{Stands}}

-- a part knows a store of the byte, of which some list has one
abbrev pub KnowsByte : Option Part → ℕ → Type 0
KnowsByte None b = ⊥
KnowsByte (Some part) b = (fs : List Event) × (m : ℕ) × Stands part fs m × (0 < last_store fs m b)

-- a part before this one knows a store of the byte
abbrev pub IsPast : Past → ℕ → Type 0
IsPast past b = (state_at past.bytes b ≡ true) ⊎ KnowsByte past.last b

-- each byte that the whole knows a store of, and the part does not, is one of the past
abbrev pub HasOld : Past → List Event → ℕ → List Event → ℕ → Type 0
HasOld past es n fs m = (b : ℕ) → 0 < last_store es n b → last_store fs m b ≡ 0 → IsPast past b

-- the past has each byte that the first events of the whole store to
abbrev pub HasStored : Past → List Event → ℕ → Type 0
HasStored past es p = (b : ℕ) → 0 < last_store es p b → IsPast past b

-- the new past has the bytes of the old one, and those that the part knows a store of
abbrev pub Adds : Past → Past → Part → Type 0
Adds old new part = (fs : List Event) (m : ℕ) → Stands part fs m → (b : ℕ) → IsPast old b ⊎ (0 < last_store fs m b) → IsPast new b

-- the same of the bytes that were put together; the last part stays
pub record Puts (old new : Past) (part : Part) : Type 0 where
  pub bytes : (fs : List Event) (m : ℕ) → Stands part fs m → (b : ℕ) → (state_at old.bytes b ≡ true) ⊎ (0 < last_store fs m b) → state_at new.bytes b ≡ true
  pub kept : (b : ℕ) → state_at old.bytes b ≡ true → state_at new.bytes b ≡ true
  pub last : new.last ≡ old.last

-- a byte of the past that the list knows no store of
pub record IsOld (past : Past) (fs : List Event) (m b : ℕ) : Type 0 where
  pub member : IsPast past b
  pub unknown : last_store fs m b ≡ 0

-- each such byte, from one up to another, is excluded
abbrev pub NoneOld : Past → Shadow → ℕ → ℕ → Type 0
NoneOld past shadow first end = (fs : List Event) (m : ℕ) → StandsFor shadow (λ k. k) fs m → (b : ℕ) → first ≤ b → b < end → IsOld past fs m b → is_excluded fs m b ≡ true

-- each byte that is not excluded, from one up to another, was not last stored to in a head of so many events
abbrev pub NoneTold : Shadow → ℕ → ℕ → ℕ → Type 0
NoneTold shadow head first end = (fs : List Event) (m : ℕ) → StandsFor shadow (λ k. k) fs m → (b : ℕ) → first ≤ b → b < end → is_excluded fs m b ≡ false → 0 < last_store fs m b → head < last_store fs m b

-- of whatever whole and part the past and the shadow are, where the part has a head of so many events: it knows the pairs
abbrev pub Knows : Past → Shadow → ℕ → Extent → Extent → Type 0
Knows past shadow head before after = (es : List Event) (p n : ℕ) (fs : List Event) (m : ℕ) → SameBytes es n fs m → SamePairs es p n fs head m → HasOld past es n fs m →
    StandsFor shadow (λ k. k) fs m → KnowsPairs es p n fs m before after

-- whether bytes that stand so are known to have no store, and are not excluded
abbrev pub is_unknown : Standing → Bool
is_unknown s = is_none s.last && not s.excluded

-- whether a place is one of the first
abbrev pub is_within : ℕ → Option ℕ → Bool
is_within head None = false
is_within head (Some place) = nat_le place head

-- whether bytes that stand so were last stored to in a head of so many events, and are not excluded
abbrev pub is_told_again : ℕ → Standing → Bool
is_told_again head s = is_within head s.last && not s.excluded
