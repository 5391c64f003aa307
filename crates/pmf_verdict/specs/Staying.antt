-- How long a PASS stays. A law, which an empty public function proves.
use Rattle.std.specs.Prelude.{◌≡◌, ℕ, ◌<◌, ◌≤◌, Bool, true, false, ◌||◌, List}
use Rattle.pmf_event.specs.{declared.event.Event.{Event}, declared.finding.Finding.TheVariants.{PersistPass}, Span.{Extent, covers_byte}, Store.{at, stores}, Exclusion.{marks}, Persist.{persist_finding}}

-- whether the event stores to the byte, excludes it or includes it
unfoldable pub touches : ℕ → Event → Bool
touches b e = stores b e || marks b e

-- no event behind p, up to q, touches a byte of the span
abbrev pub IsUntouched : List Event → ℕ → ℕ → Extent → Type 0
IsUntouched es p q s = (k b : ℕ) → p < k → k ≤ q → covers_byte s b ≡ true → at (touches b) es k ≡ false

-- a persist assertion that passes at p passes as long as no byte of its span is touched: no fence and no write-back makes it fail
abbrev pub PassStays : Type 0
PassStays = (es : List Event) (p q : ℕ) (s : Extent) → p ≤ q → IsUntouched es p q s → persist_finding es p s ≡ PersistPass → persist_finding es q s ≡ PersistPass
