-- Laws of this crate's definitions, which its empty public functions prove.
use Rattle.std.specs.Prelude.{◌≡◌, ◌≢◌, ℕ, ◌-◌, ◌<◌, ◌≤◌, ◌↔◌, true, false, List, [], length, None, Some, All}
use Rattle.pmf_event.specs.{declared.event.Event.{Event}, declared.profile.Profile.{Profile}, declared.profile.Profile.TheVariants.{Two}, Span.{Extent, covers_byte}, Line.{line_of_byte}, Interval.{interval_at, is_open}, Persist.{is_checked, is_exposed}, Section.{IsValidEvent}, Exclusion.{is_included}, Transactions.{is_scoped}, Order.{is_ordered, is_unordered, is_certified}, Store.{last_store}}
use Rattle.pmf_image.specs.{Image.{Image, IsAllowed, count_of, floor_of, cut_of, is_in, shows}, declared.certificate.Certificate.{Certificate}, Certificate.{image_of, shows_in}, Contradiction.{Contradicts}, Holds.{PersistHolds, OrderedHolds, ScopeHolds, Holds}}

-- where the interval of each checked byte of the span is closed, the assertion holds
abbrev pub ClosedIntervalsHold : Type 0
ClosedIntervalsHold = (es : List Event) (p : ℕ) (s : Extent) →
    ((b : ℕ) → covers_byte s b ≡ true → is_checked es p b ≡ true → is_open (interval_at es p b) ≡ false) →
    PersistHolds es p s

-- where each pair of checked bytes of the two spans is ordered by the profile, the order assertion holds
abbrev pub OrderedPairsHold : Type 0
OrderedPairsHold = (profile : Profile) (es : List Event) (p : ℕ) (a b : Extent) →
    ((x y : ℕ) → covers_byte a x ≡ true → covers_byte b y ≡ true → is_checked es p x ≡ true → is_checked es p y ≡ true →
    is_ordered profile es p x y ≡ true) → OrderedHolds es p a b

-- an untorn image that is allowed at n, with these cuts
pub record AllowsCuts (es : List Event) (n : ℕ) (cut : ℕ → ℕ) : Type 0 where
  pub image : Image
  pub untorn : image.torn ≡ []
  pub cuts : (line : ℕ) → cut_of es n image line ≡ cut line
  pub allowed : IsAllowed es n image

-- every cut at its floor is allowed, and every cut at its count
abbrev pub EveryPlaceHasImages : Type 0
EveryPlaceHasImages = (es : List Event) (n : ℕ) → AllowsCuts es n (floor_of es n) × AllowsCuts es n (count_of es n)

-- where a checked byte of the span has an open interval, the assertion does not hold
abbrev pub OpenIntervalsDoNotHold : Type 0
OpenIntervalsDoNotHold = (es : List Event) (p : ℕ) (s : Extent) (b : ℕ) →
    p ≤ length es → covers_byte s b ≡ true → is_exposed es p b ≡ true → PersistHolds es p s → ⊥

-- an image that is allowed at n, with this cut at one line, the floor at every other, and nothing torn
pub record AllowsCutAt (es : List Event) (n line cut : ℕ) : Type 0 where
  pub image : Image
  pub untorn : image.torn ≡ []
  pub here : cut_of es n image line ≡ cut
  pub elsewhere : (other : ℕ) → other ≢ line → cut_of es n image other ≡ floor_of es n other
  pub allowed : IsAllowed es n image

-- every cut from the floor to the count is allowed at a line, with every other line at its floor
abbrev pub EachCutIsAllowed : Type 0
EachCutIsAllowed = (es : List Event) (n line cut : ℕ) → floor_of es n line ≤ cut → cut ≤ count_of es n line → AllowsCutAt es n line cut

-- an image that is allowed at n, with this cut at the byte's line, the floor at every other, and this byte
-- alone torn
pub record AllowsTorn (es : List Event) (n b cut : ℕ) : Type 0 where
  pub image : Image
  pub torn : (other : ℕ) → (is_in image.torn other ≡ true) ↔ (other ≡ b)
  pub here : cut_of es n image (line_of_byte b) ≡ cut
  pub elsewhere : (line : ℕ) → line ≢ line_of_byte b → cut_of es n image line ≡ floor_of es n line
  pub allowed : IsAllowed es n image

-- a byte alone may be torn wherever its line has a store after the cut
abbrev pub EachByteMayBeTorn : Type 0
EachByteMayBeTorn = (es : List Event) (n b cut : ℕ) → floor_of es n (line_of_byte b) ≤ cut → cut < count_of es n (line_of_byte b) → AllowsTorn es n b cut

-- the image of each certificate is allowed at its crash place
abbrev pub CertificatesAreAllowed : Type 0
CertificatesAreAllowed = (es : List Event) (c : Certificate) → IsAllowed es c.crash (image_of es c)

-- the certificate of a place, with no full line
abbrev pub at_place : ℕ → Certificate
at_place p = record { crash = p; full_line = None }

-- where a checked byte's interval is open at p, the certificate of p shows less than its last store
abbrev pub OpenIntervalsAreShown : Type 0
OpenIntervalsAreShown = (es : List Event) (p b : ℕ) → is_exposed es p b ≡ true → shows_in es (at_place p) b < last_store es p b

-- the certificate of the last store of byte y, with y's line in full
abbrev pub at_store : List Event → ℕ → ℕ → Certificate
at_store es p y = record { crash = last_store es p y; full_line = Some (line_of_byte y) }

-- of a certified pair, by either profile, the certificate of y's last store shows that store, and not the
-- last store of x
abbrev pub CertifiedPairsAreShown : Type 0
CertifiedPairsAreShown = (profile : Profile) (es : List Event) (p x y : ℕ) → is_certified profile es p x y ≡ true →
    (shows_in es (at_store es p y) y ≡ last_store es p y) × (shows_in es (at_store es p y) x ≢ last_store es p x)

-- what a certificate contradicts does not hold, if its crash is at a place of the list or at the start
abbrev pub ContradictedDoNotHold : Type 0
ContradictedDoNotHold = (es : List Event) (p : ℕ) (c : Certificate) → c.crash ≤ length es → Contradicts es p c → Holds es p → ⊥

-- an order assertion with a certified pair does not hold
abbrev pub CertifiedPairsDoNotHold : Type 0
CertifiedPairsDoNotHold = (profile : Profile) (es : List Event) (p : ℕ) (a b : Extent) (x y : ℕ) →
    covers_byte a x ≡ true → covers_byte b y ≡ true → is_certified profile es p x y ≡ true → OrderedHolds es p a b → ⊥

-- each pair that profile Two leaves unordered is one byte with itself
abbrev pub PairsAreOneByte : List Event → ℕ → Extent → Extent → Type 0
PairsAreOneByte es p a b = (x y : ℕ) → covers_byte a x ≡ true → covers_byte b y ≡ true → is_unordered Two es p x y ≡ true → x ≡ y

-- an order assertion holds exactly where profile Two orders each pair of two different checked bytes
abbrev pub ProfileTwoIsExact : Type 0
ProfileTwoIsExact = (es : List Event) (p : ℕ) (a b : Extent) → OrderedHolds es p a b ↔ PairsAreOneByte es p a b

-- where all spans are valid, a CHECKEND that holds does so for each included byte of its scope, whatever its address
abbrev pub ScopesHoldForAllBytes : Type 0
ScopesHoldForAllBytes = (es : List Event) (p : ℕ) → All IsValidEvent es → ScopeHolds es p →
    (n : ℕ) → p ≤ n → n ≤ length es → (image : Image) → IsAllowed es n image →
    (b : ℕ) → is_scoped es (p - 1) b ≡ true → is_included es p b ≡ true → last_store es p b ≤ shows es n image b
