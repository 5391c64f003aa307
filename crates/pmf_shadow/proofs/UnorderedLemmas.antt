-- What is kept of two bytes says whether they are unordered, and whether the pair is certified; and the
-- walks that the shadow makes find the least pair.
use Rattle.std.proofs.{Common.{◌≡◌, ℕ, ◌+◌, ◌-◌, ◌<◌, ◌≤◌, Bool, true, false, not, ◌&&◌, nat_lt, List, refl, sym, ◌∙◌, ap, subst, arith, inl, inr, ◌||◌, Option, Some, None, le-leb, le-ltb, lt-ltb, ne_eqb}, lemmas.Bool.{cases_lt, cases_eq, and_parts, ltb-true}, lemmas.Bool.Decides.{Decides-eqb}, Math.Bool.{and-false, or-true, and-true}}
use Rattle.pmf_event.{proofs.LeastPairLemmas.{least_pair-by, least_pair-none}, specs.declared.event.Event.{Event}, specs.declared.event.Event.TheVariants.{Store}, specs.declared.profile.Profile.{Profile}, specs.declared.profile.Profile.TheVariants.{One, Two}, specs.Span.{Extent}, specs.Line.{line_of_byte}, specs.Places.{least, count}, specs.Ranges.{first_byte}, specs.Store.{event_at, passes, at, stores, is_fence, last, last_store, epoch_of}, specs.WriteBack.{write_back_epoch}, specs.Interval.{writes_back, first_write_back, interval_at}, specs.Persist.{is_checked}, specs.Order.{precedes, share_line, is_stored_before, is_ordered, is_unordered, is_certified, with_partner, least_pair}, proofs.PlacesLemmas.{greatest-passes, least-passes, count-mono}, proofs.RangeLemmas.{none-passes, first_from-same}, proofs.WriteBackLemmas.{last-bound, epoch_unless-place}}
use Rattle.pmf_shadow.{specs.declared.byte.ByteState.{ByteState}, specs.declared.byte.Stored.{Stored}, specs.declared.shadow.Shadow.{Shadow}, specs.States.{stored_of, checked_store, holds_of, any_store, is_late, late_for, is_before, opens_in, stored_by, comes_after, has_one_by, opening_of, place_of}, specs.Pairs.{kept, both_hold, by_epoch, by_place, by_epochs, by_lines, by_line, on_line, off_line, IsLeastValue}, specs.Shadow.{stored_at, closing, StandsFor}, specs.Told.{KeepsOrder}, proofs.PairLemmas.{both_hold-right, late-monotone, no_pairs-by_epochs, has_partner-by_epochs, partner-by_epochs, no_pairs-by_lines, has_partner-by_lines, partner-by_lines, by_lines-on, by_lines-off, by_line-on, by_line-off, on_line-on}, proofs.StandsLemmas.{stands-bytes}, proofs.QuestionLemmas.{IsWritten, written-from_stored, checked-is, interval_at-is, interval_of-some, closes-is}}
use Rattle.pmf_shadow.specs.Bytes.{state_at}

-- ---- what is kept of a checked byte

-- what the events say of a byte of which this is kept
pub record IsKept (told : ℕ → ℕ) (es : List Event) (p x : ℕ) (k : Stored) : Type 0 where
  pub checked : is_checked es p x ≡ true
  pub written : IsWritten told es p x k
  pub interval : interval_at es p x ≡ Some (record { last = last_store es p x; opens = k.opens; closes = closing (count (at is_fence es) p) k.written_back })

store-of_checked : (s : ByteState) (k : Stored) → checked_store s ≡ Some k → stored_of s ≡ Some k
store-of_checked s k is = grind arith

module _ (shadow : Shadow) (told : ℕ → ℕ) (es : List Event) (p : ℕ) (stands : StandsFor shadow told es p) where
  checked-kept : (x : ℕ) → is_checked es p x ≡ holds_of any_store (kept shadow.bytes x)
  unfolding kept
  checked-kept x = checked-is told es p x (state_at shadow.bytes x) (stands-bytes shadow told es p stands x)

  stored-kept : (x : ℕ) (k : Stored) → kept shadow.bytes x ≡ Some k → stored_at told es p x ≡ Some k
  unfolding kept
  stored-kept x k is = sym (stands.stored x) ∙ store-of_checked (state_at shadow.bytes x) k is

  pub kept-some : (x : ℕ) (k : Stored) → kept shadow.bytes x ≡ Some k → IsKept told es p x k
  kept-some x k is = grind (arith, stored-kept, checked-kept, written-from_stored, interval_at-is, interval_of-some, closes-is)

  unchecked-none : (x : ℕ) → kept shadow.bytes x ≡ None → is_checked es p x ≡ false
  unchecked-none x is = checked-kept x ∙ ap (holds_of any_store) is

-- ---- epochs do not fall

epoch-mono : (es : List Event) (i j : ℕ) → i ≤ j → epoch_of es i ≤ epoch_of es j
unfolding epoch_of
epoch-mono es i j low = count-mono (at is_fence es) (i - 1) (j - 1) (omega arith)

epoch-bound : (es : List Event) (i p : ℕ) → i ≤ p → epoch_of es i ≤ count (at is_fence es) p
unfolding epoch_of
epoch-bound es i p low = count-mono (at is_fence es) (i - 1) p (omega arith)

-- a write-back lies in no epoch before that of the store
own-late : (es : List Event) (p x : ℕ) (o : Option ℕ) → write_back_epoch (stores x) (line_of_byte x) es p ≡ o → is_late (epoch_of es (last_store es p x)) o ≡ true
unfolding write_back_epoch first_write_back writes_back
own-late es p x o h1 = grind (arith, epoch_unless-place, and_parts, least-passes, ltb-true, epoch-mono, le-leb)

at_most-from_before : (ties : Bool) (i j : ℕ) → is_before ties i j ≡ true → i ≤ j
at_most-from_before ties i j is = grind arith

-- ---- the order of the places that were told

-- the last store of a byte that is written
passes-store : (b : ℕ) (o : Option Event) → passes (stores b) o ≡ true → (s : Extent) × (o ≡ Some (Store s))
unfolding stores
passes-store b o is = grind arith

store-at : (es : List Event) (p b : ℕ) → 0 < last_store es p b → (s : Extent) × (event_at es (last_store es p b) ≡ Some (Store s))
unfolding at last
store-at es p b some = passes-store b (event_at es (last_store es p b)) (greatest-passes (at (stores b) es) p some)

module _ (told : ℕ → ℕ) (es : List Event) (p : ℕ) (order : KeepsOrder told es p) (x y : ℕ) (k m : Stored) (own : IsWritten told es p x k) (other : IsWritten told es p y m) where
  told-rises : last_store es p x < last_store es p y → k.last < m.last
  told-rises before = grind (arith, store-at, last-bound)

  told-same : last_store es p x ≡ last_store es p y → k.last ≡ m.last
  told-same same = own.place ∙ ap told same ∙ sym other.place

module _ (told : ℕ → ℕ) (es : List Event) (p : ℕ) (order : KeepsOrder told es p) (x y : ℕ) (k m : Stored) (own : IsWritten told es p x k) (other : IsWritten told es p y m) where
  told-falls : last_store es p y ≤ last_store es p x → m.last ≤ k.last
  told-falls low = elim (cases_eq (last_store es p x) (last_store es p y)) [
    | inl same ↦ let told_alike = told-same told es p order x y k m own other same in omega arith
    | inr apart ↦ let rise = told-rises told es p order y x m k other own (omega arith) in omega arith
  ]

  -- of two bytes that are written, that with the lesser place was stored first
  told-before : nat_lt (last_store es p x) (last_store es p y) ≡ nat_lt k.last m.last
  told-before = elim (cases_lt (last_store es p x) (last_store es p y)) [
    | inl before ↦ lt-ltb (last_store es p x) (last_store es p y) before ∙ sym (lt-ltb k.last m.last (told-rises told es p order x y k m own other before))
    | inr after ↦ le-ltb (last_store es p x) (last_store es p y) after ∙ sym (le-ltb k.last m.last (told-falls after))
  ]

  told-at_most : m.last ≤ k.last → last_store es p y ≤ last_store es p x
  told-at_most low = elim (cases_lt (last_store es p x) (last_store es p y)) [
    | inl before ↦ let rise = told-rises told es p order x y k m own other before in absurd (omega arith)
    | inr after ↦ after
  ]

-- a byte that was stored no earlier than another was written back in no epoch before the other's
pub stored-later : (told : ℕ → ℕ) (es : List Event) (p x y : ℕ) (k m : Stored) → IsWritten told es p x k → IsWritten told es p y m → last_store es p y ≤ last_store es p x → is_late m.opens k.written_back ≡ true
stored-later told es p x y k m own other low =
    let open_x = own.epoch in
    let open_y = other.epoch in
    let rise = epoch-mono es (last_store es p y) (last_store es p x) (omega arith) in
    late-monotone m.opens k.opens k.written_back (omega arith)
    (ap (λ o. is_late o k.written_back) own.epoch ∙ own-late es p x k.written_back (sym own.write_back))

-- ---- unordered and certified pairs

module _ (told : ℕ → ℕ) (es : List Event) (p x y : ℕ) (k m : Stored) (own : IsKept told es p x k) (other : IsKept told es p y m) where
  -- the two checked bytes, by their epochs
  apart : Bool
  apart = not (precedes (interval_at es p x) (interval_at es p y))

  apart-is : apart ≡ is_late m.opens k.written_back
  unfolding apart
  apart-is = grind (arith, last-bound, other, epoch-bound, is_fence)

  both-checked : (v : Bool) → (is_checked es p x && is_checked es p y && v) ≡ v
  both-checked v = ap (λ c. c && is_checked es p y && v) own.checked ∙ ap (λ c. c && v) other.checked

  before-is : KeepsOrder told es p → is_stored_before es p x y ≡ nat_lt k.last m.last
  unfolding is_stored_before
  before-is order = told-before told es p order x y k m own.written other.written

  after-is : KeepsOrder told es p → is_stored_before es p y x ≡ nat_lt m.last k.last
  unfolding is_stored_before
  after-is order = told-before told es p order y x m k other.written own.written

  falls-by : KeepsOrder told es p → m.last ≤ k.last → is_late m.opens k.written_back ≡ true
  falls-by order low = stored-later told es p x y k m own.written other.written (told-at_most told es p order x y k m own.written other.written low)

  pub unordered-one : is_unordered One es p x y ≡ is_late m.opens k.written_back
  unfolding is_unordered is_ordered apart
  unordered-one = both-checked apart ∙ apart-is

  pub unordered-two-off : share_line x y ≡ false → is_unordered Two es p x y ≡ is_late m.opens k.written_back
  unfolding is_unordered is_ordered apart
  unordered-two-off off = grind (arith, both-checked, apart-is)

  pub unordered-two : KeepsOrder told es p → share_line x y ≡ true → is_unordered Two es p x y ≡ is_before true m.last k.last
  unfolding is_unordered is_ordered apart
  unordered-two order on = grind (arith, cases_lt, both-checked, before-is, lt-ltb, or-true, le-ltb, ne_eqb, apart-is, falls-by, cases_eq, apart)

  pub certified-apart : (profile : Profile) → share_line x y ≡ false → is_certified profile es p x y ≡ is_late m.opens k.written_back
  unfolding is_certified
  certified-apart profile h1 = grind (arith, unordered-one, unordered-two-off)

  pub certified-together : (profile : Profile) → KeepsOrder told es p → share_line x y ≡ true → is_certified profile es p x y ≡ is_before false m.last k.last
  unfolding is_certified apart is_unordered is_ordered
  certified-together profile h1 h2 = grind (arith, after-is, cases_lt, lt-ltb, and-true, le-ltb, and-false, unordered-one, falls-by, both-checked, before-is, apart-is)

unordered-unchecked : (profile : Profile) (es : List Event) (p x y : ℕ) → (is_checked es p x && is_checked es p y) ≡ false → is_unordered profile es p x y ≡ false
unfolding is_unordered
unordered-unchecked profile es p x y none = grind arith

certified-unchecked : (profile : Profile) (es : List Event) (p x y : ℕ) → (is_checked es p x && is_checked es p y) ≡ false → is_certified profile es p x y ≡ false
unfolding is_certified
certified-unchecked profile es p x y none = ap (λ v. v && (not (share_line x y) || is_stored_before es p y x)) (unordered-unchecked profile es p x y none)

module _ (shadow : Shadow) (told : ℕ → ℕ) (es : List Event) (p : ℕ) (stands : StandsFor shadow told es p) where
  neither-left : (x y : ℕ) → kept shadow.bytes x ≡ None → (is_checked es p x && is_checked es p y) ≡ false
  neither-left x y none = ap (λ v. v && is_checked es p y) (unchecked-none shadow told es p stands x none)

  neither-right : (x y : ℕ) → kept shadow.bytes y ≡ None → (is_checked es p x && is_checked es p y) ≡ false
  neither-right x y none = ap (λ v. is_checked es p x && v) (unchecked-none shadow told es p stands y none) ∙ and-false (is_checked es p x)

  both-is : (test : Stored → Stored → Bool) (x y : ℕ) (k m : Stored) → kept shadow.bytes x ≡ Some k → kept shadow.bytes y ≡ Some m →
      both_hold test (kept shadow.bytes x) (kept shadow.bytes y) ≡ test k m
  both-is test x y k m one other = ap (λ u. both_hold test u (kept shadow.bytes y)) one ∙ ap (both_hold test (Some k)) other

  epochs-by : (x y : ℕ) (u v : Option Stored) → kept shadow.bytes x ≡ u → kept shadow.bytes y ≡ v → is_unordered One es p x y ≡ by_epochs (kept shadow.bytes) x y
  unfolding by_epochs
  epochs-by x y (Some k) (Some m) one other =
      unordered-one told es p x y k m (kept-some shadow told es p stands x k one) (kept-some shadow told es p stands y m other) ∙ sym (both-is by_epoch x y k m one other)
  epochs-by x y None v one other = unordered-unchecked One es p x y (neither-left x y one) ∙ sym (ap (λ w. both_hold by_epoch w (kept shadow.bytes y)) one)
  epochs-by x y (Some k) None one other =
      unordered-unchecked One es p x y (neither-right x y other) ∙ sym (ap (both_hold by_epoch (kept shadow.bytes x)) other ∙ both_hold-right by_epoch (kept shadow.bytes x))

  pub epochs-is : (x y : ℕ) → is_unordered One es p x y ≡ by_epochs (kept shadow.bytes) x y
  epochs-is x y = epochs-by x y (kept shadow.bytes x) (kept shadow.bytes y) refl refl

  -- a test of pairs that is right on a line and off it is that of the walks by lines
  lines-by : (ties : Bool) (want : ℕ → ℕ → Bool) →
      ((x y : ℕ) (k m : Stored) → IsKept told es p x k → IsKept told es p y m → share_line x y ≡ true → want x y ≡ is_before ties m.last k.last) →
      ((x y : ℕ) (k m : Stored) → IsKept told es p x k → IsKept told es p y m → share_line x y ≡ false → want x y ≡ is_late m.opens k.written_back) →
      ((x y : ℕ) → (is_checked es p x && is_checked es p y) ≡ false → want x y ≡ false) →
      (x y : ℕ) (u v : Option Stored) → kept shadow.bytes x ≡ u → kept shadow.bytes y ≡ v → want x y ≡ by_lines ties (kept shadow.bytes) x y
  lines-by ties want on off none x y (Some k) (Some m) one other = elim (cases_eq (line_of_byte x) (line_of_byte y)) [
    | inl same ↦
        on x y k m (kept-some shadow told es p stands x k one) (kept-some shadow told es p stands y m other) ((Decides-eqb (line_of_byte x) (line_of_byte y)).1 same)
        ∙ sym (by_lines-on ties (kept shadow.bytes) x y same ∙ both-is (by_place ties) x y k m one other)
    | inr apart ↦
        off x y k m (kept-some shadow told es p stands x k one) (kept-some shadow told es p stands y m other) (ne_eqb (line_of_byte x) (line_of_byte y) apart)
        ∙ sym (by_lines-off ties (kept shadow.bytes) x y apart ∙ both-is by_epoch x y k m one other)
  ]
  lines-by ties want on off none x y None v one other = none x y (neither-left x y one) ∙ sym (elim (cases_eq (line_of_byte x) (line_of_byte y)) [
    | inl same ↦ by_lines-on ties (kept shadow.bytes) x y same ∙ ap (λ w. both_hold (by_place ties) w (kept shadow.bytes y)) one
    | inr apart ↦ by_lines-off ties (kept shadow.bytes) x y apart ∙ ap (λ w. both_hold by_epoch w (kept shadow.bytes y)) one
  ])
  lines-by ties want on off none x y (Some k) None one other = none x y (neither-right x y other) ∙ sym (elim (cases_eq (line_of_byte x) (line_of_byte y)) [
    | inl same ↦ by_lines-on ties (kept shadow.bytes) x y same ∙ ap (both_hold (by_place ties) (kept shadow.bytes x)) other ∙ both_hold-right (by_place ties) (kept shadow.bytes x)
    | inr apart ↦ by_lines-off ties (kept shadow.bytes) x y apart ∙ ap (both_hold by_epoch (kept shadow.bytes x)) other ∙ both_hold-right by_epoch (kept shadow.bytes x)
  ])

  pub unordered-two-is : KeepsOrder told es p → (x y : ℕ) → is_unordered Two es p x y ≡ by_lines true (kept shadow.bytes) x y
  unordered-two-is order x y = lines-by true (is_unordered Two es p)
      (λ x y k m own other on. unordered-two told es p x y k m own other order on)
      (λ x y k m own other off. unordered-two-off told es p x y k m own other off)
      (λ x y none. unordered-unchecked Two es p x y none) x y (kept shadow.bytes x) (kept shadow.bytes y) refl refl

  pub certified-is : KeepsOrder told es p → (profile : Profile) (x y : ℕ) → is_certified profile es p x y ≡ by_lines false (kept shadow.bytes) x y
  certified-is order profile x y = lines-by false (is_certified profile es p)
      (λ x y k m own other on. certified-together told es p x y k m own other profile order on)
      (λ x y k m own other off. certified-apart told es p x y k m own other profile off)
      (λ x y none. certified-unchecked profile es p x y none) x y (kept shadow.bytes x) (kept shadow.bytes y) refl refl

  falls : KeepsOrder told es p → (ties : Bool) (x y : ℕ) (k m : Stored) → kept shadow.bytes x ≡ Some k → kept shadow.bytes y ≡ Some m → is_before ties m.last k.last ≡ true → is_late m.opens k.written_back ≡ true
  falls order ties x y k m one other before =
      falls-by told es p x y k m (kept-some shadow told es p stands x k one) (kept-some shadow told es p stands y m other) order (at_most-from_before ties m.last k.last before)

  -- the walks by lines find the least pair
  pub lines-found : KeepsOrder told es p → (ties : Bool) (a b : Extent) (m early first : ℕ) (elsewhere : Option ℕ) →
      IsLeastValue (λ x. opening_of (kept shadow.bytes x)) b.first b.size (Some m) →
      b.first ≤ early → early < b.first + b.size → opening_of (kept shadow.bytes early) ≡ Some m →
      IsLeastValue (on_line (line_of_byte early) (λ x. place_of (kept shadow.bytes x))) b.first b.size (Some first) →
      IsLeastValue (off_line (line_of_byte early) (λ x. opening_of (kept shadow.bytes x))) b.first b.size elsewhere →
      (on off : ℕ → Bool) → ((x : ℕ) → on x ≡ holds_of (has_one_by ties first elsewhere) (kept shadow.bytes x)) → ((x : ℕ) → off x ≡ holds_of (late_for m) (kept shadow.bytes x)) →
      least_pair (by_lines ties (kept shadow.bytes)) a b ≡ with_partner (by_lines ties (kept shadow.bytes)) b (first_byte (by_line (line_of_byte early) on off) a)
  lines-found order ties a b m early first elsewhere least from within opens least_on least_off on off is_on is_off =
      least_pair-by (by_lines ties (kept shadow.bytes)) a b (by_line (line_of_byte early) on off)
      (has_partner-by_lines ties (kept shadow.bytes) b (falls order ties) m least early from within opens first least_on elsewhere least_off on off is_on is_off)

-- the partner that the walk finds
pub lines-partner : (ties : Bool) (kept : ℕ → Option Stored) (b : Extent) (x : ℕ) (k : Stored) → kept x ≡ Some k → (on off : ℕ → Bool) →
    ((y : ℕ) → on y ≡ holds_of (stored_by ties k.last) (kept y)) → ((y : ℕ) → off y ≡ holds_of (comes_after k.written_back) (kept y)) →
    first_byte (by_lines ties kept x) b ≡ first_byte (by_line (line_of_byte x) on off) b
lines-partner ties kept b x k own on off is_on is_off = first_from-same _ _ b.first b.size (λ y low high. partner-by_lines ties kept on off x k own is_on is_off y)

-- the walks by epochs find the least pair
pub epochs-found : (kept : ℕ → Option Stored) (a b : Extent) (m : ℕ) → IsLeastValue (λ x. opening_of (kept x)) b.first b.size (Some m) →
    (late : ℕ → Bool) → ((x : ℕ) → late x ≡ holds_of (late_for m) (kept x)) →
    least_pair (by_epochs kept) a b ≡ with_partner (by_epochs kept) b (first_byte late a)
epochs-found kept a b m least late is_late_at = least_pair-by (by_epochs kept) a b late (λ x. has_partner-by_epochs kept b m least x ∙ sym (is_late_at x))

pub epochs-partner : (kept : ℕ → Option Stored) (b : Extent) (x : ℕ) (k : Stored) → kept x ≡ Some k → (later : ℕ → Bool) →
    ((y : ℕ) → later y ≡ holds_of (comes_after k.written_back) (kept y)) → first_byte (by_epochs kept x) b ≡ first_byte later b
epochs-partner kept b x k own later is_later = first_from-same _ _ b.first b.size (λ y low high. partner-by_epochs kept b x k own y ∙ sym (is_later y))

pub epochs-none : (kept : ℕ → Option Stored) (a b : Extent) → IsLeastValue (λ x. opening_of (kept x)) b.first b.size None → least_pair (by_epochs kept) a b ≡ None
epochs-none kept a b least = least_pair-none (by_epochs kept) a b (no_pairs-by_epochs kept b least)

pub lines-none : (ties : Bool) (kept : ℕ → Option Stored) (a b : Extent) → IsLeastValue (λ x. opening_of (kept x)) b.first b.size None → least_pair (by_lines ties kept) a b ≡ None
lines-none ties kept a b least = least_pair-none (by_lines ties kept) a b (no_pairs-by_lines ties kept b least)

-- a byte that a test of what is kept finds is kept
pub never-lost : (test : Stored → Bool) (o : Option Stored) → holds_of test o ≡ true → o ≡ None → ⊥
never-lost test o holds none = grind arith

-- the byte of the earliest epoch
pub opens-from : (m : ℕ) (o : Option Stored) → holds_of (opens_in m) o ≡ true → opening_of o ≡ Some m
opens-from m o holds = grind arith

pub opens-to : (m : ℕ) (o : Option Stored) → opening_of o ≡ Some m → holds_of (opens_in m) o ≡ true
opens-to m o is = grind arith

pub place-from_opening : (m : ℕ) (o : Option Stored) → opening_of o ≡ Some m → place_of o ≡ None → ⊥
place-from_opening m o is none = grind arith

-- the same, where the line of the earliest epoch has a name of its own
pub lines-found-at : (shadow : Shadow) (told : ℕ → ℕ) (es : List Event) (p : ℕ) → StandsFor shadow told es p → KeepsOrder told es p → (ties : Bool) (a b : Extent) (m early line first : ℕ) (elsewhere : Option ℕ) →
    IsLeastValue (λ x. opening_of (kept shadow.bytes x)) b.first b.size (Some m) →
    b.first ≤ early → early < b.first + b.size → opening_of (kept shadow.bytes early) ≡ Some m → line ≡ line_of_byte early →
    IsLeastValue (on_line line (λ x. place_of (kept shadow.bytes x))) b.first b.size (Some first) →
    IsLeastValue (off_line line (λ x. opening_of (kept shadow.bytes x))) b.first b.size elsewhere →
    (on off : ℕ → Bool) → ((x : ℕ) → on x ≡ holds_of (has_one_by ties first elsewhere) (kept shadow.bytes x)) → ((x : ℕ) → off x ≡ holds_of (late_for m) (kept shadow.bytes x)) →
    least_pair (by_lines ties (kept shadow.bytes)) a b ≡ with_partner (by_lines ties (kept shadow.bytes)) b (first_byte (by_line line on off) a)
lines-found-at shadow told es p stands order ties a b m early line first elsewhere least from within opens same least_on least_off on off is_on is_off =
    subst (λ l. IsLeastValue (on_line l (λ x. place_of (kept shadow.bytes x))) b.first b.size (Some first) →
    IsLeastValue (off_line l (λ x. opening_of (kept shadow.bytes x))) b.first b.size elsewhere →
    least_pair (by_lines ties (kept shadow.bytes)) a b ≡ with_partner (by_lines ties (kept shadow.bytes)) b (first_byte (by_line l on off) a))
    (sym same) (λ one other. lines-found shadow told es p stands order ties a b m early first elsewhere least from within opens one other on off is_on is_off) least_on least_off

pub lines-partner-at : (ties : Bool) (kept : ℕ → Option Stored) (b : Extent) (x line : ℕ) (k : Stored) → kept x ≡ Some k → line ≡ line_of_byte x → (on off : ℕ → Bool) →
    ((y : ℕ) → on y ≡ holds_of (stored_by ties k.last) (kept y)) → ((y : ℕ) → off y ≡ holds_of (comes_after k.written_back) (kept y)) →
    first_byte (by_lines ties kept x) b ≡ first_byte (by_line line on off) b
lines-partner-at ties kept b x line k own same on off is_on is_off = grind (arith, lines-partner)

-- some byte of the span lies in the earliest epoch
pub early-found : (kept : ℕ → Option Stored) (b : Extent) (m : ℕ) → IsLeastValue (λ x. opening_of (kept x)) b.first b.size (Some m) →
    (test : ℕ → Bool) → ((x : ℕ) → test x ≡ holds_of (opens_in m) (kept x)) → first_byte test b ≡ None → ⊥
early-found kept b m least test is none =
    let has = least.has m refl in
    let bad : false ≡ true = sym (none-passes test b.first b.size none has.place has.from has.within) ∙ is has.place ∙ opens-to m (kept has.place) has.is in cc

-- that byte has a place on its line
pub place-found : (kept : ℕ → Option Stored) (b : Extent) (m early line : ℕ) → b.first ≤ early → early < b.first + b.size → opening_of (kept early) ≡ Some m →
    line ≡ line_of_byte early → IsLeastValue (on_line line (λ x. place_of (kept x))) b.first b.size None → ⊥
place-found kept b m early line from within opens same least =
    place-from_opening m (kept early) opens (sym (on_line-on line (λ x. place_of (kept x)) early (sym same)) ∙ least.none refl early from within)

-- a byte that either test finds is kept
pub found-kept : (line : ℕ) (one other : Stored → Bool) (kept : ℕ → Option Stored) (on off : ℕ → Bool) → ((x : ℕ) → on x ≡ holds_of one (kept x)) → ((x : ℕ) → off x ≡ holds_of other (kept x)) →
    (x : ℕ) → by_line line on off x ≡ true → kept x ≡ None → ⊥
found-kept line one other kept on off is_on is_off x passes none = grind (arith, never-lost, by_line-on, apart, by_line-off)
