-- The least pair without trying pairs: which bytes of the one span have a partner in the other, said by
-- three numbers of the other, and which byte is the partner.
use Rattle.std.{proofs.Common.{◌≡◌, ℕ, ◌+◌, ◌<◌, ◌≤◌, Bool, true, false, if◌then◌else◌, refl, sym, ◌∙◌, ap, arith, inl, inr, Option, Some, None, is_some, eq-eqb, ne_eqb}, proofs.lemmas.Bool.{cases_eq, or_cases, or_left, or_right}, specs.Cmp.{both_ways}}
use Rattle.pmf_event.{proofs.RangeLemmas.{first_from-none}, proofs.LeastPairLemmas.{HasOne, partner-from_one, one-from_partner}, specs.Span.{Extent}, specs.Line.{line_of_byte}, specs.Order.{has_partner}}
use Rattle.pmf_shadow.specs.{declared.byte.Stored.{Stored}, States.{holds_of, is_late, late_for, late_for_any, is_before, stored_by, comes_after, has_one_by, place_of, opening_of}, Pairs.{both_hold, by_epoch, by_place, by_epochs, by_lines, by_line, on_line, off_line, IsLeastValue}}

-- ---- what is kept of two bytes

-- a byte with what is kept of it
record Kept (kept : ℕ → Option Stored) (x : ℕ) : Type 0 where
  stored : Stored
  is : kept x ≡ Some stored

kept-from_holds : (kept : ℕ → Option Stored) (test : Stored → Bool) (x : ℕ) (o : Option Stored) → kept x ≡ o → holds_of test o ≡ true → Kept kept x
kept-from_holds kept test x o is holds = grind arith

-- two bytes with what is kept of them, which passes
record Both (kept : ℕ → Option Stored) (test : Stored → Stored → Bool) (x y : ℕ) : Type 0 where
  first : Stored
  second : Stored
  is_first : kept x ≡ Some first
  is_second : kept y ≡ Some second
  holds : test first second ≡ true

both-from_holds : (kept : ℕ → Option Stored) (test : Stored → Stored → Bool) (x y : ℕ) (u v : Option Stored) → kept x ≡ u → kept y ≡ v → both_hold test u v ≡ true → Both kept test x y
both-from_holds kept test x y u v one other holds = grind arith

both_hold-is : (kept : ℕ → Option Stored) (test : Stored → Stored → Bool) (x y : ℕ) (k m : Stored) → kept x ≡ Some k → kept y ≡ Some m → both_hold test (kept x) (kept y) ≡ test k m
both_hold-is kept test x y k m one other = ap (λ u. both_hold test u (kept y)) one ∙ ap (both_hold test (Some k)) other

holds_of-is : (kept : ℕ → Option Stored) (test : Stored → Bool) (x : ℕ) (k : Stored) → kept x ≡ Some k → holds_of test (kept x) ≡ test k
holds_of-is kept test x k is = ap (holds_of test) is

-- a second byte's test, once the first is known
second-is : (test : Stored → Stored → Bool) (k : Stored) (u v : Option Stored) → u ≡ Some k → both_hold test u v ≡ holds_of (test k) v
second-is test k u v is = grind arith

pub late-monotone : (low high : ℕ) (w : Option ℕ) → low ≤ high → is_late high w ≡ true → is_late low w ≡ true
late-monotone low high w below late = grind arith

before-monotone : (ties : Bool) (low i j : ℕ) → low ≤ i → is_before ties i j ≡ true → is_before ties low j ≡ true
before-monotone ties low i j below before = grind arith

-- what has an opening or a place is kept
kept-from_opening : (kept : ℕ → Option Stored) (x v : ℕ) (o : Option Stored) → kept x ≡ o → opening_of o ≡ Some v → (k : Stored) × (kept x ≡ Some k) × (k.opens ≡ v)
kept-from_opening kept x v o is has = grind arith

kept-from_place : (kept : ℕ → Option Stored) (x v : ℕ) (o : Option Stored) → kept x ≡ o → place_of o ≡ Some v → (k : Stored) × (kept x ≡ Some k) × (k.last ≡ v)
kept-from_place kept x v o is has = grind arith

-- the value of what is kept
abbrev opening_at : (ℕ → Option Stored) → ℕ → Option ℕ
opening_at kept x = opening_of (kept x)

abbrev place_at : (ℕ → Option Stored) → ℕ → Option ℕ
place_at kept x = place_of (kept x)

opening-is : (kept : ℕ → Option Stored) (x : ℕ) (k : Stored) → kept x ≡ Some k → opening_of (kept x) ≡ Some k.opens
opening-is kept x k is = ap opening_of is

place-is : (kept : ℕ → Option Stored) (x : ℕ) (k : Stored) → kept x ≡ Some k → place_of (kept x) ≡ Some k.last
place-is kept x k is = ap place_of is

pub both_hold-right : (test : Stored → Stored → Bool) (u : Option Stored) → both_hold test u None ≡ false
both_hold-right test u = grind arith

no-opening : (o : Option Stored) → opening_of o ≡ None → o ≡ None
no-opening o none = grind arith

-- a byte in time for the store of another
early-passes : (kept : ℕ → Option Stored) (x y m : ℕ) (k : Stored) → kept x ≡ Some k → opening_of (kept y) ≡ Some m → is_late m k.written_back ≡ true → both_hold by_epoch (kept x) (kept y) ≡ true
early-passes kept x y m k is opens late =
    let other = kept-from_opening kept y m (kept y) refl opens in both_hold-is kept by_epoch x y k other.0 is other.1 ∙ ap (λ o. is_late o k.written_back) other.2 ∙ late

-- ---- whichever pairs are asked for

module _ (kept : ℕ → Option Stored) (b : Extent) (pairs : ℕ → ℕ → Bool) where
  -- where b has no checked byte there is no pair
  no_partner : ((x y : ℕ) → kept y ≡ None → pairs x y ≡ false) → IsLeastValue (opening_at kept) b.first b.size None → (x : ℕ) → has_partner pairs b x ≡ false
  unfolding has_partner
  no_partner none least x = ap (λ (o : Option ℕ). is_some o) (first_from-none (pairs x) b.first b.size (λ y low high. none x y (no-opening (kept y) (least.none refl y low high))))

  -- the earliest epoch decides, where a pair is one by its epochs, and a byte of that epoch is a partner
  late_partner : (m : ℕ) → IsLeastValue (opening_at kept) b.first b.size (Some m) → (early : ℕ) → b.first ≤ early → early < b.first + b.size → (x : ℕ) →
      ((y : ℕ) → pairs x y ≡ true → Both kept by_epoch x y) → ((k : Stored) → kept x ≡ Some k → is_late m k.written_back ≡ true → pairs x early ≡ true) →
      has_partner pairs b x ≡ holds_of (late_for m) (kept x)
  late_partner m least early from within x forward back = both_ways _ _
      (λ some.
      let one = one-from_partner pairs b x some in
      let both = forward one.place one.passes in
      let low = least.bound m refl one.place both.second.opens one.from one.within (opening-is kept one.place both.second both.is_second) in
      holds_of-is kept (late_for m) x both.first both.is_first ∙ late-monotone m both.second.opens both.first.written_back low both.holds)
      (λ late.
      let own = kept-from_holds kept (late_for m) x (kept x) refl late in
      partner-from_one pairs b x (record { place = early; from = from; within = within; passes = back own.stored own.is (sym (holds_of-is kept (late_for m) x own.stored own.is) ∙ late) }))

-- ---- by epochs

module _ (kept : ℕ → Option Stored) (b : Extent) where
  pub no_pairs-by_epochs : IsLeastValue (opening_at kept) b.first b.size None → (x : ℕ) → has_partner (by_epochs kept) b x ≡ false
  unfolding by_epochs
  no_pairs-by_epochs least x = no_partner kept b (by_epochs kept) (λ x y none. grind (arith, both_hold-right)) least x

  pub has_partner-by_epochs : (m : ℕ) → IsLeastValue (opening_at kept) b.first b.size (Some m) → (x : ℕ) → has_partner (by_epochs kept) b x ≡ holds_of (late_for m) (kept x)
  unfolding by_epochs
  has_partner-by_epochs m least x =
      let has = least.has m refl in
      late_partner kept b (by_epochs kept) m least has.place has.from has.within x
      (λ y passes. both-from_holds kept by_epoch x y (kept x) (kept y) refl refl passes) (λ k is late. early-passes kept x has.place m k is has.is late)

  pub partner-by_epochs : (x : ℕ) (k : Stored) → kept x ≡ Some k → (y : ℕ) → by_epochs kept x y ≡ holds_of (comes_after k.written_back) (kept y)
  unfolding by_epochs
  partner-by_epochs x k is y = second-is by_epoch k (kept x) (kept y) is

-- ---- by lines

module _ (line : ℕ) where
  pub by_line-on : (on off : ℕ → Bool) (x : ℕ) → line_of_byte x ≡ line → by_line line on off x ≡ on x
  unfolding by_line
  by_line-on on off x same = ap (λ v. if v then on x else off x) (eq-eqb (line_of_byte x) line same)

  pub by_line-off : (on off : ℕ → Bool) (x : ℕ) → (line_of_byte x ≡ line → ⊥) → by_line line on off x ≡ off x
  unfolding by_line
  by_line-off on off x other = ap (λ v. if v then on x else off x) (ne_eqb (line_of_byte x) line other)

  pub on_line-on : (value : ℕ → Option ℕ) (x : ℕ) → line_of_byte x ≡ line → on_line line value x ≡ value x
  unfolding on_line
  on_line-on value x same = ap (λ v. if v then value x else None) (eq-eqb (line_of_byte x) line same)

  pub off_line-off : (value : ℕ → Option ℕ) (x : ℕ) → (line_of_byte x ≡ line → ⊥) → off_line line value x ≡ value x
  unfolding off_line
  off_line-off value x other = ap (λ v. if v then None else value x) (ne_eqb (line_of_byte x) line other)

  line-from_on : (value : ℕ → Option ℕ) (x v : ℕ) → on_line line value x ≡ Some v → (line_of_byte x ≡ line) × (value x ≡ Some v)
  unfolding on_line
  line-from_on value x v is = grind arith

  line-from_off : (value : ℕ → Option ℕ) (x v : ℕ) → off_line line value x ≡ Some v → (line_of_byte x ≡ line → ⊥) × (value x ≡ Some v)
  unfolding off_line
  line-from_off value x v is = grind arith

module _ (ties : Bool) (kept : ℕ → Option Stored) where
  pub by_lines-on : (x y : ℕ) → line_of_byte x ≡ line_of_byte y → by_lines ties kept x y ≡ both_hold (by_place ties) (kept x) (kept y)
  unfolding by_lines
  by_lines-on x y same = ap (λ v. if v then both_hold (by_place ties) (kept x) (kept y) else both_hold by_epoch (kept x) (kept y)) (eq-eqb (line_of_byte x) (line_of_byte y) same)

  pub by_lines-off : (x y : ℕ) → (line_of_byte x ≡ line_of_byte y → ⊥) → by_lines ties kept x y ≡ both_hold by_epoch (kept x) (kept y)
  unfolding by_lines
  by_lines-off x y other = ap (λ v. if v then both_hold (by_place ties) (kept x) (kept y) else both_hold by_epoch (kept x) (kept y)) (ne_eqb (line_of_byte x) (line_of_byte y) other)

  both-on : (x y : ℕ) → line_of_byte x ≡ line_of_byte y → by_lines ties kept x y ≡ true → Both kept (by_place ties) x y
  both-on x y same is = both-from_holds kept (by_place ties) x y (kept x) (kept y) refl refl (sym (by_lines-on x y same) ∙ is)

  both-off : (x y : ℕ) → (line_of_byte x ≡ line_of_byte y → ⊥) → by_lines ties kept x y ≡ true → Both kept by_epoch x y
  both-off x y other is = both-from_holds kept by_epoch x y (kept x) (kept y) refl refl (sym (by_lines-off x y other) ∙ is)

  module _ (b : Extent) where
    pub no_pairs-by_lines : IsLeastValue (opening_at kept) b.first b.size None → (x : ℕ) → has_partner (by_lines ties kept) b x ≡ false
    unfolding by_lines
    no_pairs-by_lines least x = no_partner kept b (by_lines ties kept) (λ x y none. grind (arith, both_hold-right)) least x

    -- a byte that was stored no earlier than another is unordered with it
    module _ (falls : (x y : ℕ) (k m : Stored) → kept x ≡ Some k → kept y ≡ Some m → is_before ties m.last k.last ≡ true → is_late m.opens k.written_back ≡ true)
        (m : ℕ) (least : IsLeastValue (opening_at kept) b.first b.size (Some m))
        (early : ℕ) (from : b.first ≤ early) (within : early < b.first + b.size) (opens : opening_of (kept early) ≡ Some m) where
      -- off the line of the earliest epoch, that epoch decides
      off-has_partner : (x : ℕ) → (line_of_byte x ≡ line_of_byte early → ⊥) → has_partner (by_lines ties kept) b x ≡ holds_of (late_for m) (kept x)
      off-has_partner x other = late_partner kept b (by_lines ties kept) m least early from within x
          (λ y passes. elim (cases_eq (line_of_byte x) (line_of_byte y)) [
            | inl same ↦ let both = both-on x y same passes in
                record { first = both.first; second = both.second; is_first = both.is_first; is_second = both.is_second; holds = falls x y both.first both.second both.is_first both.is_second both.holds }
            | inr apart ↦ both-off x y apart passes
          ])
          (λ k is late. by_lines-off x early other ∙ early-passes kept x early m k is opens late)

      -- on that line, the earliest store of the line, or the earliest epoch elsewhere
      module _ (first : ℕ) (least_on : IsLeastValue (on_line (line_of_byte early) (place_at kept)) b.first b.size (Some first))
          (elsewhere : Option ℕ) (least_off : IsLeastValue (off_line (line_of_byte early) (opening_at kept)) b.first b.size elsewhere) where
        late-elsewhere : (o : Option ℕ) → elsewhere ≡ o → (y : ℕ) (k n : Stored) → b.first ≤ y → y < b.first + b.size → (line_of_byte y ≡ line_of_byte early → ⊥) →
            kept y ≡ Some n → is_late n.opens k.written_back ≡ true → late_for_any o k ≡ true
        late-elsewhere None is y k n low high apart kept_y late =
            let bad : None ≡ Some n.opens = sym (least_off.none is y low high) ∙ off_line-off (line_of_byte early) (opening_at kept) y apart ∙ opening-is kept y n kept_y in cc
        late-elsewhere (Some o) is y k n low high apart kept_y late =
            let below = least_off.bound o is y n.opens low high (off_line-off (line_of_byte early) (opening_at kept) y apart ∙ opening-is kept y n kept_y) in
            late-monotone o n.opens k.written_back below late

        one-elsewhere : (o : Option ℕ) → elsewhere ≡ o → (x : ℕ) (k : Stored) → line_of_byte x ≡ line_of_byte early → kept x ≡ Some k → late_for_any o k ≡ true →
            HasOne (by_lines ties kept x) b.first b.size
        one-elsewhere None is x k same own late = let bad : false ≡ true = late in cc
        one-elsewhere (Some o) is x k same own late =
            let has = least_off.has o is in
            let there = line-from_off (line_of_byte early) (opening_at kept) has.place o has.is in
            let passes = by_lines-off x has.place (λ shared. there.0 (sym shared ∙ same)) ∙ early-passes kept x has.place o k own there.1 late in
            record { place = has.place; from = has.from; within = has.within; passes = passes }

        on-has_partner : (x : ℕ) → line_of_byte x ≡ line_of_byte early → has_partner (by_lines ties kept) b x ≡ holds_of (has_one_by ties first elsewhere) (kept x)
        on-has_partner x same = both_ways _ _
            (λ some.
            let one = one-from_partner (by_lines ties kept) b x some in
            elim (cases_eq (line_of_byte x) (line_of_byte one.place)) [
              | inl shared ↦
                  let both = both-on x one.place shared one.passes in
                  let low = least_on.bound first refl one.place both.second.last one.from one.within
                  (on_line-on (line_of_byte early) (place_at kept) one.place (sym shared ∙ same) ∙ place-is kept one.place both.second both.is_second) in
                  holds_of-is kept (has_one_by ties first elsewhere) x both.first both.is_first
                  ∙ or_left (is_before ties first both.first.last) (late_for_any elsewhere both.first) (before-monotone ties first both.second.last both.first.last low both.holds)
              | inr apart ↦
                  let both = both-off x one.place apart one.passes in
                  holds_of-is kept (has_one_by ties first elsewhere) x both.first both.is_first
                  ∙ or_right (is_before ties first both.first.last) (late_for_any elsewhere both.first)
                  (late-elsewhere elsewhere refl one.place both.first both.second one.from one.within (λ there. apart (same ∙ sym there)) both.is_second both.holds)
            ])
            (λ holds.
            let own = kept-from_holds kept (has_one_by ties first elsewhere) x (kept x) refl holds in
            let either = or_cases (is_before ties first own.stored.last) (late_for_any elsewhere own.stored) (sym (holds_of-is kept (has_one_by ties first elsewhere) x own.stored own.is) ∙ holds) in
            partner-from_one (by_lines ties kept) b x (elim either [
              | inl before ↦
                  let has = least_on.has first refl in
                  let there = line-from_on (line_of_byte early) (place_at kept) has.place first has.is in
                  let other = kept-from_place kept has.place first (kept has.place) refl there.1 in
                  let passes = by_lines-on x has.place (same ∙ sym there.0) ∙ both_hold-is kept (by_place ties) x has.place own.stored other.0 own.is other.1 ∙ ap (λ i. is_before ties i own.stored.last) other.2 ∙ before in
                  record { place = has.place; from = has.from; within = has.within; passes = passes }
              | inr late ↦ one-elsewhere elsewhere refl x own.stored same own.is late
            ]))

        pub has_partner-by_lines : (on off : ℕ → Bool) → ((x : ℕ) → on x ≡ holds_of (has_one_by ties first elsewhere) (kept x)) →
            ((x : ℕ) → off x ≡ holds_of (late_for m) (kept x)) → (x : ℕ) → has_partner (by_lines ties kept) b x ≡ by_line (line_of_byte early) on off x
        has_partner-by_lines on off is_on is_off x = grind (arith, cases_eq, on-has_partner, by_line-on, off-has_partner, by_line-off)

  pub partner-by_lines : (on off : ℕ → Bool) (x : ℕ) (k : Stored) → kept x ≡ Some k → ((y : ℕ) → on y ≡ holds_of (stored_by ties k.last) (kept y)) →
      ((y : ℕ) → off y ≡ holds_of (comes_after k.written_back) (kept y)) → (y : ℕ) → by_lines ties kept x y ≡ by_line (line_of_byte x) on off y
  partner-by_lines on off x k own is_on is_off y = grind (arith, cases_eq, by_lines-on, second-is, by_line-on, by_lines-off, by_line-off)
