-- A comparison goes on from run to run.
use Rattle.std.{proofs.Common.{◌≡◌, ℕ, ◌-◌, ◌/◌, ◌%◌, ◌<◌, ◌≤◌, true, false, not, ◌&&◌, ◌||◌, ◌==◌, nat_lt, List, [], ◌∷◌, ◌++◌, refl, sym, ◌∙◌, ap, arith, inl, inr, Some, None, is_some, is_none}, specs.Cmp.{booleans_Decides}, proofs.Math.Bool.{beq}, proofs.lemmas.Bool.{cases_lt, and_parts, and_from}, proofs.lemmas.Bool.Decides.{Decides-eqb}}
use Rattle.pmf_event.{specs.declared.event.Event.{Event}, specs.declared.span.TheConstants.{LINE_SIZE}, specs.Line.{line_of_byte}, specs.Store.{last_store}, specs.Order.{is_stored_before}, specs.LineBytes.{is_undurable}}
use Rattle.pmf_shadow.specs.{declared.standing.Standing.{Standing}, Standing.{place_as_told, AllLeaveOpen, AllStandSo}}
use Rattle.pmf_cut.specs.Comparing.{is_same_order, agrees, SameByte, standings_agree, places_of, seen_at, seen_behind, Extends, Compared}

agrees-front : (xs : List (ℕ × ℕ)) (pair : ℕ × ℕ) (u v : ℕ) → agrees (xs ++ pair ∷ []) u v ≡ true → agrees xs u v ≡ true
unfolding agrees
agrees-front [] pair u v is = refl
agrees-front (x ∷ xs) pair u v is = let parts = and_parts (is_same_order x.0 x.1 u v) (agrees (xs ++ pair ∷ []) u v) is in and_from _ _ parts.0 (agrees-front xs pair u v parts.1)

agrees-last : (xs : List (ℕ × ℕ)) (pair : ℕ × ℕ) (u v : ℕ) → agrees (xs ++ pair ∷ []) u v ≡ true → is_same_order pair.0 pair.1 u v ≡ true
unfolding agrees
agrees-last [] pair u v is = (and_parts (is_same_order pair.0 pair.1 u v) true is).0
agrees-last (x ∷ xs) pair u v is = agrees-last xs pair u v (and_parts (is_same_order x.0 x.1 u v) (agrees (xs ++ pair ∷ []) u v) is).1

-- the two ways in which places stand to each other
before-same : (a b u v : ℕ) → is_same_order a b u v ≡ true → nat_lt b v ≡ nat_lt a u
before-same a b u v is = sym ((booleans_Decides (nat_lt a u) (nat_lt b v)).0 (and_parts (beq (nat_lt a u) (nat_lt b v)) (beq (nat_lt u a) (nat_lt v b)) is).0)

behind-same : (a b u v : ℕ) → is_same_order a b u v ≡ true → nat_lt v b ≡ nat_lt u a
behind-same a b u v is = sym ((booleans_Decides (nat_lt u a) (nat_lt v b)).0 (and_parts (beq (nat_lt a u) (nat_lt b v)) (beq (nat_lt u a) (nat_lt v b)) is).1)

pub place-is : (n x : ℕ) → Some x ≡ place_as_told (λ k. k) n → n ≡ x
place-is n x is = grind arith

pub place-none : (n : ℕ) → None ≡ place_as_told (λ k. k) n → n ≡ 0
place-none n is = grind arith

-- ---- lines

-- a place between two bytes of one line lies within that line
record Within (x at y : ℕ) : Type 0 where
  inner : (at % LINE_SIZE == 0) ≡ false
  behind : line_of_byte (at - 1) ≡ line_of_byte x
  number : at / LINE_SIZE ≡ y / LINE_SIZE

module _ (fs : List Event) (m : ℕ) (gs : List Event) (q : ℕ) where
  module _ (a b : Standing) (at end : ℕ) (one : AllLeaveOpen (λ k. k) fs m at end a) (other : AllStandSo (λ k. k) gs q at end b) (agree : standings_agree a b ≡ true) where
    rest-undurable : (beq a.undurable b.undurable && (beq a.unwritten b.unwritten && ((b.undurable || is_none b.last) && (not a.undurable || (is_some a.last && is_some b.last))))) ≡ true
    rest-undurable = (and_parts (beq a.excluded b.excluded) _ agree).1

    byte-same : (z : ℕ) → at ≤ z → z < end → SameByte fs m gs q z
    byte-same z low high = grind arith

    -- the places of an undurable run, in both
    record Places (z : ℕ) (x y : ℕ) : Type 0 where
      whole : last_store fs m z ≡ x
      part : last_store gs q z ≡ y

    places-of : (x y : ℕ) → a.undurable ≡ true → a.last ≡ Some x → b.last ≡ Some y → (z : ℕ) → at ≤ z → z < end → Places z x y
    places-of x y is x_is y_is z low high = grind arith

    module _ (seen new : List (ℕ × ℕ)) (some : at < end) (before : Compared fs m gs q seen at) where
      bytes-below : (z : ℕ) → z < end → SameByte fs m gs q z
      bytes-below z below = grind (arith, cases_lt, byte-same)

      -- what agrees with what is kept of the bytes before agrees with each on the line of the last byte
      seen-before : (u v : ℕ) → agrees (seen_behind seen at end) u v ≡ true → (x : ℕ) → x < at → line_of_byte x ≡ line_of_byte (end - 1) → is_undurable fs m x ≡ true →
          is_same_order (last_store fs m x) (last_store gs q x) u v ≡ true
      seen-before u v agreed x early home is = grind arith

      -- a byte that comes before the run on its line stands to the run in one order
      order-before : (x y : ℕ) → agrees (seen_at seen at) x y ≡ true → (z w : ℕ) → z < at → at ≤ w → line_of_byte z ≡ line_of_byte w → is_undurable fs m z ≡ true →
          is_same_order (last_store fs m z) (last_store gs q z) x y ≡ true
      order-before x y agreed z w early late line is = grind arith

      -- an undurable run with these places
      compared-undurable : (x y : ℕ) → a.undurable ≡ true → a.last ≡ Some x → b.last ≡ Some y → agrees (seen_at seen at) x y ≡ true → new ≡ seen_behind seen at end ++ (x, y) ∷ [] → Compared fs m gs q new end
      unfolding is_stored_before
      compared-undurable x y is x_is y_is agreed new_is = record {
        below = record {
          bytes = bytes-below;
          order = λ z w z_below w_below line z_open w_open. elim (cases_lt z at) [
            | inl z_early ↦ elim (cases_lt w at) [
              | inl w_early ↦ before.below.order z w z_early w_early line z_open w_open
              | inr w_late ↦
                  let there = places-of x y is x_is y_is w w_late w_below in
                  let alike = order-before x y agreed z w z_early w_late ((Decides-eqb (line_of_byte z) (line_of_byte w)).0 line) z_open in
                  ap (λ k. nat_lt (last_store gs q z) k) there.part ∙ before-same (last_store fs m z) (last_store gs q z) x y alike ∙ sym (ap (λ k. nat_lt (last_store fs m z) k) there.whole)
            ]
            | inr z_late ↦
                let here = places-of x y is x_is y_is z z_late z_below in
                elim (cases_lt w at) [
                  | inl w_early ↦
                      let alike = order-before x y agreed w z w_early z_late (sym ((Decides-eqb (line_of_byte z) (line_of_byte w)).0 line)) w_open in
                      ap (λ k. nat_lt k (last_store gs q w)) here.part ∙ behind-same (last_store fs m w) (last_store gs q w) x y alike ∙ sym (ap (λ k. nat_lt k (last_store fs m w)) here.whole)
                  | inr w_late ↦ grind arith
                ]
          ];
        };
        line = grind (arith, cases_lt, seen-before, agrees-front, places-of, agrees-last);
      }

      pub compared-more : Extends seen new (places_of a b) at end → Compared fs m gs q new end
      compared-more extends = grind (arith, and_parts, is_none, is_some, compared-undurable)
