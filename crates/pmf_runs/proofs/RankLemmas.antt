-- Ranks by index, and what an edit of the keys and the elements does to them.
use Rattle.std.proofs.{Common.{add-one, ◌≡◌, ℕ, zero, suc, ◌+◌, ◌-◌, ◌<◌, ◌≤◌, true, false, List, [], ◌∷◌, length, length-drop, get_or, get_or-drop, take, drop, set, refl, sym, ◌∙◌, ap, subst, arith, rules, inl, inr, nat_le, nat_lt, ◌&&◌, if◌then◌else◌, Option, None, IfSome, is_some, insert, remove}, lemmas.Bool.{cases_eq}, lemmas.Bool.Decides.{nat_tests}, lemmas.List.{set-get_or}, lemmas.List.Edits.{length-insert, get_or-insert_below, get_or-insert_at, get_or-insert_above, length-remove, get_or-remove_below, get_or-remove_above}}
use Rattle.pmf_runs.specs.Ranks.{IsFresh, rank, at_rank, Rises, HasKey, reaches, falls_short, low_rank, high_rank, IsInner, bound_at}

-- the first i keys are at most the number, and the next one is above it
pub record IsRank (keys : List ℕ) (b i : ℕ) : Type 0 where
  pub bound : i ≤ length keys
  pub upto : (k : ℕ) → k < i → get_or keys k 0 ≤ b
  pub beyond : i < length keys → b < get_or keys i 0

pub le-true : (a b : ℕ) → a ≤ b → nat_le a b ≡ true
le-true a b le = search (rules, arith)

pub le-false : (a b : ℕ) → b < a → nat_le a b ≡ false
le-false a b lt = search (rules, arith)

-- the rank among the keys behind the first
rank-less : (key : ℕ) (keys : List ℕ) (b i : ℕ) → IsRank (key ∷ keys) b (suc i) → IsRank keys b i
rank-less key keys b i is = record {
  bound = let low = is.bound in omega arith;
  upto = λ k below. is.upto (suc k) (omega arith);
  beyond = λ within. is.beyond (omega arith);
}

pub rank-unique : (keys : List ℕ) (b i : ℕ) → IsRank keys b i → rank keys b ≡ i
unfolding rank
rank-unique [] b i is = let low = is.bound in omega arith
rank-unique (key ∷ keys) b zero is = ap (λ t. if t then suc (rank keys b) else 0) (le-false key b (is.beyond (omega arith)))
rank-unique (key ∷ keys) b (suc i) is =
    ap (λ t. if t then suc (rank keys b) else 0) (le-true key b (is.upto 0 (omega arith)))
    ∙ ap (λ n. suc n) (rank-unique keys b i (rank-less key keys b i is))

pub rank-is : (keys : List ℕ) (b : ℕ) → IsRank keys b (rank keys b)
unfolding rank
rank-is [] b = record { bound = omega arith; upto = λ k below. absurd (omega arith); beyond = λ within. absurd (omega arith) }
rank-is (key ∷ keys) b = let rest = rank-is keys b in grind (arith, nat_tests)

pub rank-here : (keys : List ℕ) (b i : ℕ) → i ≡ rank keys b → IsRank keys b i
rank-here keys b i at = subst (IsRank keys b) (sym at) (rank-is keys b)

pub rises-le : (keys : List ℕ) (i j : ℕ) → Rises keys → i ≤ j → j < length keys → get_or keys i 0 ≤ get_or keys j 0
rises-le keys i j rises le within = grind (arith, rises.order)

-- ---- the search of a rank

pub rank-told : (keys : List ℕ) (b i : ℕ) → Rises keys → i ≤ length keys → (0 < i → get_or keys (i - 1) 0 ≤ b) → (i < length keys → b < get_or keys i 0) → i ≡ rank keys b
rank-told keys b i rises bound low high = sym (rank-unique keys b i (grind (arith, rises-le)))

-- ---- ranks and keys

-- a number that is not below another has no lower rank
pub rank-above : (keys : List ℕ) (p b i r : ℕ) → IsRank keys p i → IsRank keys b r → p ≤ b → i ≤ r
rank-above keys p b i r at_p at_b le = grind arith

-- a key is the last of those up to it
pub rank-key : (keys : List ℕ) (p i : ℕ) → Rises keys → HasKey keys p → IsRank keys p i → (0 < i) × (get_or keys (i - 1) 0 ≡ p)
rank-key keys p i rises has at_p = grind (arith, rises.order)

-- ---- a key is put in at its rank

rises-tail : (key : ℕ) (keys : List ℕ) → Rises (key ∷ keys) → Rises keys
rises-tail key keys rises = record { order = λ i j lt within. rises.order (suc i) (suc j) (omega arith) (omega arith) }

rises-cons : (key : ℕ) (keys : List ℕ) → Rises keys → (0 < length keys → key < get_or keys 0 0) → Rises (key ∷ keys)
rises-cons key keys rises first = record { order = each } where
  each : (i j : ℕ) → i < j → j < length (key ∷ keys) → get_or (key ∷ keys) i 0 < get_or (key ∷ keys) j 0
  each i zero lt within = absurd (omega arith)
  each zero (suc j) lt within = let lower = first (omega arith) in let upto = rises-le keys 0 j rises (omega arith) (omega arith) in omega arith
  each (suc i) (suc j) lt within = rises.order i j (omega arith) (omega arith)

insert-rises : (keys : List ℕ) (p i : ℕ) → Rises keys → IsRank keys p i → ((k : ℕ) → k < i → get_or keys k 0 < p) → Rises (insert keys i p)
insert-rises keys p zero rises at_p fresh = rises-cons p keys rises at_p.beyond
insert-rises [] p (suc i) rises at_p fresh = let bound = at_p.bound in absurd (omega arith)
insert-rises (key ∷ keys) p (suc i) rises at_p fresh =
    rises-cons key (insert keys i p) (insert-rises keys p i (rises-tail key keys rises) (rank-less key keys p i at_p) (λ k below. fresh (suc k) (omega arith))) (first i at_p) where
      first : (i : ℕ) → IsRank (key ∷ keys) p (suc i) → 0 < length (insert keys i p) → key < get_or (insert keys i p) 0 0
      first zero is some = fresh 0 (omega arith)
      first (suc i) is some =
          let bound = is.bound in
          let head = get_or-insert_below keys (suc i) p 0 0 (omega arith) (omega arith) in
          let order = rises.order 0 1 (omega arith) (omega arith) in omega arith

-- the number is a key then, and those that were are
pub insert-has : (keys : List ℕ) (p i : ℕ) → i ≤ length keys → HasKey (insert keys i p) p
insert-has keys p i bound = let len = length-insert keys i p bound in record { place = i; within = omega arith; is = get_or-insert_at keys i p 0 bound }

pub insert-keeps : (keys : List ℕ) (p i b : ℕ) → i ≤ length keys → HasKey keys b → HasKey (insert keys i p) b
insert-keeps keys p i b bound has = grind (arith, length-insert, get_or-insert_below, get_or-insert_above)

-- ---- a key is taken out

-- what is left of rising keys rises
pub rises-drop : (keys rest : List ℕ) (n : ℕ) → rest ≡ drop n keys → Rises keys → Rises rest
rises-drop keys rest n is rises = record { order = λ i j less within. grind (arith, length-drop, get_or-drop) }

pub remove-rises : (keys : List ℕ) (i : ℕ) → Rises keys → i < length keys → Rises (remove keys i)
remove-rises [] i rises within = absurd (omega arith)
remove-rises (key ∷ keys) zero rises within = rises-tail key keys rises
remove-rises (key ∷ keys) (suc i) rises within = rises-cons key (remove keys i) (remove-rises keys i (rises-tail key keys rises) (omega arith)) (λ some.
    let len = length-remove keys i (omega arith) in
    elim (cases_eq i 0) [
      | inl first ↦ let head = get_or-remove_above keys i 0 0 (omega arith) (omega arith) in let order = rises.order 0 2 (omega arith) (omega arith) in omega arith
      | inr other ↦ let head = get_or-remove_below keys i 0 0 (omega arith) (omega arith) in let order = rises.order 0 1 (omega arith) (omega arith) in omega arith
    ])

-- ---- bounds at keys

pub lt-true : (a b : ℕ) → a < b → nat_lt a b ≡ true
lt-true a b lt = search (rules, arith)

pub lt-false : (a b : ℕ) → b ≤ a → nat_lt a b ≡ false
lt-false a b le = search (rules, arith)

pub falls-rank : (keys : List ℕ) (end : Option ℕ) (b r : ℕ) → Rises keys → IfSome end (HasKey keys) → IsRank keys b r → falls_short end b ≡ nat_lt r (high_rank keys end)
falls-rank keys end b r h1 h2 h3 = grind (arith, lt-true, rank-above, rank-is, rank-key, nat_tests)

-- ---- elements at their ranks

at_rank-cons : {X : Type 0} (key : ℕ) (keys more : List ℕ) (x : X) (items others : List X) (d : X) (b : ℕ) → (key ≤ b → at_rank keys items d b ≡ at_rank more others d b) →
    at_rank (key ∷ keys) (x ∷ items) d b ≡ at_rank (key ∷ more) (x ∷ others) d b
unfolding at_rank rank
at_rank-cons key keys more x items others d b same = grind (arith, nat_tests)

-- the first element becomes two at a key below all others
at_rank-two : {X : Type 0} (keys : List ℕ) (items : List X) (p : ℕ) (x low high d : X) (b : ℕ) → (0 < length keys → p < get_or keys 0 0) → (b < p → low ≡ x) → (p ≤ b → high ≡ x) →
    at_rank (p ∷ keys) (low ∷ high ∷ items) d b ≡ at_rank keys (x ∷ items) d b
unfolding at_rank rank
at_rank-two [] items p x low high d b first same_low same_high = grind (arith, nat_tests)
at_rank-two (key ∷ keys) items p x low high d b first same_low same_high = grind (arith, nat_tests)

-- a key is put in, and the element at its rank becomes two that are the same where they are asked
pub at_rank-insert : {X : Type 0} (keys : List ℕ) (items : List X) (p i : ℕ) (low high d : X) (b : ℕ) → IsRank keys p i → length items ≡ length keys + 1 →
    (b < p → low ≡ get_or items i d) → (p ≤ b → high ≡ get_or items i d) →
    at_rank (insert keys i p) (insert (set items i low) (i + 1) high) d b ≡ at_rank keys items d b
at_rank-insert keys [] p i low high d b at_p len same_low same_high = absurd (omega arith)
at_rank-insert keys (x ∷ items) p zero low high d b at_p len same_low same_high = at_rank-two keys items p x low high d b at_p.beyond same_low same_high
at_rank-insert [] (x ∷ items) p (suc i) low high d b at_p len same_low same_high = let bound = at_p.bound in absurd (omega arith)
at_rank-insert (key ∷ keys) (x ∷ items) p (suc i) low high d b at_p len same_low same_high =
    rw add-one (at_rank-cons key _ keys x _ items d b (λ le. rw add-one at (at_rank-insert keys items p i low high d b (rank-less key keys p i at_p) (omega arith) same_low same_high)))

-- the element at the rank stands on both sides of the key that is put in
pub at_rank-put : {X : Type 0} (keys : List ℕ) (items : List X) (p i : ℕ) (x d : X) (b : ℕ) → IsRank keys p i → length items ≡ length keys + 1 → x ≡ get_or items i d → at_rank (insert keys i p) (insert items (i + 1) x) d b ≡ at_rank keys items d b
at_rank-put keys items p i x d b at_p len is =
    let put : set items i x ≡ items = ap (set items i) is ∙ set-get_or items i d in
    ap (λ xs. at_rank (insert keys i p) (insert xs (i + 1) x) d b) (sym put) ∙ at_rank-insert keys items p i x x d b at_p len (λ below. is) (λ above. is)

-- a key between two equal elements is taken out, and the second of them
pub at_rank-remove : {X : Type 0} (keys : List ℕ) (items : List X) (i : ℕ) (d : X) (b : ℕ) → Rises keys → i < length keys → length items ≡ length keys + 1 →
    (get_or keys i 0 ≤ b → get_or items i d ≡ get_or items (i + 1) d) → at_rank (remove keys i) (remove items (i + 1)) d b ≡ at_rank keys items d b
at_rank-remove [] items i d b rises within len same = absurd (omega arith)
at_rank-remove (key ∷ keys) [] i d b rises within len same = absurd (omega arith)
at_rank-remove (key ∷ keys) (x ∷ []) i d b rises within len same = absurd (omega arith)
at_rank-remove (key ∷ keys) (x ∷ y ∷ items) zero d b rises within len same =
    sym (at_rank-two keys items key x x y d b (λ some. rises.order 0 1 (omega arith) (omega arith)) (λ lt. refl) (λ le. sym (same le)))
at_rank-remove (key ∷ keys) (x ∷ y ∷ items) (suc i) d b rises within len same =
    rw add-one (at_rank-cons key _ keys x _ (y ∷ items) d b (λ le. rw add-one at (at_rank-remove keys (y ∷ items) i d b (rises-tail key keys rises) (omega arith) (omega arith) (λ from. rw add-one (rw add-one at (same from))))))

-- the keys are parted at one of them, which is left out
pub at_rank-take : {X : Type 0} (keys : List ℕ) (items : List X) (m : ℕ) (d : X) (b : ℕ) → m < length keys → b < get_or keys m 0 →
    at_rank (take m keys) (take (m + 1) items) d b ≡ at_rank keys items d b
unfolding at_rank rank
at_rank-take [] items m d b within lt = absurd (omega arith)
at_rank-take (key ∷ keys) [] zero d b within lt = refl
at_rank-take (key ∷ keys) [] (suc m) d b within lt = rw add-one
at_rank-take (key ∷ keys) (x ∷ items) zero d b within lt = sym (ap (λ t. get_or (x ∷ items) (if t then suc (rank keys b) else 0) d) (le-false key b lt))
at_rank-take (key ∷ keys) (x ∷ items) (suc m) d b within lt =
    rw add-one (at_rank-cons key _ keys x _ items d b (λ le. rw add-one at (at_rank-take keys items m d b (omega arith) lt)))

pub at_rank-drop : {X : Type 0} (keys : List ℕ) (items : List X) (m : ℕ) (d : X) (b : ℕ) → Rises keys → m < length keys → get_or keys m 0 ≤ b →
    at_rank (drop (m + 1) keys) (drop (m + 1) items) d b ≡ at_rank keys items d b
unfolding at_rank rank
at_rank-drop [] items m d b rises within le = absurd (omega arith)
at_rank-drop (key ∷ keys) [] m d b rises within le = rw add-one
at_rank-drop (key ∷ keys) (x ∷ items) zero d b rises within le = sym (ap (λ t. get_or (x ∷ items) (if t then suc (rank keys b) else 0) d) (le-true key b le))
at_rank-drop (key ∷ keys) (x ∷ items) (suc m) d b rises within le =
    let low = rises.order 0 (suc m) (omega arith) (omega arith) in
    rw add-one ((rw add-one at (at_rank-drop keys items m d b (rises-tail key keys rises) (omega arith) le)) ∙ sym (ap (λ t. get_or (x ∷ items) (if t then suc (rank keys b) else 0) d) (le-true key b (omega arith))))

-- ---- a key that was looked for

pub key-found : (keys : List ℕ) (p i : ℕ) → 0 < i → i ≡ rank keys p → get_or keys (i - 1) 0 ≡ p → HasKey keys p
key-found keys p i some at is = let at_p = rank-is keys p in let bound = at_p.bound in record { place = i - 1; within = omega arith; is = is }

pub key-missing : (keys : List ℕ) (p i : ℕ) → Rises keys → i ≡ rank keys p → (0 < i → get_or keys (i - 1) 0 ≡ p → ⊥) → IsFresh keys p
key-missing keys p i rises at missing = let at_p = rank-here keys p i at in grind (arith, rises-le)

pub high_rank-bound : (keys : List ℕ) (end : Option ℕ) → high_rank keys end ≤ length keys + 1
high_rank-bound keys end = grind (arith, rank-is)

pub insert-fresh : (keys : List ℕ) (p i : ℕ) → Rises keys → i ≡ rank keys p → IsFresh keys p → Rises (insert keys i p)
insert-fresh keys p i rises at fresh = grind (arith, insert-rises, rank-here)

-- ---- bounds as they are handed down

pub bound_at-same : (here i : ℕ) (bound : Option ℕ) → i ≡ here → bound_at here i bound ≡ bound
unfolding bound_at
bound_at-same here i bound same = grind (arith, nat_tests)

pub bound_at-other : (here i : ℕ) (bound : Option ℕ) → (i ≡ here → ⊥) → bound_at here i bound ≡ None
unfolding bound_at
bound_at-other here i bound other = grind (arith, nat_tests)

pub bound_at-none : (here i : ℕ) → bound_at here i None ≡ None
unfolding bound_at
bound_at-none here i = grind (arith, nat_tests)

pub low-law : (keys : List ℕ) (from inner : Option ℕ) (low : ℕ) → Rises keys → low ≡ low_rank keys from → IsInner keys from inner → (b : ℕ) →
    reaches from b ≡ (nat_le low (rank keys b) && reaches (bound_at low (rank keys b) inner) b)
unfolding bound_at
low-law keys from inner low rises at is b = grind (arith, nat_tests, le-true, rank-above, rank-is, rank-key, rank-here)

pub high-law_none : (keys : List ℕ) (end inner : Option ℕ) (high : ℕ) → Rises keys → high + 1 ≡ high_rank keys end → inner ≡ None → IsInner keys end inner → (b : ℕ) →
    falls_short end b ≡ (nat_lt (rank keys b) (high + 1) && falls_short (bound_at high (rank keys b) inner) b)
unfolding bound_at
high-law_none keys end inner high rises at none is b = grind (arith, nat_tests, falls-rank, rank-is)

pub high-law_is : (keys : List ℕ) (end inner : Option ℕ) (high : ℕ) → Rises keys → high ≡ high_rank keys end → is_some inner ≡ true → IsInner keys end inner → (b : ℕ) →
    falls_short end b ≡ (nat_lt (rank keys b) (high + 1) && falls_short (bound_at high (rank keys b) inner) b)
unfolding bound_at
high-law_is keys end inner high rises at some is b = grind (arith, rank-here, rank-is, nat_tests, rank-above)

-- an inner bound lies in a part, and a bound that is a key has one before it
pub inner-within : (keys : List ℕ) (end inner : Option ℕ) → is_some inner ≡ true → IsInner keys end inner → high_rank keys end ≤ length keys
inner-within keys end inner some is = grind (arith, rank-is)

pub high-some : (keys : List ℕ) (end inner : Option ℕ) → Rises keys → inner ≡ None → IsInner keys end inner → 0 < high_rank keys end
high-some keys end inner rises none is = grind (arith, rank-key, rank-is)

pub at-low : (keys : List ℕ) (from : Option ℕ) (low : ℕ) → low ≡ low_rank keys from → IfSome from (λ b. low ≡ rank keys b)
at-low keys from low at = grind arith

pub at-high : (keys : List ℕ) (end : Option ℕ) (high : ℕ) → high ≡ high_rank keys end → IfSome end (λ b. high ≡ rank keys b)
at-high keys end high at = grind arith

pub none-is-any : {X : Type 0} (o : Option X) → is_some o ≡ false → o ≡ None
none-is-any o no_one = grind arith

-- past the last key each number has the last rank
pub last-rank : (keys : List ℕ) (place b last : ℕ) → last ≡ length keys → last ≡ rank keys place → place ≤ b → last ≡ rank keys b
last-rank keys place b last is at from =
    let at_place = rank-here keys place last at in sym (rank-unique keys b last (grind arith))
