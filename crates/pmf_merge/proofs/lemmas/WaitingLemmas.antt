-- The places are those of the names that wait, after a place was put or removed, and the first is that of the least.
use Rattle.std.{proofs.Common.{◌≡◌, ◌⊎◌, ◌↔◌, ℕ, zero, suc, true, false, List, [], ◌∷◌, ◌++◌, ◌<◌, length, Option, Some, None, IsTrue, get_or, set, refl, sym, ◌∙◌, ap, subst, arith, inl, inr}, specs.Ordering.{is_gt}, specs.BTreeMap.{is_at}, specs.BTreeSet.{contains, IsLowerBound, Updates}, proofs.lemmas.Bool.{true≢false}, proofs.lemmas.List.{get_or_push, get_or-set_other, get_or-set_same}, proofs.lemmas.Grind.{common_steps}}
use Rattle.pmf_event.specs.declared.name.Name.{Name}
use Rattle.pmf_merge.{specs.{Heads.{IsUpTo}, Waiting.{IsLeastName, IsWaiting, PutsAt, WaitsAt, place_cmp}, declared.waiting.{Place.{Place}, Waiting.{Waiting}}}, proofs.lemmas.HeadsLemmas.{here_or}}

-- the place of this name and this index
abbrev pub place_of : Name → ℕ → Place
place_of name index = record { name = name; index = index }

at_itself : (a : Place) → is_at (place_cmp a) a ≡ true
at_itself a = grind (arith, common_steps)

-- a place is found by itself alone
found_or : (a b : Place) → (a ≡ b) ⊎ (is_at (place_cmp a) b ≡ false)
found_or a b = grind (arith, common_steps)

itself_found : (a b : Place) → a ≡ b → is_at (place_cmp a) b ≡ false → ⊥
itself_found a b same other = true≢false (sym (at_itself a) ∙ ap (λ p. is_at (place_cmp a) p) same ∙ other)

-- a place that isn't above another has a name up to that one's
up_to : (a b : Place) → is_gt (place_cmp a b) ≡ false → IsUpTo a.name b.name
up_to a b not_above = grind (arith, common_steps)

some_other : {X : Type 0} (found : Option X) (x : X) → found ≡ None → found ≡ Some x → ⊥
some_other found x none some = grind (arith, common_steps)

some_same : {X : Type 0} (found : Option X) (x y : X) → found ≡ Some x → found ≡ Some y → x ≡ y
some_same found x y one other = grind (arith, common_steps)

-- of no keys none is found
none_found : (keys : List Place) (place : Place) → keys ≡ [] → IsTrue (contains place_cmp (record { keys = keys }) place) → ⊥
none_found keys place none has =
    let found : contains place_cmp (record { keys = [] }) place ≡ true = subst (λ ks. contains place_cmp (record { keys = ks }) place ≡ true) none has in
    true≢false (sym found)

-- one name was put at an index, where another was
module _ (names after : List (Option Name)) (old : Waiting) (index : ℕ) (is : IsWaiting names old) where
  at_index : (ns : List (Option Name)) (place : Place) → place.index ≡ index → WaitsAt ns place → get_or ns index None ≡ Some place.name
  at_index ns place here at = ap (λ i. get_or ns i None) (sym here) ∙ at

  -- elsewhere the same waits
  elsewhere : (name : Option Name) → PutsAt names index name after → (place : Place) → (place.index ≡ index → ⊥) → WaitsAt names place ↔ WaitsAt after place
  elsewhere name puts place other = (λ at. puts.1 place.index other ∙ at, λ at. sym (puts.1 place.index other) ∙ at)

  module _ (new : Waiting) (name : Name) where
    abbrev this : Place
    this = place_of name index

    is_this : (place : Place) (ns : List (Option Name)) → get_or ns index None ≡ Some name → place.index ≡ index → WaitsAt ns place → this ≡ place
    is_this place ns at here waits =
        let one : name ≡ place.name = some_same (get_or ns index None) name place.name at (at_index ns place here waits) in rw (one, sym here) refl

    -- one waits where none waited
    pub waits : get_or names index None ≡ None → PutsAt names index (Some name) after → Updates place_cmp old.places new.places this true → IsWaiting after new
    waits none puts updates = λ place. elim (found_or this place) [
      | inl same ↦ (
        λ has. ap (λ (p : Place). get_or after p.index None) (sym same) ∙ puts.0 ∙ ap (λ (p : Place). Some p.name) same,
        λ waits_at. subst (λ p. IsTrue (contains place_cmp new.places p)) same updates.1,
      )
      | inr other ↦
          let stays_so = updates.2 place other in
          elim (here_or place.index index) [
            | inl here ↦ (
              λ has. absurd (some_other (get_or names index None) place.name none (at_index names place here ((is place).0 (subst IsTrue stays_so has)))),
              λ waits_at. absurd (itself_found this place (is_this place after puts.0 here waits_at) other),
            )
            | inr there ↦ (
              λ has. (elsewhere (Some name) puts place there).0 ((is place).0 (subst IsTrue stays_so has)),
              λ waits_at. subst IsTrue (sym stays_so) ((is place).1 ((elsewhere (Some name) puts place there).1 waits_at)),
            )
          ]
    ]

    -- the one that waited waits no more
    pub waits_no_more : get_or names index None ≡ Some name → PutsAt names index None after → Updates place_cmp old.places new.places this false → IsWaiting after new
    waits_no_more at puts updates = λ place. elim (found_or this place) [
      | inl same ↦ (
        λ has. absurd (true≢false (sym (subst (λ p. IsTrue (contains place_cmp new.places p)) (sym same) has) ∙ updates.1)),
        λ found. absurd (some_other (get_or after index None) place.name puts.0 (ap (λ (p : Place). get_or after p.index None) same ∙ found)),
      )
      | inr other ↦
          let stays_so = updates.2 place other in
          elim (here_or place.index index) [
            | inl here ↦ (
              λ has. absurd (itself_found this place (is_this place names at here ((is place).0 (subst IsTrue stays_so has))) other),
              λ found. absurd (some_other (get_or after index None) place.name puts.0 (at_index after place here found)),
            )
            | inr there ↦ (
              λ has. (elsewhere None puts place there).0 ((is place).0 (subst IsTrue stays_so has)),
              λ waits_at. subst IsTrue (sym stays_so) ((is place).1 ((elsewhere None puts place there).1 waits_at)),
            )
          ]
    ]

-- the first place is that of the least name that waits
pub first_is_least : (names : List (Option Name)) (waiting : Waiting) (place : Place) → IsWaiting names waiting → IsTrue (contains place_cmp waiting.places place) →
    IsLowerBound place_cmp waiting.places place → (place.index < length names) × (name : Name) × IsLeastName names place.index name
first_is_least names waiting place is has bound =
    let waits_at = (is place).0 has in (
      within names place.index place.name waits_at,
      place.name,
      (waits_at, λ i other found. up_to place (place_of other i) (bound (place_of other i) ((is (place_of other i)).1 found))),
    )
  where
    within : (ns : List (Option Name)) (i : ℕ) (n : Name) → get_or ns i None ≡ Some n → i < length ns
    within ns i n at = grind (arith, common_steps)

no_length : {X : Type 0} (xs : List X) → (0 < length xs → ⊥) → xs ≡ []
no_length [] none = refl
no_length (x ∷ xs) none = absurd (none (omega arith))

-- where there is no first place, none waits
pub no_first : (heads : List (Option Name)) (waiting : Waiting) → IsWaiting heads waiting → (0 < length waiting.places.keys → ⊥) → (i : ℕ) → get_or heads i None ≡ None
no_first heads waiting is none i = by_head (get_or heads i None) refl
  where
    by_head : (name : Option Name) → get_or heads i None ≡ name → get_or heads i None ≡ None
    by_head None same = same
    by_head (Some n) same = let place = place_of n i in absurd (none_found waiting.places.keys place (no_length waiting.places.keys none) ((is place).1 same))

-- without the head of an index, and then with another one there
pub no_head : (heads : List (Option Name)) (index : ℕ) → PutsAt heads index None (set heads index None)
no_head heads index = (here heads index, λ i other. get_or-set_other heads index i None None other)
  where
    here : (hs : List (Option Name)) (i : ℕ) → get_or (set hs i None) i None ≡ None
    here [] i = refl
    here (h ∷ hs) zero = refl
    here (h ∷ hs) (suc i) = here hs i

pub between_heads : (heads : List (Option Name)) (index : ℕ) (new : Option Name) (after : List (Option Name)) → PutsAt heads index new after → PutsAt (set heads index None) index new after
between_heads heads index new after puts = (puts.0, λ i other. puts.1 i other ∙ sym (get_or-set_other heads index i None None other))

pub set_head : (heads : List (Option Name)) (index : ℕ) (head : Option Name) → index < length heads → PutsAt heads index head (set heads index head)
set_head heads index head inside = (get_or-set_same heads index head None inside, λ i other. get_or-set_other heads index i head None other)

-- behind all there is none yet
pub none_behind : (heads : List (Option Name)) → get_or heads (length heads) None ≡ None
none_behind [] = refl
none_behind (h ∷ hs) = none_behind hs

pub push_head : (heads : List (Option Name)) (head : Option Name) → PutsAt heads (length heads) head (heads ++ head ∷ [])
push_head heads head = (get_or_push heads head None (length heads) refl, λ i other. there heads i other)
  where
    there : (hs : List (Option Name)) (i : ℕ) → (i ≡ length hs → ⊥) → get_or (hs ++ head ∷ []) i None ≡ get_or hs i None
    there [] zero other = absurd (other refl)
    there [] (suc i) other = refl
    there (h ∷ hs) zero other = refl
    there (h ∷ hs) (suc i) other = there hs i (λ same. other (ap suc same))
