-- What a ledger holds after a section was put where its name belongs.
use Rattle.std.proofs.{Common.{◌≡◌, ℕ, List, [], ◌∷◌, ◌++◌, map, take, drop, sym, ◌∙◌, ap, subst, arith, inl, inr, get_or, ◌⊎◌, ◌↔◌, Contains, All, insert, take-append-drop}, lemmas.List.{get_or-map, length-map}, lemmas.List.Elements.{All-append, All-cons, All-take, All-drop, Contains-append_left, Contains-append_right, Contains-append_cases, Contains-push, Contains-push_cases, Contains-get_or}, lemmas.Grind.{common_steps}}
use Rattle.pmf_event.specs.Section.{Trace}
use Rattle.pmf_verdict.specs.Checked.{Checked, checked_by}
use Rattle.pmf_ledger.{specs.Gathered.{Gains, Gathers, Holds}, specs.LedgerValue.{LedgerValue}, specs.Names.{ComesBefore, Rises}, specs.Places.{IsPlaceOf, LacksName}, proofs.lemmas.NameLemmas.{AllPairs-insert, before-total}}

pub Rises-insert : (sections : List Checked) (k : ℕ) (v : Checked) → Rises sections → IsPlaceOf sections v.section.name k → LacksName sections v.section.name → Rises (insert sections k v)
Rises-insert sections k v rises place absent = AllPairs-insert ComesBefore sections k v place.within rises place.before
    (λ i d far inside. elim (before-total v.section.name (get_or sections i d).section.name) [
      | inl before ↦ before
      | inr other ↦ elim other [ inl same ↦ absurd (absent (get_or sections i d) (Contains-get_or sections i d inside) (sym same)) | inr after ↦ absurd (place.from i d far inside after) ]
    ])

pub All-insert : {X : Type 0} (P : X → Type 0) (xs : List X) (k : ℕ) (y : X) → P y → All P xs → All P (insert xs k y)
All-insert P xs k y here all = All-append P (take k xs) (y ∷ drop k xs) (All-take P k xs all) (All-cons P y (drop k xs) here (All-drop P k xs all))

-- what stands in two lists together
pub appended : {X : Type 0} (xs ys : List X) (x : X) → Contains (xs ++ ys) x ↔ (Contains xs x ⊎ Contains ys x)
appended xs ys x = (Contains-append_cases xs ys x, λ has. elim has [ inl first ↦ Contains-append_left xs ys x first | inr second ↦ Contains-append_right xs ys x second ])

-- what is one of two is one of what these are
pub across : {H A B X Y Z : Type 0} → H ↔ (A ⊎ B) → A ↔ X → B ↔ Y → Z ↔ (X ⊎ Y) → H ↔ Z
across h a b z = grind (arith, common_steps)

between : {H T Y E D W : Type 0} → H ↔ (T ⊎ Y) → Y ↔ (E ⊎ D) → W ↔ (T ⊎ D) → H ↔ (W ⊎ E)
between h y w = grind (arith, common_steps)

-- of a longer set
module _ {X : Type 0} (x y : X) (ys : List X) where
  pub Contains-cons_cases : Contains (y ∷ ys) x → (x ≡ y) ⊎ Contains ys x
  Contains-cons_cases found = grind (arith, common_steps, Contains-append_cases, Contains-push_cases)

  pub Contains-cons : (x ≡ y) ⊎ Contains ys x → Contains (y ∷ ys) x
  Contains-cons held = elim held [
    | inl same ↦ Contains-append_left (y ∷ []) ys x (subst (Contains (y ∷ [])) (sym same) (Contains-push [] y))
    | inr behind ↦ Contains-append_right (y ∷ []) ys x behind
  ]

inserted : {X : Type 0} (xs : List X) (k : ℕ) (y x : X) → Contains (insert xs k y) x ↔ (Contains xs x ⊎ (x ≡ y))
inserted xs k y x = between (appended (take k xs) (y ∷ drop k xs) x) (Contains-cons_cases x y (drop k xs), Contains-cons x y (drop k xs))
    (subst (λ zs. Contains zs x ↔ (Contains (take k xs) x ⊎ Contains (drop k xs) x)) (take-append-drop k xs) (appended (take k xs) (drop k xs) x))

pub Gains-insert : (old new : LedgerValue) (k : ℕ) (v : Checked) → v.profile ≡ old.profile → new.profile ≡ old.profile → new.sections ≡ insert old.sections k v → Gains old v.section new
Gains-insert old new k v by same is = record {
  profile_stays = same;
  holds = λ s.
      let of_old = checked_by old.profile s in
      let is_v : checked_by old.profile v.section ≡ v = ap (λ p. checked_by p v.section) (sym by) in (
        λ found.
            let inside = subst (λ zs. Contains zs of_old) is (subst (λ p. Contains new.sections (checked_by p s)) same found) in
            elim ((inserted old.sections k v of_old).0 inside) [ inl before ↦ inl before | inr here ↦ inr (ap (λ (c : Checked). c.section) here) ],
        λ held.
            let inside = (inserted old.sections k v of_old).1 (elim held [ inl before ↦ inl before | inr here ↦ inr (ap (checked_by old.profile) here ∙ is_v) ]) in
            subst (λ p. Contains new.sections (checked_by p s)) (sym same) (subst (λ zs. Contains zs of_old) (sym is) inside),
      );
}

-- a ledger that holds the section gains it as it is
pub Gains-held : (ledger : LedgerValue) (section : Trace) → Holds ledger section → Gains ledger section ledger
Gains-held ledger section held = grind (arith, common_steps)

-- of the images of a list
pub from_map : {X Y : Type 0} (f : X → Y) (xs : List X) (y : Y) → Contains (map f xs) y → (x : X) × Contains xs x × (f x ≡ y)
from_map f [] y found = absurd (omega (arith, found.1))
from_map f (x ∷ xs) y found = grind (arith, common_steps, Contains-cons_cases, Contains-cons, from_map f xs y)

pub to_map : {X Y : Type 0} (f : X → Y) (xs : List X) (x : X) → Contains xs x → Contains (map f xs) (f x)
to_map f xs x found = grind (arith, common_steps, length-map, get_or-map)

pub Gathers-gains : (old new : LedgerValue) (section : Trace) → Gains old section new → Rises new.sections → All (λ (c : Checked). c.profile ≡ new.profile) new.sections → Gathers old section new
Gathers-gains old new section gains rises checked = λ set is. record {
  profile_is = gains.profile_stays;
  checked = subst (λ p. All (λ (c : Checked). c.profile ≡ p) new.sections) gains.profile_stays checked;
  rises = rises;
  same = λ s. (
    λ held. Contains-cons s section set (elim ((gains.holds s).0 held) [ inl before ↦ inr ((is.same s).0 before) | inr here ↦ inl here ]),
    λ found. (gains.holds s).1 (elim (Contains-cons_cases s section set found) [ inl here ↦ inr here | inr before ↦ inl ((is.same s).1 before) ]),
  );
}
