-- Where all texts are over, what was told is the ledger of them all.
use Rattle.std.{proofs.Common.{◌≡◌, ℕ, zero, suc, ◌<◌, List, [], ◌∷◌, ◌++◌, length, get_or, flat_map, Option, Some, None, Contains, refl, sym, ◌∙◌, ap, subst, arith, inl, inr, append-nil}, proofs.lemmas.List.Elements.{Contains-append_cases, Contains-append_left, Contains-append_right}, specs.Io.KnownBytes.{Consumes, IsAtEnd}}
use Rattle.pmf_event.specs.{declared.profile.Profile.{Profile}, declared.profile.Profile.TheVariants.{One}}
use Rattle.pmf_verdict.specs.Checked.{Checked, checked_by}
use Rattle.pmf_ledger.{specs.Loading.{Reading}, proofs.lemmas.MergingLemmas.{none_of_empty}}
use Rattle.pmf_merge.specs.{Feeding.{IsFedWhole}, Heads.{IsMerging}, Merging.{AreAllOf, IsAllOf, IsMergeOf, IsTextBy, blocks_in}, declared.feed.Feed.{Feed}}

-- the values of a function at the first n places
abbrev pub list_of : {X : Type 0} → (ℕ → X) → ℕ → List X
list_of f zero = []
list_of f (suc n) = f 0 ∷ list_of (λ j. f (suc j)) n

pub length-list_of : {X : Type 0} (f : ℕ → X) (n : ℕ) → length (list_of f n) ≡ n
length-list_of f zero = refl
length-list_of f (suc n) = ap suc (length-list_of (λ j. f (suc j)) n)

list_at : {X : Type 0} (f : ℕ → X) (n i : ℕ) (d : X) → i < n → get_or (list_of f n) i d ≡ f i
list_at f zero i d below = absurd (omega (arith, below))
list_at f (suc n) zero d below = refl
list_at f (suc n) (suc i) d below = list_at (λ j. f (suc j)) n i d (omega (arith, below))

-- of each the same list is told
pub in_each : {X Y : Type 0} (g : X → List Y) (f : ℕ → X) (n : ℕ) (y : Y) → Contains (flat_map g (list_of f n)) y → (i : ℕ) × (i < n) × Contains (g (f i)) y
in_each g f zero y found = absurd (none_of_empty [] y refl found)
in_each g f (suc n) y found = elim (Contains-append_cases (g (f 0)) (flat_map g (list_of (λ j. f (suc j)) n)) y found) [
  | inl first ↦ (0, omega arith, first)
  | inr later ↦ let it = in_each g (λ j. f (suc j)) n y later in (suc it.0, (let less = it.1 in omega (arith, less)), it.2)
]

pub of_each : {X Y : Type 0} (g : X → List Y) (f : ℕ → X) (n i : ℕ) (y : Y) → i < n → Contains (g (f i)) y → Contains (flat_map g (list_of f n)) y
of_each g f zero i y below found = absurd (omega (arith, below))
of_each g f (suc n) zero y below found = Contains-append_left (g (f 0)) (flat_map g (list_of (λ j. f (suc j)) n)) y found
of_each g f (suc n) (suc i) y below found =
    Contains-append_right (g (f 0)) (flat_map g (list_of (λ j. f (suc j)) n)) y (of_each g (λ j. f (suc j)) n i y (omega (arith, below)) found)

pub all_read : (start left : Option (List ℕ)) (text : List ℕ) → Consumes start left text → IsAtEnd left → IsAllOf start text
all_read None left text whole ended = tt
all_read (Some xs) None text whole ended = absurd whole
all_read (Some xs) (Some ys) text whole ended = sym (append-nil text) ∙ ap (λ zs. text ++ zs) (sym ended) ∙ sym whole

all_each : (starts : List (Option (List ℕ))) (f : ℕ → List ℕ) → ((i : ℕ) → i < length starts → IsAllOf (get_or starts i None) (f i)) → AreAllOf starts (list_of f (length starts))
all_each [] f each = tt
all_each (start ∷ starts) f each = (each 0 (omega arith), all_each starts (λ j. f (suc j)) (λ i below. each (suc i) (omega (arith, below))))

module _ (starts lefts : List (Option (List ℕ))) (feeds : List Feed) (heads : List (Option Checked)) (profile : Profile) (out : List Checked)
    (m : IsMerging (length starts) starts lefts feeds heads profile out) (none : (i : ℕ) → get_or heads i None ≡ None) (of_none : length starts ≡ 0 → profile ≡ One) where
  abbrev pub texts : List (List ℕ)
  texts = list_of m.texts (length starts)

  over : (i : ℕ) → i < length starts → IsFedWhole (get_or starts i None) (get_or lefts i None) (m.texts i) (m.readings i)
  over i below = m.over i below (none i)

  pub are_all : AreAllOf starts texts
  are_all = all_each starts m.texts (λ i below. let it = over i below in all_read _ (get_or lefts i None) (m.texts i) it.whole it.ended)

  blocks_are : (i : ℕ) → i < length starts → blocks_in (m.texts i) ≡ (m.readings i).blocks
  blocks_are i below = let it = over i below in ap (λ (r : Reading). r.blocks) it.reading_is

  pub is_merge : IsMergeOf texts (record { profile = profile; sections = out })
  is_merge = record {
    by_one = λ k d inside.
        let below : k < length starts = let long = length-list_of m.texts (length starts) in omega (arith, inside, long) in let it = over k below in
        subst (IsTextBy profile) (sym (list_at m.texts (length starts) k d below)) (it.faultless, ap (λ (r : Reading). r.profile) it.reading_is ∙ m.by_one k below);
    gathered = record {
      profile_is = refl;
      checked = m.checked;
      rises = m.rises;
      same = λ s. (
        λ held.
            let origin = m.from (checked_by profile s) held in
            of_each blocks_in m.texts (length starts) origin.0 s origin.1 (subst (λ ss. Contains ss s) (sym (blocks_are origin.0 origin.1)) origin.2),
        λ found.
            let origin = in_each blocks_in m.texts (length starts) s found in
            elim (m.told origin.0 s origin.1 (subst (λ ss. Contains ss s) (blocks_are origin.0 origin.1) origin.2)) [
              | inl done ↦ done
              | inr waits ↦ let wrong : None ≡ Some (checked_by profile s) = sym (none origin.0) ∙ waits in cc
            ],
      );
    };
    of_none = λ is. of_none (sym (length-list_of m.texts (length starts)) ∙ ap (λ (ts : List (List ℕ)). length ts) is);
  }
