-- More is told than before.
use Rattle.std.{proofs.Common.{◌≡◌, ℕ, List, [], ◌∷◌, ◌++◌, ◌+◌, ◌-◌, ◌<◌, length, take, drop, get_or, flat_map, sym, ap, ◌∙◌, append-nil, append_assoc, string_bytes, take-append-drop}, proofs.lemmas.Grind.{flat_map-append}, proofs.lemmas.List.{take_rest, at_drop_more, flat_map_more, take_more}, proofs.Math.Seq.{drop-append_seam}}
use Rattle.pmf_why.specs.{declared.taking.Told.{Told}, Telling.{Grows, told_text}}

pub grows_none : (xs ys : List Told) → ys ≡ xs → Grows xs ys
grows_none xs ys is = ([], is ∙ sym (append-nil xs))

pub grows_push : (xs ys : List Told) (t : Told) → ys ≡ xs ++ t ∷ [] → Grows xs ys
grows_push xs ys t is = (t ∷ [], is)

pub grows_on : (xs ys zs : List Told) → Grows xs ys → Grows ys zs → Grows xs zs
grows_on xs ys zs first then = (first.0 ++ then.0, then.1 ∙ ap (λ front. front ++ then.0) first.1 ∙ append_assoc xs first.0 then.0)

-- what was told since
pub told_since : (xs ys zs : List Told) (n : ℕ) (grows : Grows xs ys) → n ≡ length xs → zs ≡ ys → take (length zs - n) (drop n zs) ≡ grows.0
told_since xs ys zs n grows is same =
    ap (λ told. take (length told - n) (drop n told)) same ∙ take_rest ys n ∙ ap (λ k. drop k ys) is ∙ ap (drop (length xs)) grows.1 ∙ drop-append_seam xs grows.0

pub text_since : (xs ys : List Told) (grows : Grows xs ys) → told_text ys ≡ told_text xs ++ told_text grows.0
unfolding told_text
text_since xs ys grows = ap told_text grows.1 ∙ flat_map-append (λ t. string_bytes t.text) xs grows.0

-- ---- what is written of it

module _ (told : List Told) (i : ℕ) (t : Told) (within : i < length told) (is : t ≡ get_or told i t) where
  -- up to one, that one, and the others
  pub told_parts : told_text told ≡ told_text (take i told) ++ (string_bytes t.text ++ told_text (drop (i + 1) told))
  unfolding told_text
  told_parts =
      let f : Told → List ℕ = λ t. string_bytes t.text in
      ap (flat_map f) (sym (take-append-drop i told)) ∙ flat_map-append f (take i told) (drop i told)
      ∙ ap (λ rest. flat_map f (take i told) ++ rest) (at_drop_more (flat_map f) told i t within ∙ ap (λ u. f u ++ flat_map f (drop (i + 1) told)) (sym is))

  pub told_one : (front part : List ℕ) → part ≡ string_bytes t.text → (front ++ told_text (take i told)) ++ part ≡ front ++ told_text (take (i + 1) told)
  unfolding told_text
  told_one front part part_is =
      let f : Told → List ℕ = λ t. string_bytes t.text in
      ap (λ p. (front ++ flat_map f (take i told)) ++ p) (part_is ∙ ap f is) ∙ flat_map_more f front (take i told) (get_or told i t)
      ∙ ap (λ xs. front ++ flat_map f xs) (sym (take_more told i t within))

  -- a part that is cut off is a part of all
  pub told_on : (front part text : List ℕ) → part ≡ string_bytes t.text → text ≡ (front ++ told_text (take i told)) ++ part → (rest : List ℕ) × (text ++ rest ≡ front ++ told_text told)
  told_on front part text part_is tells =
      let rest = told_text (drop (i + 1) told) in
      let before = told_text (take i told) in (
        rest,
        ap (λ bs. bs ++ rest) (tells ∙ ap (λ p. (front ++ before) ++ p) part_is) ∙ append_assoc (front ++ before) (string_bytes t.text) rest
            ∙ append_assoc front before (string_bytes t.text ++ rest) ∙ ap (λ bs. front ++ bs) (sym told_parts),
      )
