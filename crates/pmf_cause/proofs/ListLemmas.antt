-- Lists that are built from the last one on.
use Rattle.std.proofs.{Common.{◌≡◌, ℕ, ◌<◌, ◌≤◌, Bool, true, List, [], ◌∷◌, ◌++◌, length, get_or, refl, sym, ap, ◌∙◌, arith, inl, inr}, lemmas.Bool.{cases_eq}, lemmas.List.{get_or_append_left, get_or_push}}

-- each number above p that is asked for has its value in the old list, and p has it in the new one, which is longer by one
pub one_more_asked : (asks : ℕ → Bool) (value index : ℕ → ℕ) (p top x : ℕ) (old new : List ℕ) → new ≡ old ++ x ∷ [] → index p ≡ length old → (asks p ≡ true → x ≡ value p) →
    ((k : ℕ) → p < k → k ≤ top → index k < length old) → ((k d : ℕ) → p < k → k ≤ top → asks k ≡ true → get_or old (index k) d ≡ value k) →
    (k d : ℕ) → p ≤ k → k ≤ top → asks k ≡ true → get_or new (index k) d ≡ value k
one_more_asked asks value index p top x old new longer at_end is within before k d low high asked = elim (cases_eq k p) [
  | inl same ↦ ap (λ xs. get_or xs (index k) d) longer ∙ ap (λ i. get_or (old ++ x ∷ []) i d) (ap index same ∙ at_end) ∙ get_or_push old x d (length old) refl ∙ is (sym (ap asks same) ∙ asked) ∙ ap value (sym same)
  | inr other ↦
      ap (λ xs. get_or xs (index k) d) longer
      ∙ get_or_append_left old (x ∷ []) d (index k) (within k (omega arith) high)
      ∙ before k d (omega arith) high asked
]

-- the same, where each is asked for
pub one_more : (value index : ℕ → ℕ) (p top x : ℕ) (old new : List ℕ) → new ≡ old ++ x ∷ [] → index p ≡ length old → x ≡ value p →
    ((k : ℕ) → p < k → k ≤ top → index k < length old) → ((k d : ℕ) → p < k → k ≤ top → get_or old (index k) d ≡ value k) →
    (k d : ℕ) → p ≤ k → k ≤ top → get_or new (index k) d ≡ value k
one_more value index p top x old new longer at_end is within before k d low high =
    one_more_asked (λ j. true) value index p top x old new longer at_end (λ asked. is) within (λ j e after most asked. before j e after most) k d low high refl
