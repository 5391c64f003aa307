-- What the first byte that passes a test says of the parts of a list, and the parts of two lists joined.
use Rattle.std.{proofs.Common.{◌≡◌, ℕ, ◌+◌, ◌<◌, Bool, false, cond, List, [], ◌∷◌, ◌++◌, Some, None, length, take, drop, get_or, All, refl, sym, ap, subst, ◌∙◌, arith, get_or-take, length-take-le}, specs.List.{slice_split, onto_first}, proofs.lemmas.List.{take_more}, proofs.lemmas.List.Elements.{All-from_get_or}, proofs.lemmas.List.Splits.{slice_split_none, slice_split_first, slice_split_at}, proofs.lemmas.List.Sums.{position_or_len_is}, proofs.lemmas.Bool.{false_from_ne_true}, proofs.lemmas.Grind.{common_steps}}
use Rattle.memchr.specs.Find.{IsFirstByte}

module _ (p : ℕ → Bool) where
  -- no byte passes
  pub none_pass : (xs : List ℕ) → IsFirstByte p xs None → All (λ c. p c ≡ false) xs
  none_pass xs none = let P = λ (c : ℕ). p c ≡ false in All-from_get_or P xs 0 (λ i below. false_from_ne_true _ (none i (omega arith) below))

  -- with no byte that passes, there is one part
  pub split_none : (xs : List ℕ) → IsFirstByte p xs None → slice_split p xs ≡ xs ∷ []
  split_none xs none = slice_split_none p xs (none_pass xs none)

  -- the first part ends at the first byte that passes
  pub split_some : (xs : List ℕ) (k : ℕ) → IsFirstByte p xs (Some k) → slice_split p xs ≡ take k xs ∷ slice_split p (drop (k + 1) xs)
  split_some xs k found = grind (arith, common_steps, position_or_len_is, false_from_ne_true, slice_split_first)

  -- there is a part
  pub split_filled : (xs : List ℕ) → 0 < length (slice_split p xs)
  split_filled [] = omega arith
  split_filled (x ∷ xs) = grind (arith, common_steps, split_filled xs)

  -- with a byte that passes at the end alone, there is the part before it and an empty one
  pub split_upto : (xs : List ℕ) (k : ℕ) → IsFirstByte p xs (Some k) → slice_split p (take (k + 1) xs) ≡ take k xs ∷ [] ∷ []
  split_upto xs k found =
      let first = found.0 in let P = λ (c : ℕ). p c ≡ false in let none : All P (take k xs) =
      All-from_get_or P (take k xs) 0
      (λ i below. subst P (sym (get_or-take k xs i 0 (omega (arith, length-take-le k xs (omega (arith, first.high))))))
      (false_from_ne_true _ (first.before i (omega arith) (omega (arith, length-take-le k xs (omega (arith, first.high))))))) in
      ap (slice_split p) (take_more xs k 0 first.high) ∙ slice_split_at p (take k xs) (get_or xs k 0) [] none found.1

-- the parts of two lists joined: the last part of the first goes on as the first part of the second
unfoldable pub joined : List (List ℕ) → List (List ℕ) → List (List ℕ)
joined [] later = later
joined (part ∷ []) [] = part ∷ []
joined (part ∷ []) (next ∷ later) = (part ++ next) ∷ later
joined (part ∷ other ∷ parts) later = part ∷ joined (other ∷ parts) later

joined_nil : (later : List (List ℕ)) → 0 < length later → later ≡ joined ([] ∷ []) later
unfolding joined
joined_nil later filled = grind (arith, common_steps)

joined_step : (b : Bool) (x : ℕ) (parts later : List (List ℕ)) → 0 < length parts → 0 < length later →
    cond b ([] ∷ joined parts later) (onto_first x (joined parts later)) ≡ joined (cond b ([] ∷ parts) (onto_first x parts)) later
unfolding joined
joined_step b x parts later some more = grind (arith, common_steps)

-- the parts of two lists, one after the other
pub slice_split-append : (p : ℕ → Bool) (xs ys : List ℕ) → slice_split p (xs ++ ys) ≡ joined (slice_split p xs) (slice_split p ys)
slice_split-append p [] ys = joined_nil (slice_split p ys) (split_filled p ys)
slice_split-append p (x ∷ xs) ys = grind (arith, common_steps, joined_step, split_filled, slice_split-append p xs ys)

-- where the last part of the first stands apart
pub joined_at : (front : List (List ℕ)) (part next : List ℕ) (later : List (List ℕ)) → joined (front ++ part ∷ []) (next ∷ later) ≡ front ++ (part ++ next) ∷ later
unfolding joined
joined_at [] part next later = refl
joined_at (x ∷ []) part next later = refl
joined_at (x ∷ y ∷ front) part next later = ap (λ parts. x ∷ parts) (joined_at (y ∷ front) part next later)
