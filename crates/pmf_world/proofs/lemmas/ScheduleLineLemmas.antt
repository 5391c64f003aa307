-- The words of a text line, taken off one by one.
use Rattle.std.{proofs.Common.{◌≡◌, ◌<◌, List, [], ◌∷◌, length, get_or, Option, Some, None, refl, sym, ap, ℕ}, specs.List.{slice_split}, proofs.lemmas.Iterator.{YieldsList}, proofs.lemmas.Iterator.Consumers.{YieldsList-turn, YieldsList-end}, specs.Iterator.{Yields}}
use Rattle.pmf_world.specs.Schedule.{is_blank, number_of, step_of_one, step_of_two, step_of_line}

-- one item comes: the list begins with it, and the rest is left
pub record IsTaken {S A B : Type 0} (steps : S → Option A → S → Type 0) (v : A → B) (x : A) (t : S) (ys : List B) : Type 0 where
  pub rest : List B
  pub whole : ys ≡ v x ∷ rest
  pub left : YieldsList steps v t rest

module _ {S A B : Type 0} {steps : S → Option A → S → Type 0} {v : A → B} where
  pub taken : (s : S) (ys : List B) (x : A) (t : S) → steps s (Some x) t → YieldsList steps v s ys → IsTaken steps v x t ys
  taken s [] x t p e = absurd (e.runs x t p)
  taken s (y ∷ ys) x t p e = let h = e.runs.1 x t p in record { rest = ys; whole = ap (λ z. z ∷ ys) (sym h.0); left = record { runs = h.1 } }

  -- none comes: the list is empty
  pub over : (s : S) (ys : List B) (t : S) → steps s None t → YieldsList steps v s ys → ys ≡ []
  over s [] t p e = refl
  over s (y ∷ ys) t p e = absurd (e.runs.0 t p)

  -- one item more comes, after these
  pub turned : (s : S) (all : List B) (xs : List A) (t : S) → Yields steps s xs t → (r : Option A) (u : S) (x : A) → r ≡ Some x → steps t r u → YieldsList steps v s all →
      (length xs < length all) × (v x ≡ get_or all (length xs) (v x))
  turned s all xs t y r u x is p e = YieldsList-turn e xs t y r u x is p

  -- none comes after these: they are all
  pub ended : (s : S) (all : List B) (xs : List A) (t : S) → Yields steps s xs t → (r : Option A) (u : S) → r ≡ None → steps t r u → YieldsList steps v s all → length xs ≡ length all
  ended s all xs t y r u is p e = (YieldsList-end e xs t y r u is p).1

module _ (text word : List ℕ) (rest : List (List ℕ)) (whole : slice_split is_blank text ≡ word ∷ rest) where
  pub one_word : rest ≡ [] → step_of_line text ≡ None
  unfolding step_of_line
  one_word none = rw (whole, none) refl

  module _ (first : List ℕ) (more : List (List ℕ)) (next : rest ≡ first ∷ more) where
    pub two_words : more ≡ [] → step_of_line text ≡ step_of_one word (number_of first)
    unfolding step_of_line
    two_words none = rw (whole, next, none) refl

    module _ (second : List ℕ) (others : List (List ℕ)) (then : more ≡ second ∷ others) where
      pub three_words : others ≡ [] → step_of_line text ≡ step_of_two word (number_of first) (number_of second)
      unfolding step_of_line
      three_words none = rw (whole, next, then, none) refl

      pub more_words : (third : List ℕ) (behind : List (List ℕ)) → others ≡ third ∷ behind → step_of_line text ≡ None
      unfolding step_of_line
      more_words third behind also = rw (whole, next, then, also) refl
