-- Lists whose elements pair off.
use Rattle.std.proofs.{Common.{◌≡◌, ℕ, suc, ◌+◌, List, [], ◌∷◌, ◌++◌, length, refl, sym, ap, ◌∙◌, sum_by}, lemmas.List.Sums.{sum_by-cons}}
use Rattle.std.specs.List.{AllZip}

pub pair_more : {A B : Type 0} (R : A → B → Type 0) (xs : List A) (ys : List B) (x : A) (y : B) → AllZip R xs ys → R x y → AllZip R (xs ++ x ∷ []) (ys ++ y ∷ [])
pair_more R [] [] x y zip is = (is, zip)
pair_more R [] (v ∷ ys) x y zip is = absurd zip
pair_more R (u ∷ xs) [] x y zip is = absurd zip
pair_more R (u ∷ xs) (v ∷ ys) x y zip is = (zip.0, pair_more R xs ys x y zip.1 is)

pub pairs_append : {A B : Type 0} (R : A → B → Type 0) (xs : List A) (ys : List B) (us : List A) (vs : List B) → AllZip R xs ys → AllZip R us vs → AllZip R (xs ++ us) (ys ++ vs)
pairs_append R [] [] us vs zip more = more
pairs_append R [] (y ∷ ys) us vs zip more = absurd zip
pairs_append R (x ∷ xs) [] us vs zip more = absurd zip
pairs_append R (x ∷ xs) (y ∷ ys) us vs zip more = (zip.0, pairs_append R xs ys us vs zip.1 more)

pub pair_length : {A B : Type 0} (R : A → B → Type 0) (xs : List A) (ys : List B) → AllZip R xs ys → length xs ≡ length ys
pair_length R [] [] zip = refl
pair_length R [] (v ∷ ys) zip = absurd zip
pair_length R (u ∷ xs) [] zip = absurd zip
pair_length R (u ∷ xs) (v ∷ ys) zip = ap suc (pair_length R xs ys zip.1)

-- sums of what is the same for each pair
pub same_sums : {A B : Type 0} (R : A → B → Type 0) (f : A → ℕ) (g : B → ℕ) → ((a : A) (b : B) → R a b → f a ≡ g b) → (xs : List A) (ys : List B) → AllZip R xs ys → sum_by f xs ≡ sum_by g ys
same_sums R f g same [] [] zip = refl
same_sums R f g same [] (v ∷ ys) zip = absurd zip
same_sums R f g same (u ∷ xs) [] zip = absurd zip
same_sums R f g same (u ∷ xs) (v ∷ ys) zip =
    sum_by-cons f u xs ∙ ap (λ n. n + sum_by f xs) (same u v zip.0) ∙ ap (λ n. g v + n) (same_sums R f g same xs ys zip.1) ∙ sym (sum_by-cons g v ys)
