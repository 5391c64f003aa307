-- The fields of a record by their indices.
use Rattle.std.proofs.Common.{◌≡◌, ℕ, suc, ◌+◌, List, [], ◌∷◌, ap, ◌∙◌, sym, slice_index_or, arith}
use Rattle.pmf_storelog.specs.Records.{fields_of}

pub first_is : (text first : List ℕ) (more : List (List ℕ)) → fields_of text ≡ first ∷ more → first ≡ slice_index_or (fields_of text) 0 []
first_is text first more is = sym (ap (λ (fields : List (List ℕ)). slice_index_or fields 0 []) is)

pub further_is : (text first : List ℕ) (more : List (List ℕ)) (k : ℕ) → fields_of text ≡ first ∷ more → slice_index_or (fields_of text) (k + 1) [] ≡ slice_index_or more k []
further_is text first more k is =
    let next : k + 1 ≡ suc k = omega arith in
    ap (λ (n : ℕ). slice_index_or (fields_of text) n []) next ∙ ap (λ (fields : List (List ℕ)). slice_index_or fields (suc k) []) is

pub no_further : (text : List ℕ) (k : ℕ) → fields_of text ≡ text ∷ [] → slice_index_or (fields_of text) (k + 1) [] ≡ []
no_further text k is = further_is text text [] k is
