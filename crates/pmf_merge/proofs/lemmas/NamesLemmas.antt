-- The names of what waits, sections or blocks.
use Rattle.std.proofs.{Common.{◌≡◌, ℕ, zero, suc, ◌<◌, List, [], ◌∷◌, ◌++◌, length, map, set, get_or, option_map, Option, Some, None, MatchOption, refl, sym, ◌∙◌, ap, subst}, lemmas.List.{length-map, map-set}}
use Rattle.pmf_event.specs.declared.name.Name.{Name}
use Rattle.pmf_merge.specs.{Heads.{IsUpTo}, Waiting.{IsLeastName}}

module _ {X : Type 0} (name : X → Name) where
  abbrev names : List (Option X) → List (Option Name)
  names heads = map (option_map name) heads

  pub name_at : (heads : List (Option X)) (i : ℕ) → get_or (names heads) i None ≡ option_map name (get_or heads i None)
  name_at [] i = refl
  name_at (head ∷ heads) zero = refl
  name_at (head ∷ heads) (suc i) = name_at heads i

  pub names_push : (heads : List (Option X)) (head : Option X) → names (heads ++ head ∷ []) ≡ names heads ++ option_map name head ∷ []
  names_push [] head = refl
  names_push (first ∷ heads) head = ap (λ ns. option_map name first ∷ ns) (names_push heads head)

  pub names_set : (heads : List (Option X)) (i : ℕ) (head : Option X) → names (set heads i head) ≡ set (names heads) i (option_map name head)
  names_set heads i head = map-set (option_map name) heads i head

  pub names_length : (heads : List (Option X)) → length (names heads) ≡ length heads
  names_length heads = length-map heads (option_map name)

  -- the least name is that of the least of them
  abbrev IsLeastOf : List (Option X) → ℕ → X → Type 0
  IsLeastOf heads i v = (get_or heads i None ≡ Some v) × ((j : ℕ) (w : X) → get_or heads j None ≡ Some w → IsUpTo (name v) (name w))

  least_head : (heads : List (Option X)) (i : ℕ) (n : Name) → IsLeastName (names heads) i n → (v : X) × IsLeastOf heads i v
  least_head heads i n (at, least) = by (get_or heads i None) refl
    where
      by : (head : Option X) → get_or heads i None ≡ head → (v : X) × IsLeastOf heads i v
      by None none = let wrong : None ≡ Some n = sym (name_at heads i ∙ ap (option_map name) none) ∙ at in cc
      by (Some v) some =
          let both : Some n ≡ Some (name v) = sym at ∙ name_at heads i ∙ ap (option_map name) some in let same : n ≡ name v = cc in
          (v, (some, λ j w found. subst (λ k. IsUpTo k (name w)) same (least j (name w) (name_at heads j ∙ ap (option_map name) found))))

  none_head : (heads : List (Option X)) (i : ℕ) → get_or (names heads) i None ≡ None → get_or heads i None ≡ None
  none_head heads i none = by (get_or heads i None) refl
    where
      by : (head : Option X) → get_or heads i None ≡ head → get_or heads i None ≡ None
      by None same = same
      by (Some v) same = let wrong : Some (name v) ≡ None = sym (name_at heads i ∙ ap (option_map name) same) ∙ none in cc

  pub least_of_names : (heads : List (Option X)) (found : Option ℕ) →
      MatchOption found ((i : ℕ) → get_or (names heads) i None ≡ None) (λ least. (least < length (names heads)) × (n : Name) × IsLeastName (names heads) least n) →
      MatchOption found ((i : ℕ) → get_or heads i None ≡ None) (λ least. (least < length heads) × (v : X) × IsLeastOf heads least v)
  least_of_names heads None none = λ i. none_head heads i (none i)
  least_of_names heads (Some least) (inside, n, is) = let it = least_head heads least n is in (subst (λ k. least < k) (names_length heads) inside, it.0, it.1)
