-- Names that stand twice in a list, which a sort has put in their order.
use Rattle.std.{proofs.Common.{◌≡◌, ℕ, zero, suc, ◌+◌, ◌-◌, ◌<◌, ◌≤◌, Bool, true, false, List, [], ◌∷◌, length, map, refl, sym, ◌∙◌, ap, subst, arith, inl, inr, get_or, eqb-true, eq-eqb, ◌⊎◌, count_by, cond, IsPermutation, MatchOption, Option, Some, None, is_lt}, proofs.lemmas.Bool.{and_parts, cases_eq, cases_lt, cases_Bool, true≢false}, proofs.lemmas.List.Sums.{sum_by-cons}, proofs.lemmas.List.Sorted.{sum_by-IsPermutation}, specs.Ordering.{nat_cmp, ordering_then}, proofs.lemmas.Grind.{common_steps}}
use Rattle.pmf_event.specs.{declared.name.Name.{Name}, Section.{Trace}}
use Rattle.pmf_ledger.{specs.Names.{IsBefore}, specs.Repeats.{AreOwn, DoNotFall, IsLeastTwiceIn, StandsTwiceIn, is_name, names_of}, proofs.lemmas.NameLemmas.{before-trans, before-itself, before-total, compares-before}}

-- the order of names is that by which a sort compares them
pub before-compares : (a b : Name) → IsBefore a b → is_lt (ordering_then (nat_cmp a.run b.run) (nat_cmp a.number b.number)) ≡ false → ⊥
before-compares a b before is = true≢false (sym (ap is_lt (compares-before a b before)) ∙ is)

-- the name comes before the other, or is the same
abbrev pub IsAtMost : Name → Name → Type 0
IsAtMost a b = IsBefore a b ⊎ (a ≡ b)

at_most-unless_before : (a b : Name) → (IsBefore b a → ⊥) → IsAtMost a b
at_most-unless_before a b never = grind (arith, common_steps, before-total)

at_most-trans : (a b c : Name) → IsAtMost a b → IsAtMost b c → IsAtMost a c
at_most-trans a b c first then = grind (arith, common_steps, before-trans)

-- the first so many names rise
abbrev pub RisesTo : ℕ → List Name → Type 0
RisesTo n names = (k : ℕ) (d : Name) → k + 1 < n → IsBefore (get_or names k d) (get_or names (k + 1) d)

module _ (names : List Name) (d : Name) where
  abbrev pub name_at : ℕ → Name
  name_at k = get_or names k d

  -- what relates each of the first n to the next, and passes on, relates each to all behind it
  chain_by : (R : Name → Name → Type 0) → ((a b c : Name) → R a b → R b c → R a c) → (n i m : ℕ) → ((k : ℕ) → k + 1 < n → R (name_at k) (name_at (k + 1))) → i + 1 + m < n → R (name_at i) (name_at (i + 1 + m))
  chain_by R trans n i zero step inside = let k : i + 1 ≡ i + 1 + 0 = omega arith in subst (λ x. R (name_at i) (name_at x)) k (step i (omega (arith, inside)))
  chain_by R trans n i (suc m) step inside = grind (arith, common_steps, chain_by R trans n i m step (omega (arith, inside)))

  chain : (R : Name → Name → Type 0) → ((a b c : Name) → R a b → R b c → R a c) → (n i j : ℕ) → ((k : ℕ) → k + 1 < n → R (name_at k) (name_at (k + 1))) → i < j → j < n → R (name_at i) (name_at j)
  chain R trans n i j step less inside =
      let k : i + 1 + (j - i - 1) ≡ j = omega (arith, less) in subst (λ x. R (name_at i) (name_at x)) k (chain_by R trans n i (j - i - 1) step (omega (arith, less, inside)))

  -- of two of the rising ones the first comes before
  rises_between : (n i j : ℕ) → RisesTo n names → i < j → j < n → IsBefore (name_at i) (name_at j)
  rises_between n i j rises = chain IsBefore before-trans n i j (λ k. rises k d)

  at_most_between : (i j : ℕ) → DoNotFall names → i ≤ j → j < length names → IsAtMost (name_at i) (name_at j)
  at_most_between i j sorted less inside = elim (cases_eq i j) [
    | inl same ↦ inr (ap name_at same)
    | inr apart ↦ chain IsAtMost at_most-trans (length names) i j (λ k more. at_most-unless_before (name_at k) (name_at (k + 1)) (sorted k d more)) (omega (arith, less, apart)) inside
  ]

module _ {X : Type 0} (p : X → Bool) where
  counted-yes : (x : X) (xs : List X) → p x ≡ true → count_by p (x ∷ xs) ≡ count_by p xs + 1
  counted-yes x xs yes_is = grind (arith, common_steps, sum_by-cons)

  counted-none : (x : X) (xs : List X) → p x ≡ false → count_by p (x ∷ xs) ≡ count_by p xs
  counted-none x xs not_is = grind (arith, common_steps, sum_by-cons)

  -- where one is counted, it stands somewhere
  one_of : (xs : List X) (d : X) → 0 < count_by p xs → (j : ℕ) × (j < length xs) × (p (get_or xs j d) ≡ true)
  one_of [] d some = absurd (omega (arith, some))
  one_of (x ∷ xs) d some = elim (cases_Bool (p x)) [
    | inl yes_is ↦ (0, omega arith, yes_is)
    | inr not_is ↦ let r = one_of xs d (let c = counted-none x xs not_is in omega (arith, c, some)) in (suc r.0, (let b = r.1 in omega (arith, b)), r.2)
  ]

  -- where two are counted, they stand at two places
  two_of : (xs : List X) (d : X) → 1 < count_by p xs → (i : ℕ) × (j : ℕ) × (i < j) × (j < length xs) × (p (get_or xs i d) ≡ true) × (p (get_or xs j d) ≡ true)
  two_of [] d some = absurd (omega (arith, some))
  two_of (x ∷ xs) d some = elim (cases_Bool (p x)) [
    | inl yes_is ↦ let r = one_of xs d (let c = counted-yes x xs yes_is in omega (arith, c, some)) in (0, suc r.0, omega arith, (let b = r.1 in omega (arith, b)), yes_is, r.2)
    | inr not_is ↦
        let r = two_of xs d (let c = counted-none x xs not_is in omega (arith, c, some)) in (suc r.0, suc r.1, (let b = r.2 in omega (arith, b)), (let b = r.3 in omega (arith, b)), r.4, r.5)
  ]

  some_one : (xs : List X) (j : ℕ) (d : X) → j < length xs → p (get_or xs j d) ≡ true → 0 < count_by p xs
  some_one xs j d inside is = grind (arith, common_steps, counted-yes)

  -- what stands at two places is counted twice
  pub some_two : (xs : List X) (i j : ℕ) (d : X) → i < j → j < length xs → p (get_or xs i d) ≡ true → p (get_or xs j d) ≡ true → 1 < count_by p xs
  some_two xs i j d less inside first second = grind (arith, common_steps, some_one, counted-yes)

is_name-is : (name n : Name) → is_name name n ≡ true → n ≡ name
is_name-is name n is = grind (arith, common_steps, and_parts, eqb-true)

pub is_name-yes : (name n : Name) → n ≡ name → is_name name n ≡ true
is_name-yes name n is = grind (arith, common_steps, eq-eqb)

module _ (names : List Name) (d : Name) where
  -- a name that stands twice stands at two places
  stands_at : (name : Name) → StandsTwiceIn names name → (i : ℕ) × (j : ℕ) × (i < j) × (j < length names) × (name_at names d i ≡ name) × (name_at names d j ≡ name)
  stands_at name twice = let r = two_of (is_name name) names d twice in (r.0, r.1, r.2, r.3, is_name-is name (get_or names r.0 d) r.4, is_name-is name (get_or names r.1 d) r.5)

  -- of names that don't fall, the first that is repeated is the least that is
  pub least-twice : (k : ℕ) → DoNotFall names → RisesTo (k + 1) names → k + 1 < length names → name_at names d k ≡ name_at names d (k + 1) → IsLeastTwiceIn names (name_at names d (k + 1))
  least-twice k sorted rises inside same =
      let name = name_at names d (k + 1) in (
        some_two (is_name name) names k (k + 1) d (omega arith) inside (is_name-yes name (name_at names d k) same) (is_name-yes name name refl),
        λ other twice before.
            let r = stands_at other twice in
            elim (cases_lt r.1 (k + 1)) [
              | inl low ↦ before-itself other (subst (λ n. IsBefore n other) r.4 (subst (λ n. IsBefore (name_at names d r.0) n) r.5 (rises_between names d (k + 1) r.0 r.1 rises r.2 low)))
              | inr high ↦
                  let most : IsAtMost name other = subst (IsAtMost name) r.5 (at_most_between names d (k + 1) r.1 sorted high r.3) in
                  elim most [ inl less ↦ before-itself name (before-trans name other name less before) | inr is ↦ before-itself other (subst (IsBefore other) is before) ]
            ],
      )

-- where all names rise none stands twice
pub own-names : (names : List Name) → RisesTo (length names) names → AreOwn names
own-names names rises name twice =
    let r = stands_at names name name twice in
    before-itself name (subst (λ n. IsBefore n name) r.4 (subst (λ n. IsBefore (name_at names name r.0) n) r.5 (rises_between names name (length names) r.0 r.1 rises r.2 r.3)))

-- in another order the same names stand twice
module _ (given names : List Name) (moved : IsPermutation given names) where
  times-permuted : (name : Name) → count_by (is_name name) names ≡ count_by (is_name name) given
  times-permuted name = sum_by-IsPermutation (λ n. cond (is_name name n) 1 0) given names moved

  pub repeats-permuted : (found : Option Name) → MatchOption found (AreOwn names) (IsLeastTwiceIn names) → MatchOption found (AreOwn given) (IsLeastTwiceIn given)
  repeats-permuted None own = λ name twice. own name (subst (λ n. 1 < n) (sym (times-permuted name)) twice)
  repeats-permuted (Some name) least =
      (subst (λ n. 1 < n) (times-permuted name) least.0, λ other twice. least.1 other (subst (λ n. 1 < n) (sym (times-permuted other)) twice))

-- the names of shared sections are those of their values
pub names-values : {S : Type 0} (value : S → Trace) (ss : List S) → map (λ s. (value s).name) ss ≡ names_of (map value ss)
names-values value [] = refl
names-values value (s ∷ ss) = ap (λ rest. (value s).name ∷ rest) (names-values value ss)
