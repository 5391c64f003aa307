-- The first of each kind of some rows, with one row more.
use Rattle.std.{proofs.Common.{◌≡◌, ℕ, zero, suc, ◌<◌, ◌≤◌, Bool, true, false, cond, List, [], ◌∷◌, ◌++◌, length, take, refl, sym, ap, subst, ◌∙◌, arith, length-append, length-take, take_all, not, ◌||◌, filter, append-nil}, specs.List.{list_any}, proofs.lemmas.List.{take-append-le}, proofs.lemmas.List.Elements.{filter-append}, proofs.lemmas.Grind.{common_steps}}
use Rattle.pmf_why.specs.Reasons.{Bad, firsts}

any_left : (test : Bad → Bool) (out : Bool) (n : Bad) (left rows : List Bad) → (out ≡ true → test n ≡ false) → list_any test left ≡ list_any test rows →
    list_any test (cond (not out) (n ∷ left) left) ≡ (test n || list_any test rows)
any_left test out n left rows none rest = grind (arith, common_steps)

-- rows of one kind are alike to the same rows
module _ (alike : Bad → Bad → Bool) (passes_on : (x y z : Bad) → alike x y ≡ true → alike y z ≡ alike x z) where
  -- whether one of the rows is alike
  abbrev pub is_met : List Bad → Bad → Bool
  is_met rows y = list_any (λ x. alike x y) rows

  -- those that are not alike
  abbrev others : Bad → List Bad → List Bad
  others x rows = filter (λ y. not (alike x y)) rows

  -- these rows, and the row where it is alike to none of them
  abbrev pub with_one_more : List Bad → Bad → List Bad
  with_one_more rows y = cond (is_met rows y) rows (rows ++ y ∷ [])

  same_test : (x n y : Bad) → alike x y ≡ false → alike x n ≡ true → alike n y ≡ false
  same_test x n y apart same = passes_on x n y same ∙ apart

  met_others : (x y : Bad) → alike x y ≡ false → (rows : List Bad) → is_met (others x rows) y ≡ is_met rows y
  met_others x y apart [] = refl
  met_others x y apart (n ∷ rows) = grind (arith, common_steps, any_left, same_test, met_others x y apart rows)

  -- a row is alike to one of the firsts where it is alike to any
  so_met : (x y : Bad) (rows fs : List Bad) → is_met fs y ≡ is_met rows y → is_met (x ∷ others x fs) y ≡ is_met (x ∷ rows) y
  so_met x y rows fs same = grind (arith, common_steps, met_others)

  pub met_firsts : (rows : List Bad) (y : Bad) → is_met (firsts alike rows) y ≡ is_met rows y
  unfolding firsts
  met_firsts [] y = refl
  met_firsts (x ∷ rows) y = so_met x y rows (firsts alike rows) (met_firsts rows y)

  filter_more : (x : Bad) (fs : List Bad) (last : Bad) (among same : Bool) → alike x last ≡ same →
      others x (cond among fs (fs ++ last ∷ [])) ≡ cond (among || same) (others x fs) (others x fs ++ last ∷ [])
  filter_more x fs last among same is = grind (arith, common_steps, filter-append, append-nil)

  push_so : (x last : Bad) (fs : List Bad) → x ∷ others x (with_one_more fs last) ≡ with_one_more (x ∷ others x fs) last
  push_so x last fs = grind (arith, common_steps, filter_more, met_others)

  pub firsts_more : (rows : List Bad) (y : Bad) → firsts alike (rows ++ y ∷ []) ≡ with_one_more (firsts alike rows) y
  unfolding firsts
  firsts_more [] y = refl
  firsts_more (x ∷ rows) y = ap (λ (fs : List Bad). x ∷ others x fs) (firsts_more rows y) ∙ push_so x y (firsts alike rows)

  -- ---- the first so many of them

  or_so : (a b c : Bool) → (b ≡ true → c ≡ true) → (a || b) ≡ true → (a || c) ≡ true
  or_so a b c so is = grind (arith, common_steps)

  met_first : (n : ℕ) (rows : List Bad) (y : Bad) → is_met (take n rows) y ≡ true → is_met rows y ≡ true
  met_first zero rows y none = cc
  met_first (suc n) [] y none = none
  met_first (suc n) (x ∷ rows) y is = or_so (alike x y) (is_met (take n rows) y) (is_met rows y) (met_first n rows y) is

  -- a row that is alike to one that is told
  pub told_again : (n : ℕ) (rows : List Bad) (y : Bad) → is_met (take n (firsts alike rows)) y ≡ true → take n (firsts alike (rows ++ y ∷ [])) ≡ take n (firsts alike rows)
  told_again n rows y met =
      let is : is_met (firsts alike rows) y ≡ true = met_first n (firsts alike rows) y met in
      ap (take n) (firsts_more rows y ∙ ap (λ b. cond b (firsts alike rows) (firsts alike rows ++ y ∷ [])) is)

  -- all of them, where there is room
  all_told : (n : ℕ) (rows : List Bad) → length (take n (firsts alike rows)) < n → take n (firsts alike rows) ≡ firsts alike rows
  all_told n rows room = take_all n (firsts alike rows) (omega (arith, length-take n (firsts alike rows)))

  -- a row that is told now
  pub told_new : (n : ℕ) (rows : List Bad) (y : Bad) → is_met (take n (firsts alike rows)) y ≡ false → length (take n (firsts alike rows)) < n →
      take n (firsts alike (rows ++ y ∷ [])) ≡ take n (firsts alike rows) ++ y ∷ []
  told_new n rows y apart room =
      let all = all_told n rows room in
      let more : firsts alike (rows ++ y ∷ []) ≡ take n (firsts alike rows) ++ y ∷ [] =
      firsts_more rows y ∙ ap (λ b. cond b (firsts alike rows) (firsts alike rows ++ y ∷ [])) (subst (λ (fs : List Bad). is_met fs y ≡ false) all apart)
      ∙ ap (λ (fs : List Bad). fs ++ y ∷ []) (sym all) in
      take_all n (firsts alike (rows ++ y ∷ [])) (omega (arith, ap length more, length-append (take n (firsts alike rows)) (y ∷ []))) ∙ more

  take_full : (among : Bool) (n : ℕ) (fs : List Bad) (y : Bad) → n ≤ length fs → take n (cond among fs (fs ++ y ∷ [])) ≡ take n fs
  take_full among n fs y full = grind (arith, common_steps, take-append-le)

  -- a row that is not, since enough are told
  pub told_full : (n : ℕ) (rows : List Bad) (y : Bad) → n ≤ length (take n (firsts alike rows)) → take n (firsts alike (rows ++ y ∷ [])) ≡ take n (firsts alike rows)
  told_full n rows y full =
      ap (take n) (firsts_more rows y) ∙ take_full (is_met (firsts alike rows) y) n (firsts alike rows) y (omega (arith, length-take n (firsts alike rows)))
