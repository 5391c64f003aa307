-- Two rising lists, while they are merged from their ends, and once they are.
use Rattle.std.proofs.{Common.{◌≡◌, ◌-◌, ◌<◌, List, [], ◌∷◌, ◌++◌, length, reverse, sym, ◌∙◌, ap, subst, arith, inl, inr, get_or, ◌⊎◌, ◌↔◌, Contains, AllPairs, length-append, rules}, lemmas.Bool.{cases_order}, lemmas.List.{get_or_append_left, get_or_default, get_or_push, get_or-reverse, length-reverse, reverse-reverse}, lemmas.List.Elements.{Contains-append_left, Contains-get_or, Contains-push, Contains-push_cases}, lemmas.List.Sorted.{Contains-permutation, IsPermutation-reverse}, lemmas.List.Quantifiers.{all_pairs_push}, lemmas.Grind.{common_steps}}
use Rattle.pmf_verdict.specs.Checked.{Checked}
use Rattle.pmf_ledger.{specs.Joining.{IsMerged, IsMerging}, specs.Names.{ComesBefore, Rises}, proofs.lemmas.NameLemmas.{before-trans}}

-- where each pair of a list is related, so is each pair of its front
pub AllPairs-front : {X : Type 0} (R : X → X → Type 0) (xs ys : List X) → AllPairs R (xs ++ ys) → AllPairs R xs
AllPairs-front R xs ys pairs = search (rules, get_or_append_left, length-append)

-- and each element of the front with the last
pub AllPairs-last : {X : Type 0} (R : X → X → Type 0) (xs : List X) (x : X) → AllPairs R (xs ++ x ∷ []) → (c : X) → Contains xs c → R c x
AllPairs-last R xs x pairs c found = search (rules, length-append, get_or_append_left, get_or_push)

-- each pair of the list turned round is a pair of the list
AllPairs-reverse : {X : Type 0} (R : X → X → Type 0) (xs : List X) → AllPairs (λ a b. R b a) xs → AllPairs R (reverse xs)
AllPairs-reverse R xs pairs = grind (arith, common_steps, length-reverse, get_or-reverse)

pub Contains-reverse : {X : Type 0} (xs : List X) (x : X) → Contains (reverse xs) x → Contains xs x
Contains-reverse xs x found = subst (λ zs. Contains zs x) (reverse-reverse xs) (Contains-permutation (reverse xs) (reverse (reverse xs)) x (IsPermutation-reverse (reverse xs)) found)

pub none_of_empty : {X : Type 0} (xs : List X) (x : X) → length xs ≡ 0 → Contains xs x → ⊥
none_of_empty xs x empty found = let inside = found.1 in omega (arith, empty, inside)

-- the last of a rising list, as it is read
module _ (xs front : List Checked) (x read : Checked) (is : xs ≡ front ++ x ∷ []) (found : read ≡ get_or xs (length xs - 1) read) where
  pub last_is : read ≡ x
  last_is = grind (arith, common_steps, length-append, get_or_push)

-- each of a rising list is the last or comes before it
pub before_last : (xs : List Checked) (read c : Checked) → Rises xs → read ≡ get_or xs (length xs - 1) read → Contains xs c → (c ≡ read) ⊎ ComesBefore c read
before_last xs read c rises is found =
    let inside = found.1 in let at_end : read ≡ get_or xs (length xs - 1) c = is ∙ get_or_default xs (length xs - 1) read c (omega (arith, inside)) in
    elim (cases_order found.0 (length xs - 1)) [ inl there ↦ inl (sym found.2 ∙ ap (λ n. get_or xs n c) there ∙ sym at_end) | inr aside ↦ grind (arith, common_steps) ]

pub all_before : (xs : List Checked) (read x : Checked) → Rises xs → read ≡ get_or xs (length xs - 1) read → ComesBefore read x → (c : Checked) → Contains xs c → ComesBefore c x
all_before xs read x rises is before c found = elim (before_last xs read c rises is found) [
  | inl same ↦ subst (λ d. ComesBefore d x) (sym same) before
  | inr less ↦ before-trans c.section.name read.section.name x.section.name less before
]

pub read_is_held : (xs : List Checked) (read : Checked) → read ≡ get_or xs (length xs - 1) read → length xs - 1 < length xs → Contains xs read
read_is_held xs read is inside = subst (Contains xs) (sym is) (Contains-get_or xs (length xs - 1) read inside)

-- what has one element more behind has just that more
pushed : {X : Type 0} (xs : List X) (x c : X) → Contains (xs ++ x ∷ []) c ↔ (Contains xs c ⊎ (x ≡ c))
pushed xs x c = (Contains-push_cases xs x c, λ has. elim has [ inl inside ↦ Contains-append_left xs (x ∷ []) c inside | inr here ↦ subst (Contains (xs ++ x ∷ [])) here (Contains-push xs x) ])

-- of what is in one of three, where one is changed for another and what that lacks
moved : {K A B C D E H : Type 0} → K ↔ ((A ⊎ B) ⊎ C) → A ↔ (D ⊎ H) → E ↔ (C ⊎ H) → K ↔ ((D ⊎ B) ⊎ E)
moved k a e = grind (arith, common_steps)

dropped : {K A B C D H : Type 0} → K ↔ ((A ⊎ B) ⊎ C) → A ↔ (D ⊎ H) → (H → B) → K ↔ ((D ⊎ B) ⊎ C)
dropped k a h = grind (arith, common_steps)

turned : {K L A B C : Type 0} → (K ⊎ L) ↔ ((A ⊎ B) ⊎ C) → (L ⊎ K) ↔ ((B ⊎ A) ⊎ C)
turned k = grind (arith, common_steps)

-- the two lists are on a par
Merging-turned : (xs ys left right merged : List Checked) → IsMerging xs ys left right merged → IsMerging ys xs right left merged
Merging-turned xs ys left right merged so_far = record {
  kept = λ c. turned (so_far.kept c);
  left_rises = so_far.right_rises;
  right_rises = so_far.left_rises;
  agree = λ x y in_right in_left same. sym (so_far.agree y x in_left in_right (sym same));
  falls = so_far.falls;
  left_before = so_far.right_before;
  right_before = so_far.left_before;
}

-- the left's last is merged, where the right is empty or its last comes before
pub Merging-left : (xs ys old left right merged new : List Checked) (x : Checked) → old ≡ left ++ x ∷ [] → new ≡ merged ++ x ∷ [] →
    ((c : Checked) → Contains right c → ComesBefore c x) → IsMerging xs ys old right merged → IsMerging xs ys left right new
Merging-left xs ys old left right merged new x is made after before_it =
    let so_far = subst (λ zs. IsMerging xs ys zs right merged) is before_it in subst (IsMerging xs ys left right) (sym made) (record {
      kept = λ c. moved (so_far.kept c) (pushed left x c) (pushed merged x c);
      left_rises = AllPairs-front ComesBefore left (x ∷ []) so_far.left_rises;
      right_rises = so_far.right_rises;
      agree = λ c d in_left in_right same. so_far.agree c d (Contains-append_left left (x ∷ []) c in_left) in_right same;
      falls = all_pairs_push (λ (later : Checked) (earlier : Checked). ComesBefore earlier later) merged x so_far.falls
          (λ k d inside. so_far.left_before x (get_or merged k d) (Contains-push left x) (Contains-get_or merged k d inside));
      left_before = λ c d in_left done. elim (Contains-push_cases merged x d done) [
        | inl before ↦ so_far.left_before c d (Contains-append_left left (x ∷ []) c in_left) before
        | inr here ↦ subst (ComesBefore c) here (AllPairs-last ComesBefore left x so_far.left_rises c in_left)
      ];
      right_before = λ c d in_right done. elim (Contains-push_cases merged x d done) [ inl before ↦ so_far.right_before c d in_right before | inr here ↦ subst (ComesBefore c) here (after c in_right) ];
    })

pub Merging-right : (xs ys left old right merged new : List Checked) (x : Checked) → old ≡ right ++ x ∷ [] → new ≡ merged ++ x ∷ [] →
    ((c : Checked) → Contains left c → ComesBefore c x) → IsMerging xs ys left old merged → IsMerging xs ys left right new
Merging-right xs ys left old right merged new x is made after so_far =
    Merging-turned ys xs right left new (Merging-left ys xs old right left merged new x is made after (Merging-turned xs ys left old merged so_far))

-- what both hold is dropped from the left
pub Merging-drop : (xs ys old left right merged : List Checked) (x y : Checked) → old ≡ left ++ x ∷ [] → Contains right y → x.section.name ≡ y.section.name →
    IsMerging xs ys old right merged → IsMerging xs ys left right merged
Merging-drop xs ys old left right merged x y is there same so_far =
    let now = subst (λ zs. IsMerging xs ys zs right merged) is so_far in
    let has = subst (Contains right) (sym (now.agree x y (Contains-push left x) there same)) there in
    record {
      kept = λ c. dropped (now.kept c) (pushed left x c) (λ here. subst (Contains right) here has);
      left_rises = AllPairs-front ComesBefore left (x ∷ []) now.left_rises;
      right_rises = now.right_rises;
      agree = λ c d in_left. now.agree c d (Contains-append_left left (x ∷ []) c in_left);
      falls = now.falls;
      left_before = λ c d in_left. now.left_before c d (Contains-append_left left (x ∷ []) c in_left);
      right_before = now.right_before;
    }

pub Merged-turned : (xs ys merged : List Checked) → IsMerging xs ys [] [] merged → IsMerged xs ys (reverse merged)
Merged-turned xs ys merged so_far = record {
  rises = AllPairs-reverse ComesBefore merged so_far.falls;
  holds = λ c. (
    λ found. (so_far.kept c).1 (inr (Contains-reverse merged c found)),
    λ has. elim ((so_far.kept c).0 has) [
      | inl rest ↦ absurd (elim rest [ inl l ↦ let n = l.1 in omega (arith, n) | inr r ↦ let n = r.1 in omega (arith, n) ])
      | inr done ↦ Contains-permutation merged (reverse merged) c (IsPermutation-reverse merged) done
    ],
  );
}
