-- One block more is told as it stands.
use Rattle.std.proofs.{Common.{◌≡◌, ℕ, List, [], ◌∷◌, ◌++◌, get_or, Option, Some, None, Contains, refl, sym, ◌∙◌, ap, subst, inl, inr}, lemmas.List.Elements.{Contains-append_left, Contains-get_or, Contains-push, Contains-push_cases}, lemmas.List.Quantifiers.{all_pairs_push}}
use Rattle.pmf_event.specs.declared.name.Name.{Name}
use Rattle.pmf_ledger.{specs.Names.{IsBefore}, specs.RawText.{RawBlock, RawNamesRise}, proofs.lemmas.MergingLemmas.{AllPairs-last, none_of_empty}, proofs.lemmas.NameLemmas.{before-itself, before-trans}}
use Rattle.pmf_merge.specs.{Heads.{IsUpTo}, RawWritten.{AddsRaw, IsLastTold}}

-- it is the last that was told
pub told_last : (out : List RawBlock) (name : Name) (bytes : List ℕ) → IsLastTold out (Some name) bytes → Contains out (record { name = name; bytes = bytes })
told_last out name bytes (before, whole) = subst (λ bs. Contains bs (record { name = name; bytes = bytes })) (sym whole) (Contains-push before (record { name = name; bytes = bytes }))

pub one_raw : (v : RawBlock) (name : Name) (bytes : List ℕ) → v.name ≡ name → v.bytes ≡ bytes → v ≡ record { name = name; bytes = bytes }
one_raw v name bytes named is = λ i. record { name = named i; bytes = is i }

pub adds_same : (out : List RawBlock) (v : RawBlock) → Contains out v → RawNamesRise out → AddsRaw out v out
adds_same out v has rises = record {
  members = λ c. (λ found. inl found, λ either. elim either [ inl earlier ↦ earlier | inr same ↦ subst (Contains out) (sym same) has ]);
  rises = rises;
}

-- where no last block has its name, all come before it
all_before : (out : List RawBlock) (last : Option Name) (bytes : List ℕ) (v : RawBlock) → IsLastTold out last bytes → RawNamesRise out → ((c : RawBlock) → Contains out c → IsUpTo c.name v.name) →
    (last ≡ Some v.name → ⊥) → (c : RawBlock) → Contains out c → IsBefore c.name v.name
all_before out None bytes v none rises upto other c found = absurd (none_of_empty [] c refl (subst (λ bs. Contains bs c) none found))
all_before out (Some name) bytes v (before, whole) rises upto other c found = elim (upto c found) [
  | inr less ↦ less
  | inl same ↦ absurd (wrong same)
]
  where
    wrong : c.name ≡ v.name → ⊥
    wrong same = elim (Contains-push_cases before (record { name = name; bytes = bytes }) c (subst (λ bs. Contains bs c) whole found)) [
      | inl earlier ↦
          let less : IsBefore c.name name = AllPairs-last (λ (x : RawBlock) (y : RawBlock). IsBefore x.name y.name) before (record { name = name; bytes = bytes }) (subst RawNamesRise whole rises) c earlier in
          elim (upto (record { name = name; bytes = bytes }) (subst (λ bs. Contains bs (record { name = name; bytes = bytes })) (sym whole) (Contains-push before (record { name = name; bytes = bytes })))) [
            | inl it ↦ other (ap Some it)
            | inr more ↦ before-itself v.name (subst (λ n. IsBefore n v.name) same (before-trans c.name name v.name less more))
          ]
      | inr here ↦ other (ap Some (ap (λ (b : RawBlock). b.name) here ∙ same))
    ]

pub adds_new : (out : List RawBlock) (last : Option Name) (bytes : List ℕ) (v : RawBlock) → IsLastTold out last bytes → RawNamesRise out → ((c : RawBlock) → Contains out c → IsUpTo c.name v.name) →
    (last ≡ Some v.name → ⊥) → AddsRaw out v (out ++ v ∷ [])
adds_new out last bytes v is rises upto other = record {
  members = λ c. (
    λ found. elim (Contains-push_cases out v c found) [ inl earlier ↦ inl earlier | inr here ↦ inr (sym here) ],
    λ has. elim has [ inl earlier ↦ Contains-append_left out (v ∷ []) c earlier | inr here ↦ subst (Contains (out ++ v ∷ [])) (sym here) (Contains-push out v) ],
  );
  rises = all_pairs_push (λ (x : RawBlock) (y : RawBlock). IsBefore x.name y.name) out v rises
      (λ k d inside. all_before out last bytes v is rises upto other (get_or out k d) (Contains-get_or out k d inside));
}
