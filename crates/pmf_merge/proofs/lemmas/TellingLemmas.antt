-- One section more is told.
use Rattle.std.proofs.{Common.{◌≡◌, ℕ, List, [], ◌∷◌, ◌++◌, get_or, Option, Some, None, Result, Ok, Err, OnOk, All, Contains, refl, sym, ◌∙◌, ap, subst, inl, inr, append_assoc}, lemmas.List.Elements.{All-contains, Contains-append_left, Contains-get_or, Contains-push, Contains-push_cases}, lemmas.List.Quantifiers.{all_pairs_push}}
use Rattle.pmf_event.specs.declared.{profile.Profile.{Profile}}
use Rattle.pmf_verdict.specs.Checked.{Checked, checked_by}
use Rattle.pmf_ledger.{specs.Names.{ComesBefore, IsBefore, Rises}, proofs.lemmas.MergingLemmas.{AllPairs-last, none_of_empty}, proofs.lemmas.NameLemmas.{before-itself, before-trans}, proofs.lemmas.TellingLemmas.{parts_push}, specs.declared.form.Form.{Form}, specs.Telling.{part_of, parts_after}}
use Rattle.pmf_merge.specs.Heads.{HasTold, IsLast, IsUpTo}

-- where it comes after the last, it comes after all
all_before : (out : List Checked) (last : Option Checked) (v : Checked) → IsLast out last → Rises out → ((l : Checked) → last ≡ Some l → IsBefore l.section.name v.section.name) →
    (c : Checked) → Contains out c → ComesBefore c v
all_before out None v none rises after c found = absurd (none_of_empty [] c refl (subst (λ cs. Contains cs c) none found))
all_before out (Some l) v (before, whole) rises after c found = elim (Contains-push_cases before l c (subst (λ cs. Contains cs c) whole found)) [
  | inl earlier ↦ before-trans c.section.name l.section.name v.section.name (AllPairs-last ComesBefore before l (subst Rises whole rises) c earlier) (after l refl)
  | inr here ↦ subst (λ (d : Checked). ComesBefore d v) here (after l refl)
]

pub tells_new : (out : List Checked) (last : Option Checked) (v : Checked) → IsLast out last → Rises out → ((l : Checked) → last ≡ Some l → IsBefore l.section.name v.section.name) →
    HasTold out v (out ++ v ∷ [])
tells_new out last v is rises after = record {
  members = λ c. (
    λ found. elim (Contains-push_cases out v c found) [ inl earlier ↦ inl earlier | inr here ↦ inr (sym here) ],
    λ has. elim has [ inl earlier ↦ Contains-append_left out (v ∷ []) c earlier | inr here ↦ subst (Contains (out ++ v ∷ [])) (sym here) (Contains-push out v) ],
  );
  rises = all_pairs_push ComesBefore out v rises (λ k d inside. all_before out last v is rises after (get_or out k d) (Contains-get_or out k d inside));
}

pub tells_same : (out : List Checked) (last : Option Checked) (v l : Checked) (profile : Profile) → IsLast out last → Rises out → All (λ (c : Checked). c.profile ≡ profile) out →
    v.profile ≡ profile → last ≡ Some l → l.section ≡ v.section → HasTold out v out × ((before : List Checked) × (out ≡ before ++ v ∷ []))
tells_same out last v l profile is rises by own some same =
    let at_end : (before : List Checked) × (out ≡ before ++ l ∷ []) = subst (IsLast out) some is in
    let has_l : Contains out l = subst (λ cs. Contains cs l) (sym at_end.1) (Contains-push at_end.0 l) in
    let one : l ≡ v = ap (λ p. checked_by p l.section) (All-contains (λ (c : Checked). c.profile ≡ profile) out l by has_l ∙ sym own) ∙ ap (checked_by v.profile) same in (
      record {
        members = λ c. (λ found. inl found, λ has. elim has [ inl earlier ↦ earlier | inr here ↦ subst (Contains out) (sym one ∙ ap (λ d. d) one ∙ sym one ∙ one ∙ sym here) (subst (Contains out) one has_l) ]);
        rises = rises;
      },
      (at_end.0, at_end.1 ∙ ap (λ c. at_end.0 ++ c ∷ []) one),
    )

-- it does not come before the last
pub not_after : (out : List Checked) (l v : Checked) (last : Option Checked) → IsLast out last → last ≡ Some l → ((c : Checked) → Contains out c → IsUpTo c.section.name v.section.name) →
    IsBefore v.section.name l.section.name → ⊥
not_after out l v last is some upto before =
    let at_end : (front : List Checked) × (out ≡ front ++ l ∷ []) = subst (IsLast out) some is in
    elim (upto l (subst (λ cs. Contains cs l) (sym at_end.1) (Contains-push at_end.0 l))) [
      | inl same ↦ before-itself v.section.name (subst (IsBefore v.section.name) same before)
      | inr less ↦ before-itself v.section.name (before-trans v.section.name l.section.name v.section.name before less)
    ]

pub OnOk_map : {X E : Type 0} (result : Result X E) (P Q : Type 0) → OnOk result P → (P → Q) → OnOk result Q
OnOk_map (Ok x) P Q holds follows = follows holds
OnOk_map (Err e) P Q holds follows = tt

-- the text grows by the section's part
pub whole_more : (form : Form) (front rest new before : List ℕ) (out : List Checked) (v : Checked) → front ++ rest ≡ before ++ parts_after form [] out → new ≡ rest ++ part_of form out v →
    front ++ new ≡ before ++ parts_after form [] (out ++ v ∷ [])
whole_more form front rest new before out v whole more =
    ap (λ xs. front ++ xs) more ∙ sym (append_assoc front rest (part_of form out v)) ∙ ap (λ xs. xs ++ part_of form out v) whole ∙ append_assoc before (parts_after form [] out) (part_of form out v)
    ∙ ap (λ xs. before ++ xs) (sym (parts_push form [] out v))
