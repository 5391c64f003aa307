-- Two rising lists that are scanned side by side for names that both have.
use Rattle.std.proofs.{Common.{◌≡◌, ℕ, ◌+◌, ◌<◌, ◌≤◌, List, length, sym, ◌∙◌, ap, subst, refl, arith, inl, inr, get_or, Contains}, lemmas.Bool.{cases_order}, lemmas.List.{get_or_default}, lemmas.List.Elements.{Contains-get_or}, lemmas.Grind.{common_steps}}
use Rattle.pmf_event.specs.Section.{Trace}
use Rattle.pmf_verdict.specs.Checked.{Checked}
use Rattle.pmf_ledger.{specs.Joining.{AgreeInNames, IsLeastDiffering}, specs.Names.{ComesBefore, IsBefore, Rises}, proofs.lemmas.NameLemmas.{before-itself, before-trans}}

-- where the first i of the one list and any of the other have one name, they are one section
abbrev pub FrontAgrees : List Checked → List Checked → ℕ → Type 0
FrontAgrees xs ys i = (k : ℕ) (d y : Checked) → k < i → Contains ys y → (get_or xs k d).section.name ≡ y.section.name → (get_or xs k d).section ≡ y.section

-- what is known of the first i of one list and the first j of the other
pub record Scanned (xs ys : List Checked) (i j : ℕ) : Type 0 where
  pub first_within : i ≤ length xs
  pub second_within : j ≤ length ys
  pub first : FrontAgrees xs ys i
  pub second : FrontAgrees ys xs j

pub Scanned-turned : (xs ys : List Checked) (i j : ℕ) → Scanned xs ys i j → Scanned ys xs j i
Scanned-turned xs ys i j scanned = grind (arith, common_steps)

-- the sections x and y are read at i and j
pub record AreRead (xs ys : List Checked) (i j : ℕ) (x y : Checked) : Type 0 where
  pub first_inside : i < length xs
  pub second_inside : j < length ys
  pub first_is : x ≡ get_or xs i x
  pub second_is : y ≡ get_or ys j y

pub AreRead-turned : (xs ys : List Checked) (i j : ℕ) (x y : Checked) → AreRead xs ys i j x y → AreRead ys xs j i y x
AreRead-turned xs ys i j x y read = grind (arith, common_steps)

read_at : (xs : List Checked) (i : ℕ) (x d : Checked) → i < length xs → x ≡ get_or xs i x → get_or xs i d ≡ x
read_at xs i x d inside is = get_or_default xs i d x inside ∙ sym is

module _ (xs ys : List Checked) (i j : ℕ) (x y : Checked) (scanned : Scanned xs ys i j) (read : AreRead xs ys i j x y) where
  -- the section at i agrees with all of the other list, if that at j is not before it
  agrees_with_all : Rises ys → (ComesBefore y x → ⊥) → (x.section.name ≡ y.section.name → x.section ≡ y.section) → (z : Checked) → Contains ys z → x.section.name ≡ z.section.name → x.section ≡ z.section
  agrees_with_all rises after agree z found same =
      let here = found.2 in let at_j : get_or ys j z ≡ y = read_at ys j y z read.second_inside read.second_is in
      let has_x : Contains xs x = subst (Contains xs) (sym read.first_is) (Contains-get_or xs i x read.first_inside) in
      elim (cases_order found.0 j) [
        | inl there ↦
            let is_y : z ≡ y = sym here ∙ ap (λ n. get_or ys n z) there ∙ at_j in agree (same ∙ ap (λ (c : Checked). c.section.name) is_y) ∙ ap (λ (c : Checked). c.section) (sym is_y)
        | inr aside ↦ elim aside [
          | inl less ↦ sym (scanned.second found.0 z x less has_x (ap (λ (c : Checked). c.section.name) here ∙ sym same)) ∙ ap (λ (c : Checked). c.section) here
          | inr more ↦
              let pair = rises j found.0 z more found.1 in let before : ComesBefore y z = subst (λ c. ComesBefore c z) at_j (subst (ComesBefore (get_or ys j z)) here pair) in
              absurd (after (subst (IsBefore y.section.name) (sym same) before))
        ]
      ]

  front_more : Rises ys → (ComesBefore y x → ⊥) → (x.section.name ≡ y.section.name → x.section ≡ y.section) → FrontAgrees xs ys (i + 1)
  front_more rises after agree k d z less found same = elim (cases_order k i) [
    | inl there ↦
        let is_x : get_or xs k d ≡ x = ap (λ n. get_or xs n d) there ∙ read_at xs i x d read.first_inside read.first_is in
        ap (λ (c : Checked). c.section) is_x ∙ agrees_with_all rises after agree z found (ap (λ (c : Checked). c.section.name) (sym is_x) ∙ same)
    | inr aside ↦ elim aside [ inl low ↦ scanned.first k d z low found same | inr high ↦ absurd (omega (arith, less, high)) ]
  ]

  pub Scanned_first : Rises ys → ComesBefore x y → Scanned xs ys (i + 1) j
  Scanned_first rises before = record {
    first_within = let inside = read.first_inside in omega (arith, inside);
    second_within = scanned.second_within;
    first = front_more rises (λ after. before-itself x.section.name (before-trans _ y.section.name _ before after))
        (λ same. absurd (before-itself y.section.name (subst (λ n. IsBefore n y.section.name) same before)));
    second = scanned.second;
  }

  -- of two that differ and have one name, that name is the least of its kind
  pub least_here : Rises xs → x.section.name ≡ y.section.name → (x.section ≡ y.section → ⊥) → IsLeastDiffering xs ys x.section.name
  least_here rises same differ = record {
    first = x;
    second = y;
    of_first = subst (Contains xs) (sym read.first_is) (Contains-get_or xs i x read.first_inside);
    of_second = subst (Contains ys) (sym read.second_is) (Contains-get_or ys j y read.second_inside);
    first_named = refl;
    second_named = sym same;
    differ = differ;
    least = λ a b in_first in_second even before.
        let at_i : get_or xs i a ≡ x = read_at xs i x a read.first_inside read.first_is in
        elim (cases_order in_first.0 i) [
          | inl there ↦
              let is_x : a ≡ x = sym in_first.2 ∙ ap (λ n. get_or xs n a) there ∙ at_i in
              absurd (before-itself x.section.name (subst (λ (c : Checked). IsBefore c.section.name x.section.name) is_x before))
          | inr aside ↦ elim aside [
            | inl less ↦ let is = in_first.2 in ap (λ (c : Checked). c.section) (sym is) ∙ scanned.first in_first.0 a b less in_second (ap (λ (c : Checked). c.section.name) is ∙ even)
            | inr more ↦
                let pair = rises i in_first.0 a more in_first.1 in let after : ComesBefore x a = subst (λ c. ComesBefore c a) at_i (subst (ComesBefore (get_or xs i a)) in_first.2 pair) in
                absurd (before-itself x.section.name (before-trans _ a.section.name _ after before))
          ]
        ];
  }

pub Scanned_second : (xs ys : List Checked) (i j : ℕ) (x y : Checked) → Scanned xs ys i j → AreRead xs ys i j x y → Rises xs → ComesBefore y x → Scanned xs ys i (j + 1)
Scanned_second xs ys i j x y scanned read rises before =
    Scanned-turned ys xs (j + 1) i (Scanned_first ys xs j i y x (Scanned-turned xs ys i j scanned) (AreRead-turned xs ys i j x y read) rises before)

pub Scanned-both : (xs ys : List Checked) (i j : ℕ) (x y : Checked) → Scanned xs ys i j → AreRead xs ys i j x y → Rises xs → Rises ys → x.section ≡ y.section → Scanned xs ys (i + 1) (j + 1)
Scanned-both xs ys i j x y scanned read first second same =
    let name : x.section.name ≡ y.section.name = ap (λ (s : Trace). s.name) same in
    record {
      first_within = let inside = read.first_inside in omega (arith, inside);
      second_within = let inside = read.second_inside in omega (arith, inside);
      first = front_more xs ys i j x y scanned read second (λ before. before-itself y.section.name (subst (IsBefore y.section.name) name before)) (λ _. same);
      second = front_more ys xs j i y x (Scanned-turned xs ys i j scanned) (AreRead-turned xs ys i j x y read) first
          (λ before. before-itself x.section.name (subst (IsBefore x.section.name) (sym name) before)) (λ _. sym same);
    }

-- once the one list or the other has been gone through, they agree
pub Scanned-ends : (xs ys : List Checked) (i j : ℕ) → Scanned xs ys i j → (i < length xs → j < length ys → ⊥) → AgreeInNames xs ys
Scanned-ends xs ys i j scanned end x y in_first in_second same = elim (cases_order i (length xs)) [
  | inl all ↦
      let is = in_first.2 in let inside = in_first.1 in
      ap (λ (c : Checked). c.section) (sym is) ∙ scanned.first in_first.0 x y (omega (arith, inside, all)) in_second (ap (λ (c : Checked). c.section.name) is ∙ same)
  | inr aside ↦ elim aside [
    | inl some ↦
        let is = in_second.2 in let inside = in_second.1 in
        let all : length ys ≤ j = grind (arith, common_steps, cases_order) in
        sym (ap (λ (c : Checked). c.section) (sym is) ∙ scanned.second in_second.0 y x (omega (arith, inside, all)) in_first (ap (λ (c : Checked). c.section.name) is ∙ sym same))
    | inr more ↦ let within = scanned.first_within in absurd (omega (arith, more, within))
  ]
]
