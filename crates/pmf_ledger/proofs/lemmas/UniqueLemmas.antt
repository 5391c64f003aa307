-- A set has one ledger by a profile.
use Rattle.std.proofs.{Common.{◌≡◌, List, [], ◌∷◌, refl, sym, ◌∙◌, ap, subst, arith, inl, inr, suc, AllPairs, Contains}, lemmas.List.Elements.{All-contains}}
use Rattle.pmf_event.specs.{declared.name.Name.{Name}, declared.profile.Profile.{Profile}, Section.{Trace}}
use Rattle.pmf_verdict.specs.Checked.{Checked, checked_by}
use Rattle.pmf_ledger.{specs.Gathered.{Holds, IsLedgerOf}, specs.Gathering.{Agrees, HaveSameMembers}, specs.LedgerValue.{LedgerValue}, specs.Names.{IsBefore}, proofs.lemmas.AddingLemmas.{Contains-cons, Contains-cons_cases}, proofs.lemmas.MergingLemmas.{none_of_empty}, proofs.lemmas.NameLemmas.{before-itself, before-trans}, proofs.lemmas.StandingLemmas.{held-once}}

-- lists whose names rise
module _ {X : Type 0} (name : X → Name) where
  abbrev comes : X → X → Type 0
  comes x y = IsBefore (name x) (name y)

  abbrev rising : List X → Type 0
  rising xs = AllPairs (λ (x : X) (y : X). comes x y) xs

  -- behind the first of such a list the names rise
  pub Rises-rest : (x : X) (xs : List X) → rising (x ∷ xs) → rising xs
  Rises-rest x xs rises = λ i j d less inside. rises (suc i) (suc j) d (omega (arith, less)) (omega (arith, inside))

  -- and all of them come after it
  pub Rises-first : (x : X) (xs : List X) → rising (x ∷ xs) → (c : X) → Contains xs c → comes x c
  Rises-first x xs rises c found = subst (comes x) found.2 (rises 0 (suc found.0) c (omega arith) (let inside = found.1 in omega (arith, inside)))

  here : (x : X) (xs : List X) → Contains (x ∷ xs) x
  here x xs = Contains-cons x x xs (inl refl)

  behind : (c x : X) (xs : List X) → Contains xs c → Contains (x ∷ xs) c
  behind c x xs found = Contains-cons c x xs (inr found)

  -- two such lists with the same members have the same first
  first_same : (x y : X) (xs ys : List X) → rising (x ∷ xs) → rising (y ∷ ys) → Contains (y ∷ ys) x → Contains (x ∷ xs) y → x ≡ y
  first_same x y xs ys first second has_x has_y = elim (Contains-cons_cases x y ys has_x) [
    | inl same ↦ same
    | inr later ↦ elim (Contains-cons_cases y x xs has_y) [
      | inl same ↦ sym same
      | inr after ↦ absurd (before-itself (name x) (before-trans (name x) (name y) (name x) (Rises-first x xs first y after) (Rises-first y ys second x later)))
    ]
  ]

  -- what the one has behind its first the other has behind it too
  rest_has : (x : X) (xs ys : List X) → rising (x ∷ xs) → ((c : X) → Contains (x ∷ xs) c → Contains (x ∷ ys) c) → (c : X) → Contains xs c → Contains ys c
  rest_has x xs ys rises has c found = elim (Contains-cons_cases c x ys (has c (behind c x xs found))) [
    | inl same ↦ absurd (before-itself (name x) (subst (comes x) same (Rises-first x xs rises c found)))
    | inr later ↦ later
  ]

  -- such lists with the same members are one
  pub rising_once : (xs ys : List X) → rising xs → rising ys → ((c : X) → Contains xs c → Contains ys c) → ((c : X) → Contains ys c → Contains xs c) → xs ≡ ys
  rising_once [] [] first second to from = refl
  rising_once [] (y ∷ ys) first second to from = absurd (none_of_empty [] y refl (from y (here y ys)))
  rising_once (x ∷ xs) [] first second to from = absurd (none_of_empty [] x refl (to x (here x xs)))
  rising_once (x ∷ xs) (y ∷ ys) first second to from =
      let same : x ≡ y = first_same x y xs ys first second (to x (here x xs)) (from y (here y ys)) in
      let to_x : (c : X) → Contains (x ∷ xs) c → Contains (x ∷ ys) c = λ c found. subst (λ z. Contains (z ∷ ys) c) (sym same) (to c found) in
      let from_x : (c : X) → Contains (x ∷ ys) c → Contains (x ∷ xs) c = λ c found. from c (subst (λ z. Contains (z ∷ ys) c) same found) in
      let second_x : rising (x ∷ ys) = subst (λ z. rising (z ∷ ys)) (sym same) second in
      ap (λ z. z ∷ xs) same ∙ ap (λ zs. y ∷ zs) (rising_once xs ys (Rises-rest x xs first) (Rises-rest x ys second_x) (rest_has x xs ys first to_x) (rest_has x ys xs second_x from_x))

-- what the one ledger lists the other lists
module _ (profile : Profile) (xs ys : List Trace) (a b : LedgerValue) (of_a : IsLedgerOf profile xs a) (of_b : IsLedgerOf profile ys b) (members : (s : Trace) → Contains xs s → Contains ys s) where
  lists_too : (c : Checked) → Contains a.sections c → Contains b.sections c
  lists_too c found =
      let by : c.profile ≡ profile = All-contains (λ (d : Checked). d.profile ≡ profile) a.sections c of_a.checked found in let by_a : c.profile ≡ a.profile = by ∙ sym of_a.profile_is in
      let by_b : b.profile ≡ c.profile = of_b.profile_is ∙ sym by in let held : Holds a c.section = subst (λ p. Contains a.sections (checked_by p c.section)) by_a found in
      subst (λ p. Contains b.sections (checked_by p c.section)) by_b ((of_b.same c.section).1 (members c.section ((of_a.same c.section).0 held)))

abbrev ledger_value : Profile → List Checked → LedgerValue
ledger_value profile sections = record { profile = profile; sections = sections }

-- sets with the same members have one ledger
pub ledger_once : (profile : Profile) (xs ys : List Trace) (a b : LedgerValue) → IsLedgerOf profile xs a → IsLedgerOf profile ys b → HaveSameMembers xs ys → a ≡ b
ledger_once profile xs ys a b of_a of_b members =
    let sections : a.sections ≡ b.sections = rising_once (λ (s : Checked). s.section.name) a.sections b.sections of_a.rises of_b.rises
    (lists_too profile xs ys a b of_a of_b (λ s. (members s).0)) (lists_too profile ys xs b a of_b of_a (λ s. (members s).1)) in
    ap (λ p. ledger_value p a.sections) (of_a.profile_is ∙ sym of_b.profile_is) ∙ ap (ledger_value b.profile) sections

-- a set that has a ledger agrees
pub Agrees-ledger : (profile : Profile) (set : List Trace) (ledger : LedgerValue) → IsLedgerOf profile set ledger → Agrees set
Agrees-ledger profile set ledger of_set = λ s t has_s has_t same.
    ap (λ (c : Checked). c.section)
    (held-once ledger.sections of_set.rises (checked_by ledger.profile s) (checked_by ledger.profile t) ((of_set.same s).1 has_s) ((of_set.same t).1 has_t) same)
