-- What two ledgers hold together, said of their lists.
use Rattle.std.proofs.{Common.{◌≡◌, ◌⊎◌, ◌↔◌, List, sym, ◌∙◌, ap, subst, inl, inr, get_or, Contains, MatchOption, Option, None, Some, IfOk, Result, Ok, Err, All}, lemmas.List.Elements.{All-contains, Contains-get_or}}
use Rattle.pmf_event.specs.declared.{name.Name.{Name}, profile.Profile.{Profile}}
use Rattle.pmf_verdict.specs.Checked.{Checked, checked_by}
use Rattle.pmf_ledger.{specs.Gathered.{GathersBoth, Holds, IsLeastClash, Unites}, specs.Joining.{Agree, AgreeInNames, AgreeTogether, IsLeastDiffering, IsMerged}, specs.LedgerValue.{LedgerValue}, specs.Names.{IsBefore, Rises}, proofs.lemmas.AddingLemmas.{across, appended}, proofs.lemmas.NameLemmas.{before-total}}

-- each was checked by the profile
abbrev pub AreBy : Profile → List Checked → Type 0
AreBy p sections = All (λ (c : Checked). c.profile ≡ p) sections

checked_is : (p : Profile) (c : Checked) → c.profile ≡ p → c ≡ checked_by p c.section
checked_is p c by = ap (λ q. checked_by q c.section) by

-- what stands in the list of a ledger is held
pub Holds-section : (ledger : LedgerValue) → AreBy ledger.profile ledger.sections → (c : Checked) → Contains ledger.sections c → Holds ledger c.section
Holds-section ledger by c found = subst (Contains ledger.sections) (checked_is ledger.profile c (All-contains (λ (d : Checked). d.profile ≡ ledger.profile) ledger.sections c by found)) found

module _ (a b : LedgerValue) (by_a : AreBy a.profile a.sections) (by_b : AreBy b.profile b.sections) where
  least_clash_is : (name : Name) → IsLeastDiffering a.sections b.sections name → IsLeastClash a b name
  least_clash_is name found = (
    (found.first.section, found.second.section, Holds-section a by_a found.first found.of_first, Holds-section b by_b found.second found.of_second, found.first_named, found.second_named, found.differ),
    λ other clash before. clash.6 (found.least (checked_by a.profile clash.0) (checked_by b.profile clash.1) clash.2 clash.3 (clash.4 ∙ sym clash.5) (subst (λ n. IsBefore n name) (sym clash.4) before)),
  )

  pub clash_found : (found : Option Name) → MatchOption found (AgreeInNames a.sections b.sections) (IsLeastDiffering a.sections b.sections) → MatchOption found (AgreeTogether a b) (IsLeastClash a b)
  clash_found None agree = λ s t held there same. agree (checked_by a.profile s) (checked_by b.profile t) held there same
  clash_found (Some name) differ = least_clash_is name differ

  pub agree_checked : a.profile ≡ b.profile → AgreeTogether a b → Agree a.sections b.sections
  agree_checked even agree x y in_a in_b same =
      let section : x.section ≡ y.section = agree x.section y.section (Holds-section a by_a x in_a) (Holds-section b by_b y in_b) same in
      checked_is a.profile x (All-contains (λ (d : Checked). d.profile ≡ a.profile) a.sections x by_a in_a) ∙ ap (checked_by a.profile) section ∙ ap (λ p. checked_by p y.section) even
      ∙ sym (checked_is b.profile y (All-contains (λ (d : Checked). d.profile ≡ b.profile) b.sections y by_b in_b))

-- two least names are one
pub least_clash_once : (a b : LedgerValue) (m n : Name) → IsLeastClash a b m → IsLeastClash a b n → m ≡ n
least_clash_once a b m n first second = elim (before-total m n) [
  | inl before ↦ absurd (second.1 m first.0 before)
  | inr other ↦ elim other [ inl same ↦ same | inr after ↦ absurd (first.1 n second.0 after) ]
]

pub AreBy-merged : (p : Profile) (xs ys merged : List Checked) → IsMerged xs ys merged → AreBy p xs → AreBy p ys → AreBy p merged
AreBy-merged p xs ys merged is first second = λ k d inside. elim ((is.holds (get_or merged k d)).0 (Contains-get_or merged k d inside)) [
  | inl x ↦ All-contains (λ (c : Checked). c.profile ≡ p) xs (get_or merged k d) first x
  | inr y ↦ All-contains (λ (c : Checked). c.profile ≡ p) ys (get_or merged k d) second y
]

pub Unites-merged : (a b new : LedgerValue) → a.profile ≡ b.profile → new.profile ≡ a.profile → IsMerged a.sections b.sections new.sections → Unites a b new
Unites-merged a b new even stays merged = record {
  profile_stays = stays;
  holds = λ s. subst (λ p. Holds new s ↔ (Contains a.sections (checked_by p s) ⊎ Holds b s)) stays
      (subst (λ p. Holds new s ↔ (Contains a.sections (checked_by new.profile s) ⊎ Contains b.sections (checked_by p s))) (stays ∙ even) (merged.holds (checked_by new.profile s)));
}

GathersBoth-unites : (a b new : LedgerValue) → Unites a b new → Rises new.sections → AreBy new.profile new.sections → GathersBoth a b new
GathersBoth-unites a b new unites rises by = λ xs ys of_a of_b. record {
  profile_is = unites.profile_stays;
  checked = subst (λ p. AreBy p new.sections) unites.profile_stays by;
  rises = rises;
  same = λ s. across (unites.holds s) (of_a.same s) (of_b.same s) (appended xs ys s);
}

pub IfOk_gathers : {E : Type 0} (a b : LedgerValue) (result : Result LedgerValue E) → IfOk result (Unites a b) → IfOk result (λ (l : LedgerValue). Rises l.sections) →
    IfOk result (λ (l : LedgerValue). AreBy l.profile l.sections) → IfOk result (GathersBoth a b)
IfOk_gathers a b (Ok new) unites rises by = GathersBoth-unites a b new unites rises by
IfOk_gathers a b (Err refused) unites rises by = tt
