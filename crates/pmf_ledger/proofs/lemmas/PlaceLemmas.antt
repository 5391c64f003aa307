-- What is known of a name from the place where it belongs.
use Rattle.std.proofs.{Common.{◌≡◌, ℕ, ◌+◌, ◌<◌, ◌≤◌, List, [], length, sym, ◌∙◌, subst, arith, inl, inr, get_or, ◌≢◌}, lemmas.Bool.{cases_order}, lemmas.List.{get_or_default}, lemmas.List.Elements.{Contains-get_or}, lemmas.Grind.{common_steps}}
use Rattle.pmf_event.specs.declared.{name.Name.{Name}, profile.Profile.TheVariants.{One}}
use Rattle.pmf_verdict.specs.Checked.{Checked}
use Rattle.pmf_ledger.{specs.Names.{IsBefore, Rises}, specs.Places.{HasName, IsPlaceOf, LacksName, StandsAt}, proofs.lemmas.NameLemmas.{before-trans, before-itself}}

-- a name that is not that of the section at its place is that of none
pub LacksName-from_place : (sections : List Checked) (name : Name) (k : ℕ) → Rises sections → IsPlaceOf sections name k →
    ((d : Checked) → k < length sections → (get_or sections k d).section.name ≢ name) → LacksName sections name
LacksName-from_place sections name k rises place apart = grind (arith, before-itself)

-- the place lies between low and high
pub record Window (sections : List Checked) (name : Name) (low high : ℕ) : Type 0 where
  pub ordered : low ≤ high
  pub within : high ≤ length sections
  pub before : (i : ℕ) (d : Checked) → i < low → IsBefore (get_or sections i d).section.name name
  pub from : (i : ℕ) (d : Checked) → high ≤ i → i < length sections → IsBefore (get_or sections i d).section.name name → ⊥

-- all up to a section whose name comes before are before
pub Window-up : (sections : List Checked) (name : Name) (low high m : ℕ) (x : Checked) → Rises sections → Window sections name low high → m < high →
    x ≡ get_or sections m x → IsBefore x.section.name name → Window sections name (m + 1) high
Window-up sections name low high m x rises window inside is here = record {
  ordered = omega (arith, inside);
  within = window.within;
  before = λ i d small.
      let all = window.within in let there : get_or sections m d ≡ x = get_or_default sections m d x (omega (arith, inside, all)) ∙ sym is in
      let before_name : IsBefore (get_or sections m d).section.name name = subst (λ (c : Checked). IsBefore c.section.name name) (sym there) here in
      elim (cases_order i m) [ inl same ↦ subst (λ n. IsBefore (get_or sections n d).section.name name) (sym same) before_name | inr aside ↦ grind (arith, common_steps, before-trans) ];
  from = window.from;
}

-- none from a section on whose name does not come before
pub Window-down : (sections : List Checked) (name : Name) (low high m : ℕ) (x : Checked) → Rises sections → Window sections name low high → low ≤ m → m < high →
    x ≡ get_or sections m x → (IsBefore x.section.name name → ⊥) → Window sections name low m
Window-down sections name low high m x rises window reach inside is here = record {
  ordered = reach;
  within = let all = window.within in omega (arith, inside, all);
  before = window.before;
  from = λ i d far within before.
      let all = window.within in let there : get_or sections m d ≡ x = get_or_default sections m d x (omega (arith, inside, all)) ∙ sym is in
      elim (cases_order m i) [
        | inl same ↦ here (subst (λ (c : Checked). IsBefore c.section.name name) there (subst (λ n. IsBefore (get_or sections n d).section.name name) (sym same) before))
        | inr aside ↦ grind (arith, common_steps, before-trans)
      ];
}

-- a section that stands at a place is one of them
pub HasName-from_place : (sections : List Checked) (name : Name) (k : ℕ) → StandsAt sections name k → HasName sections name
HasName-from_place sections name k stands =
    let some : Checked = record { section = record { name = name; events = [] }; profile = One } in (get_or sections k some, Contains-get_or sections k some stands.inside, stands.named some)
