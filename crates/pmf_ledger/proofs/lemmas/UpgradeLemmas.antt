-- The sections of a ledger, checked by profile Two.
use Rattle.std.proofs.{Common.{◌≡◌, ◌<◌, List, length, map, refl, sym, ◌∙◌, ap, subst, arith, Contains, All}, lemmas.List.{get_or-map, length-map}, lemmas.List.Elements.{All-map, All-contains, All-weaker}, lemmas.List.Folds.{map_fixed}}
use Rattle.pmf_event.specs.declared.profile.Profile.TheVariants.{Two}
use Rattle.pmf_verdict.specs.Checked.{Checked, checked_by}
use Rattle.pmf_ledger.{specs.Gathered.{IsUpgradeOf, upgraded}, specs.LedgerValue.{LedgerValue}, specs.Names.{Rises}, proofs.lemmas.AddingLemmas.{from_map, to_map}}

pub Rises-upgraded : (sections : List Checked) → Rises sections → Rises (map upgraded sections)
Rises-upgraded sections rises = λ i j d less within.
    let inside_j : j < length sections = rw (length-map sections upgraded) at within in let inside_i : i < length sections = omega (arith, less, inside_j) in
    rw (get_or-map upgraded sections i d d inside_i, get_or-map upgraded sections j d d inside_j) (rises i j d less inside_j)

pub All-upgraded : (sections : List Checked) → All (λ (c : Checked). c.profile ≡ Two) (map upgraded sections)
All-upgraded sections = All-map (λ (c : Checked). c.profile ≡ Two) upgraded sections (λ k d within. refl)

pub IsUpgradeOf-upgraded : (old new : LedgerValue) → new.profile ≡ Two → new.sections ≡ map upgraded old.sections → Rises old.sections →
    All (λ (c : Checked). c.profile ≡ old.profile) old.sections → (old.profile ≡ Two → new ≡ old) → IsUpgradeOf old new
IsUpgradeOf-upgraded old new by are rises checked unchanged = record {
  profile_is = by;
  sections_are = are;
  gathers = λ set is. record {
    profile_is = by;
    checked = subst (All (λ (c : Checked). c.profile ≡ Two)) (sym are) (All-upgraded old.sections);
    rises = subst Rises (sym are) (Rises-upgraded old.sections rises);
    same = λ s. (
      λ held.
          let among = subst (λ (cs : List Checked). Contains cs (checked_by Two s)) are (subst (λ p. Contains new.sections (checked_by p s)) by held) in
          let before = from_map upgraded old.sections (checked_by Two s) among in let c = before.0 in let here = before.1 in
          let is_s : c.section ≡ s = ap (λ (x : Checked). x.section) before.2 in
          let is_p : c.profile ≡ old.profile = All-contains (λ (x : Checked). x.profile ≡ old.profile) old.sections c checked here in
          (is.same s).0 (subst (Contains old.sections) (ap (λ t. checked_by c.profile t) is_s ∙ ap (λ p. checked_by p s) is_p) here),
      λ found.
          let before = (is.same s).1 found in
          subst (λ p. Contains new.sections (checked_by p s)) (sym by) (subst (λ (cs : List Checked). Contains cs (checked_by Two s)) (sym are) (to_map upgraded old.sections (checked_by old.profile s) before)),
    );
  };
  unchanged = unchanged;
}

-- what is by profile Two already is its own upgrade
pub map-upgraded_fixed : (sections : List Checked) → All (λ (c : Checked). c.profile ≡ Two) sections → map upgraded sections ≡ sections
map-upgraded_fixed sections checked = map_fixed upgraded sections (All-weaker (λ (c : Checked). c.profile ≡ Two) (λ (c : Checked). upgraded c ≡ c) (λ c by. ap (λ p. checked_by p c.section) (sym by)) sections checked)

pub IsUpgradeOf-itself : (ledger : LedgerValue) → ledger.profile ≡ Two → Rises ledger.sections → All (λ (c : Checked). c.profile ≡ ledger.profile) ledger.sections → IsUpgradeOf ledger ledger
IsUpgradeOf-itself ledger by rises checked =
    IsUpgradeOf-upgraded ledger ledger by (sym (map-upgraded_fixed ledger.sections (subst (λ p. All (λ (c : Checked). c.profile ≡ p) ledger.sections) by checked))) rises checked (λ _. refl)
