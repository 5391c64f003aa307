-- What sections become, and what is read of them again.
use Rattle.std.{proofs.Common.{◌≡◌, inr, ℕ, Option, None, Some, IfSome, List, [], ◌∷◌, map, true, subst, ap, ◌∙◌}}
use Rattle.std.specs.{List.{AllZip}, Option.{MatchOption}}
use Rattle.pmf_event.specs.Section.{Trace}
use Rattle.pmf_request.specs.declared.settings.Patches.{Patches}
use Rattle.pmf_verdict.specs.Checked.{Checked}
use Rattle.pmf_cause.specs.{declared.edit.Edit.{Edit}, declared.trial.Trial.{Trial}, Cure.{cured, IsTrial, SpoilsNothing}}
use Rattle.pmf_why.specs.{Patching.{IsPatched, checked_by}, Reasons.{is_asked}}

pub pair_mapped : {A B C : Type 0} (R : A → C → Type 0) (f : B → C) (xs : List A) (ys : List B) → AllZip (λ x y. R x (f y)) xs ys → AllZip R xs (map f ys)
pair_mapped R f [] [] zip = zip
pair_mapped R f [] (y ∷ ys) zip = absurd zip
pair_mapped R f (x ∷ xs) [] zip = absurd zip
pair_mapped R f (x ∷ xs) (y ∷ ys) zip = (zip.0, pair_mapped R f xs ys zip.1)

-- a section that was tried with changes is one that is cured
pub tried_is : (asked : Patches) (t : Trace) (checked : Checked) (edits : List Edit) (trial : Trial) (section : Trace) →
    is_asked asked.section t.name.number ≡ true → checked ≡ checked_by asked t → IsTrial checked edits trial → section ≡ trial.verdict.section → IsPatched asked t section
tried_is asked t checked edits trial section named is tried same = inr (record {
  asked_for = named;
  edits = edits;
  spoils_nothing = subst (λ (c : Checked). SpoilsNothing c edits) is tried.spoils_nothing;
  is = same ∙ ap (λ (c : Checked). c.section) tried.verdict ∙ ap (λ (c : Checked). (cured c edits).section) is;
})

-- what is made, if it is
pub made_so : {X : Type 0} (text_of : X → List ℕ) (made : Option X) (None_so : Type 0) (P Q : List ℕ → Type 0) → None_so → ((text : List ℕ) → P text → Q text) → IfSome made (λ x. P (text_of x)) →
    MatchOption made None_so (λ x. Q (text_of x))
made_so text_of None None_so P Q none on is = none
made_so text_of (Some x) None_so P Q none on is = on (text_of x) is
