-- A section without any changes is the section, and one with those that were tried.
use Rattle.std.{proofs.Common.{◌≡◌, ◌⊎◌, inl, inr, ℕ, suc, List, [], ◌∷◌, Option, None, Some, refl, sym, ap, ◌∙◌}, specs.Option.{MatchOption}}
use Rattle.pmf_event.specs.declared.event.Event.{Event}
use Rattle.pmf_verdict.specs.Checked.{Checked, rows_in}
use Rattle.pmf_cause.specs.{declared.edit.Edit.{Edit}, declared.trial.Trial.{Trial}, Changed.{changed_from, kept_at, put_at}, Cure.{cured, IsTrial, SpoilsNothing}}
use Rattle.pmf_why.specs.{Counting.{counts_in}, Plans.{counts_with}}

unchanged : (k : ℕ) (es : List Event) → changed_from [] k es ≡ es
unfolding changed_from kept_at put_at
unchanged k [] = refl
unchanged k (e ∷ es) = ap (λ (more : List Event). e ∷ more) (unchanged (suc k) es)

pub counts_alone : (checked : Checked) (edits : List Edit) → edits ≡ [] → counts_in (rows_in checked) ≡ counts_with checked edits
unfolding cured
counts_alone checked edits none =
    ap (λ (es : List Event). counts_in (rows_in (record { section = record { name = checked.section.name; events = es }; profile = checked.profile }))) (sym (unchanged 1 checked.section.events))
    ∙ ap (λ (xs : List Edit). counts_with checked xs) (sym none)

-- by the changes that are kept nothing fails that didn't
pub plan_spoils_nothing : (checked : Checked) (edits : List Edit) (tried : Option Trial) → MatchOption tried (edits ≡ []) (IsTrial checked edits) → (edits ≡ []) ⊎ SpoilsNothing checked edits
plan_spoils_nothing checked edits None none = inl none
plan_spoils_nothing checked edits (Some trial) is = inr is.spoils_nothing
