-- A ledger that gains the sections of a roll one after another.
use Rattle.std.proofs.{Common.{map, refl, ◌≡◌, List, ◌∷◌, [], ◌++◌, sym, ◌∙◌, ap, subst, IsPermutation}, lemmas.List.{map-append}, lemmas.List.Sorted.{Contains-permutation, IsPermutation-map, IsPermutation-sym}}
use Rattle.pmf_event.specs.{declared.profile.Profile.{Profile}, Section.{Trace}}
use Rattle.pmf_verdict.specs.Checked.{Checked, checked_by}
use Rattle.pmf_ledger.{specs.Gathered.{Gathers, IsLedgerOf}, specs.LedgerValue.{LedgerValue}, proofs.lemmas.ReadingLemmas.{IsLedgerOf-members, cons-push}}
use Rattle.pmf_farm.specs.Rolls.{Slotted, checks, sections_of}

-- a ledger that took the verdict of one more slot
pub IsLedgerOf-more : (profile : Profile) (roll : List Slotted) (slot : Slotted) (verdict : Checked) (old new : LedgerValue) → verdict ≡ slot.checked →
    Gathers old verdict.section new → IsLedgerOf profile (sections_of (checks roll)) old → IsLedgerOf profile (sections_of (checks (roll ++ slot ∷ []))) new
IsLedgerOf-more profile roll slot verdict old new of gathers is =
    let set = sections_of (checks roll) in
    let held = gathers set (subst (λ p. IsLedgerOf p set old) (sym is.profile_is) is) in
    let by = subst (λ p. IsLedgerOf p (verdict.section ∷ set) new) is.profile_is held in
    let one = IsLedgerOf-members profile (slot.checked.section ∷ set) (set ++ slot.checked.section ∷ []) new (subst (λ (s : Trace). IsLedgerOf profile (s ∷ set) new) (ap (λ (v : Checked). v.section) of) by) (cons-push slot.checked.section set) in
    subst (λ xs. IsLedgerOf profile xs new) (sym (ap sections_of (map-append (λ (s : Slotted). s.checked) roll (slot ∷ [])) ∙ map-append (λ (c : Checked). c.section) (checks roll) (slot.checked ∷ []))) one

-- the sections of checked sections are those sections
pub sections-checked : (profile : Profile) (ss : List Trace) → sections_of (map (checked_by profile) ss) ≡ ss
sections-checked profile [] = refl
sections-checked profile (s ∷ ss) = ap (λ rest. s ∷ rest) (sections-checked profile ss)

-- the ledger of a roll is that of its sections in the order in which they were handed in
pub IsLedgerOf-permuted : (profile : Profile) (sections : List Trace) (roll : List Checked) (ledger : LedgerValue) → IsPermutation (map (checked_by profile) sections) roll →
    IsLedgerOf profile (sections_of roll) ledger → IsLedgerOf profile sections ledger
IsLedgerOf-permuted profile sections roll ledger moved is =
    let there : IsPermutation sections (sections_of roll) =
    subst (λ ss. IsPermutation ss (sections_of roll)) (sections-checked profile sections) (IsPermutation-map (λ (c : Checked). c.section) (map (checked_by profile) sections) roll moved) in
    let back = IsPermutation-sym sections (sections_of roll) there in
    IsLedgerOf-members profile (sections_of roll) sections ledger is (λ s. (λ held. Contains-permutation (sections_of roll) sections s back held, λ found. Contains-permutation sections (sections_of roll) s there found))
