-- A section stands to a ledger in one way alone.
use Rattle.std.proofs.{Common.{◌≡◌, ℕ, ◌<◌, List, length, refl, ◌∙◌, ap, subst, get_or, Contains, Result, IfErr, IfOk, OnOk, rules, arith}, lemmas.List.{get_or_default}, lemmas.Grind.{common_steps}}
use Rattle.pmf_event.specs.Section.{Trace}
use Rattle.pmf_verdict.specs.Checked.{Checked, checked_by}
use Rattle.pmf_ledger.{specs.Gathered.{Holds, HoldsOther}, specs.LedgerValue.{LedgerValue}, specs.Names.{IsBefore, Rises}, specs.Places.{LacksName}, specs.Taking.{IsRefusedAs}, specs.declared.taking.TakeFault.{TakeFault}, specs.declared.taking.TakeFault.TheVariants.{Conflict, OutOfMemory}, specs.declared.taking.Taken.{Taken}, specs.declared.taking.Taken.TheVariants.{Added}, proofs.lemmas.NameLemmas.{before-itself}}

-- where names rise, an earlier section and a later one have different names
apart-by_place : (sections : List Checked) → Rises sections → (a b : Checked) (i j : ℕ) → i < j → j < length sections →
    get_or sections i a ≡ a → get_or sections j b ≡ b → a.section.name ≡ b.section.name → ⊥
apart-by_place sections rises a b i j less inside is_a is_b same =
    let later : get_or sections j a ≡ b = get_or_default sections j a b inside ∙ is_b in let before = rises i j a less inside in
    let first = subst (λ (c : Checked). IsBefore c.section.name (get_or sections j a).section.name) is_a before in
    let both = subst (λ (c : Checked). IsBefore a.section.name c.section.name) later first in before-itself b.section.name (subst (λ n. IsBefore n b.section.name) same both)

pub held-once : (sections : List Checked) → Rises sections → (a b : Checked) → Contains sections a → Contains sections b → a.section.name ≡ b.section.name → a ≡ b
held-once sections rises a b here there same = grind (arith, common_steps, get_or_default, apart-by_place)

pub held-not_other : (ledger : LedgerValue) (s : Trace) → Rises ledger.sections → Holds ledger s → HoldsOther ledger s → ⊥
held-not_other ledger s rises held other =
    let t = other.0 in other.3 (ap (λ (c : Checked). c.section) (held-once ledger.sections rises (checked_by ledger.profile t) (checked_by ledger.profile s) other.1 held other.2))

pub absent_not_held : (ledger : LedgerValue) (s : Trace) → LacksName ledger.sections s.name → Holds ledger s → ⊥
absent_not_held ledger s absent held = absent (checked_by ledger.profile s) held refl

pub absent-not_other : (ledger : LedgerValue) (s : Trace) → LacksName ledger.sections s.name → HoldsOther ledger s → ⊥
absent-not_other ledger s absent other = absent (checked_by ledger.profile other.0) other.1 other.2

-- what want of memory refused is not refused as a conflict
pub memory-no_conflict : (result : Result Taken (TakeFault × Checked)) (v : Checked) (Q : Type 0) → IfErr result (λ refused. (refused ≡ (OutOfMemory, v)) × Q) →
    IsRefusedAs result Conflict → ⊥
memory-no_conflict result v Q refused bad = search rules

-- what follows of a section that was added
pub OnOk-added : (result : Result Taken (TakeFault × Checked)) (P Q : Type 0) → IfOk result (λ taken. (taken ≡ Added) × P) → (P → Q) → OnOk result Q
OnOk-added result P Q added follows = search rules
