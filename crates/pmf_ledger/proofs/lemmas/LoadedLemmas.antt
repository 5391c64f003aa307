-- A text loads as one ledger, or it is refused.
use Rattle.std.proofs.{Common.{◌≡◌, ℕ, List, ◌∷◌, refl, sym, ◌∙◌, subst, inl, Contains, Option, Some, None}, lemmas.List.Elements.{Contains-append_left, Contains-append_right}}
use Rattle.pmf_event.specs.{declared.name.Name.{Name}, Section.{Trace}}
use Rattle.pmf_ledger.{specs.declared.loading.LedgerFault.{LedgerFault}, specs.declared.loading.LedgerFault.TheVariants.{NotALedger, FalseRows, Conflict, Log, OutOfMemory}, specs.LedgerValue.{LedgerValue}, specs.Gathering.{Agrees}, specs.Loading.{IsFirstOther, IsRefusedWith, LoadsAs, fault_of, reading_of}, proofs.lemmas.AddingLemmas.{Contains-cons}, proofs.lemmas.UniqueLemmas.{Agrees-ledger, ledger_once}}

pub loads_once : (text : List ℕ) (a b : LedgerValue) → LoadsAs text a → LoadsAs text b → a ≡ b
loads_once text a b first second =
    let blocks = (reading_of text).blocks in ledger_once (reading_of text).profile blocks blocks a b first.gathered second.gathered (λ s. (λ found. found, λ found. found))

some_is_none : (o : Option LedgerFault) (found : LedgerFault) → o ≡ None → o ≡ Some found → ⊥
some_is_none o found none some = let wrong : None ≡ Some found = sym none ∙ some in cc

-- among blocks that agree none is other than one before it
no_other : (blocks : List Trace) (name : Name) → Agrees blocks → IsFirstOther blocks name → ⊥
no_other blocks name agrees first =
    let t = first.other.0 in let s = first.section in let has_t = subst (λ all. Contains all t) (sym first.whole) (Contains-append_left first.before (s ∷ first.rest) t first.other.1) in
    let has_s = subst (λ all. Contains all s) (sym first.whole) (Contains-append_right first.before (s ∷ first.rest) s (Contains-cons s s first.rest (inl refl))) in
    first.other.3 (agrees t s has_t has_s first.other.2)

pub loads_unrefused : (text : List ℕ) (ledger : LedgerValue) (found : LedgerFault) → LoadsAs text ledger → IsRefusedWith text found → ⊥
loads_unrefused text ledger (NotALedger line) loads refused = some_is_none (fault_of text) (NotALedger line) loads.faultless refused.1
loads_unrefused text ledger (FalseRows name) loads refused = some_is_none (fault_of text) (FalseRows name) loads.faultless refused.1
loads_unrefused text ledger (Conflict name) loads refused =
    no_other (reading_of text).blocks name (Agrees-ledger (reading_of text).profile (reading_of text).blocks ledger loads.gathered) refused
loads_unrefused text ledger (Log fault) loads refused = some_is_none (fault_of text) (Log fault) loads.faultless refused.1
loads_unrefused text ledger OutOfMemory loads refused = some_is_none (fault_of text) OutOfMemory loads.faultless refused.1
