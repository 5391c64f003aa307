-- Of the texts of ledgers the text of their union is written.
use Rattle.std.{proofs.Common.{◌≡◌, ℕ, List, [], ◌∷◌, ◌++◌, map, flat_map, All, Contains, refl, sym, ◌∙◌, ap, subst, get_or, inl, inr}, proofs.lemmas.List.{map-append}, proofs.lemmas.List.Elements.{All-contains, All-head, All-tail, Contains-append_cases, Contains-get_or}, specs.Io.KnownBytes.{Appends}}
use Rattle.pmf_event.specs.declared.{profile.Profile.{Profile}, profile.Profile.TheVariants.{One}}
use Rattle.pmf_verdict.specs.Checked.{Checked}
use Rattle.pmf_ledger.{specs.{Laws.{CanBeSpelled}, LedgerText.{text_of_ledger}, LedgerValue.{LedgerValue}, RawText.{IsRawText, RawBlock, raw_block, text_on_trust}}, proofs.lemmas.AddingLemmas.{from_map, to_map}, proofs.lemmas.MergingLemmas.{none_of_empty}, proofs.lemmas.RawTextOnceLemmas.{ledger_raw, raw_once}, proofs.lemmas.UniqueLemmas.{rising_once}}
use Rattle.pmf_merge.specs.{Laws.{CanBeWritten, IsUnionOf, TrustKeepsLedgers, sections_in, sources_of}, Trusting.{AreRawTexts}}

-- the blocks of a ledger's text
abbrev blocks_in : LedgerValue → List RawBlock
blocks_in l = map raw_block l.sections

abbrev all_of : List (List RawBlock) → List RawBlock
all_of parts = flat_map (λ (blocks : List RawBlock). blocks) parts

-- each text has the blocks of its ledger, by its profile
module _ (profile : Profile) where
  one_text : (l : LedgerValue) (text : List ℕ) (blocks : List RawBlock) → CanBeWritten l → text ≡ text_of_ledger l → IsRawText profile blocks text → (profile ≡ l.profile) × (blocks ≡ blocks_in l)
  one_text l text blocks can is raw = raw_once (text_of_ledger l) profile l.profile blocks (blocks_in l) (subst (IsRawText profile blocks) is raw) (ledger_raw l can.rises can.spelled)

  parts_are : (ledgers : List LedgerValue) (parts : List (List RawBlock)) → All CanBeWritten ledgers → AreRawTexts profile (sources_of ledgers) parts → parts ≡ map blocks_in ledgers
  parts_are [] [] can are = refl
  parts_are [] (blocks ∷ parts) can are = absurd are
  parts_are (l ∷ ledgers) [] can are = absurd are
  parts_are (l ∷ ledgers) (blocks ∷ parts) can are =
      let first = one_text l are.0.0 blocks (All-head CanBeWritten l ledgers can) are.0.1 are.0.2 in
      ap (λ bs. bs ∷ parts) first.1 ∙ ap (λ bss. blocks_in l ∷ bss) (parts_are ledgers parts (All-tail CanBeWritten l ledgers can) are.1)

  same_profile : (ledgers : List LedgerValue) (parts : List (List RawBlock)) (ledger : LedgerValue) → All CanBeWritten ledgers → AreRawTexts profile (sources_of ledgers) parts → IsUnionOf ledgers ledger →
      (sources_of ledgers ≡ [] → profile ≡ One) → profile ≡ ledger.profile
  same_profile [] parts ledger can are is none = none refl ∙ sym (is.of_none refl)
  same_profile (l ∷ ledgers) [] ledger can are is none = absurd are
  same_profile (l ∷ ledgers) (blocks ∷ parts) ledger can are is none =
      (one_text l are.0.0 blocks (All-head CanBeWritten l ledgers can) are.0.1 are.0.2).0 ∙ All-head (λ (m : LedgerValue). m.profile ≡ ledger.profile) l ledgers is.by_one

all_blocks : (ledgers : List LedgerValue) → all_of (map blocks_in ledgers) ≡ map raw_block (sections_in ledgers)
all_blocks [] = refl
all_blocks (l ∷ ledgers) = ap (λ bs. blocks_in l ++ bs) (all_blocks ledgers) ∙ sym (map-append raw_block l.sections (sections_in ledgers))

-- each section of the ledgers can be spelled
can_spell : (ledgers : List LedgerValue) → All CanBeWritten ledgers → (c : Checked) → Contains (sections_in ledgers) c → CanBeSpelled c
can_spell [] can c found = absurd (none_of_empty [] c refl found)
can_spell (l ∷ ledgers) can c found = elim (Contains-append_cases l.sections (sections_in ledgers) c found) [
  | inl first ↦ let own = All-head CanBeWritten l ledgers can in All-contains CanBeSpelled l.sections c own.spelled first
  | inr later ↦ can_spell ledgers (All-tail CanBeWritten l ledgers can) c later
]

-- the blocks of some sections are among those of others
blocks_too : (xs ys : List Checked) → ((c : Checked) → Contains xs c → Contains ys c) → (b : RawBlock) → Contains (map raw_block xs) b → Contains (map raw_block ys) b
blocks_too xs ys has b found = let it = from_map raw_block xs b found in subst (Contains (map raw_block ys)) it.2 (to_map raw_block ys it.0 (has it.0 it.1))

pub keeps_ledgers : TrustKeepsLedgers
keeps_ledgers ledgers ledger held holds fails can is trusts =
    let all : all_of trusts.parts ≡ map raw_block (sections_in ledgers) = ap all_of (parts_are trusts.profile ledgers trusts.parts can trusts.texts) ∙ all_blocks ledgers in
    let spelled : All CanBeSpelled ledger.sections = λ k d inside. can_spell ledgers can (get_or ledger.sections k d) ((is.same (get_or ledger.sections k d)).0 (Contains-get_or ledger.sections k d inside)) in
    let raw = ledger_raw ledger is.rises spelled in
    let out : trusts.out ≡ map raw_block ledger.sections =
    rising_once (λ (b : RawBlock). b.name) trusts.out (map raw_block ledger.sections) trusts.blocks.rises raw.1.rises
    (λ b found. blocks_too (sections_in ledgers) ledger.sections (λ c has. (is.same c).1 has) b (subst (λ bs. Contains bs b) all ((trusts.blocks.same b).0 found)))
    (λ b found. (trusts.blocks.same b).1 (subst (λ bs. Contains bs b) (sym all) (blocks_too ledger.sections (sections_in ledgers) (λ c has. (is.same c).0 has) b found))) in
    subst (λ p. Appends held holds (text_on_trust p (map raw_block ledger.sections))) (same_profile trusts.profile ledgers trusts.parts ledger can trusts.texts is trusts.of_none)
    (subst (λ bs. Appends held holds (text_on_trust trusts.profile bs)) out trusts.written)
