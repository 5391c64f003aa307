-- A reading whose blocks are handed out, one after another.
use Rattle.std.proofs.{Common.{◌≡◌, ℕ, ◌≤◌, List, [], ◌∷◌, ◌++◌, length, get_or, Option, Some, None, MatchOption, IfNone, refl, sym, ◌∙◌, ap, subst, arith, inl, inr, Contains, append-nil, length-append}, lemmas.List.Elements.{All-contains, Contains-append_left, Contains-get_or, Contains-push, Contains-push_cases}, lemmas.List.Quantifiers.{all_pairs_push}, lemmas.Grind.{common_steps}}
use Rattle.pmf_event.specs.{declared.name.Name.{Name}, declared.profile.Profile.{Profile}, Section.{Trace}}
use Rattle.pmf_verdict.specs.Checked.{Checked, checked_by}
use Rattle.pmf_ledger.{specs.declared.blocks.Next.{Next}, specs.declared.loading.LedgerFault.{LedgerFault}, specs.declared.loading.LedgerFault.TheVariants.{NotALedger, FalseRows, Conflict, Log, OutOfMemory}, specs.BlockReading.{IsLastName, NamesRise, behind, without_blocks}, specs.Following.{IsNext, IsStoppedBy}, specs.Gathered.{Holds, IsLedgerOf}, specs.Together.{AreLedgersOf}, specs.LedgerValue.{LedgerValue}, specs.Loading.{Reading, AtVersion, AtBlock, AtEvents, AtEnd, AtFault, after_end, after_line, after_line_at, after_row, end_of, head_of, with_events, with_rows, with_section}, specs.Names.{ComesBefore, IsBefore, Rises}, proofs.lemmas.AddingLemmas.{Contains-cons, Contains-cons_cases}, proofs.lemmas.GatheringLemmas.{empty_ledger}, proofs.lemmas.JoiningLemmas.{AreBy, Holds-section}, proofs.lemmas.MergingLemmas.{AllPairs-last, none_of_empty}, proofs.lemmas.NameLemmas.{before-itself, before-trans}, proofs.lemmas.PileLemmas.{alone-is, alone-of}, proofs.lemmas.ReadingLemmas.{line-at}}
use Rattle.pmf_ledger.specs.declared.blocks.Next.TheVariants as next

-- a text line does to a reading what it does to one without blocks, but for the last one, which counts them
pub after-behind : (r : Reading) (n : ℕ) (text : List ℕ) → (r.stage ≡ AtBlock → head_of text ≡ None → end_of text ≡ None) →
    after_line r n text ≡ behind r.blocks (after_line (without_blocks r) n text)
unfolding after_line after_line_at after_row with_section with_events with_rows
after-behind r n text not_last = grind (arith, common_steps, append-nil)

-- at the last one
pub after-end : (r : Reading) (n told : ℕ) (text : List ℕ) → r.stage ≡ AtBlock → head_of text ≡ None → end_of text ≡ Some told → after_line r n text ≡ after_end r n (Some told)
unfolding after_line after_line_at
after-end r n told text here none some = line-at r n text AtBlock here ∙ rw (none, some) refl

-- what comes next is the same without blocks
pub next_without : (e : Reading) (awaited : Next) → IsNext e awaited → IsNext (without_blocks e) awaited
next_without e next.Version is = (is.0, refl)
next_without e next.Block is = is
next_without e (next.Events section more told) is = is
next_without e (next.Rows verdict row) is = is
next_without e next.End is = is

pub block_next : (r : Reading) (awaited : Next) → IsNext r awaited → r.stage ≡ AtBlock → awaited ≡ next.Block
block_next r next.Version is here = let wrong : AtVersion ≡ AtBlock = sym is.0 ∙ here in cc
block_next r next.Block is here = refl
block_next r (next.Events section more told) is here = let wrong : AtEvents section more told ≡ AtBlock = sym is.0 ∙ here in cc
block_next r (next.Rows verdict row) is here = let wrong = sym is.0 ∙ here in cc
block_next r next.End is here = let wrong : AtEnd ≡ AtBlock = sym is ∙ here in cc

-- a ledger of no section
pub emptied : (profile : Profile) (ledger : LedgerValue) → ledger.profile ≡ profile → ledger.sections ≡ [] → IsLedgerOf profile [] ledger
emptied profile ledger by none = subst (IsLedgerOf profile []) (λ i. record { profile = sym by i; sections = sym none i }) (empty_ledger profile)

-- a list of one at most that has an element
one_of : {X : Type 0} (xs : List X) (x : X) → length xs ≤ 1 → Contains xs x → xs ≡ x ∷ []
one_of [] x few found = absurd (none_of_empty [] x refl found)
one_of (y ∷ []) x few found = elim (Contains-cons_cases x y [] found) [ inl same ↦ ap (λ z. z ∷ []) (sym same) | inr none ↦ absurd (none_of_empty [] x refl none) ]
one_of (y ∷ z ∷ ys) x few found = absurd (omega (arith, few))

-- the ledger of one section at most
module _ (profile : Profile) (set : List Trace) (ledger : LedgerValue) (few : length set ≤ 1) (is : IsLedgerOf profile set ledger) where
  by_own : AreBy ledger.profile ledger.sections
  by_own = subst (λ p. AreBy p ledger.sections) (sym is.profile_is) is.checked

  in_set : (c : Checked) → Contains ledger.sections c → Contains set c.section
  in_set c found = (is.same c.section).0 (Holds-section ledger by_own c found)

  pub none_held : ledger.sections ≡ [] → set ≡ []
  none_held none = by set (λ s found. none_of_empty [] (checked_by ledger.profile s) refl (subst (λ cs. Contains cs (checked_by ledger.profile s)) none ((is.same s).1 found)))
    where
      by : (ss : List Trace) → ((s : Trace) → Contains ss s → ⊥) → ss ≡ []
      by [] out = refl
      by (s ∷ ss) out = absurd (out s (Contains-cons s s ss (inl refl)))

  module _ (front : List Checked) (last : Checked) (whole : ledger.sections ≡ front ++ last ∷ []) where
    pub set_is : set ≡ last.section ∷ []
    set_is = one_of set last.section few (in_set last (subst (λ cs. Contains cs last) (sym whole) (Contains-push front last)))

    pub last_by : last.profile ≡ profile
    last_by = All-contains (λ (c : Checked). c.profile ≡ profile) ledger.sections last is.checked (subst (λ cs. Contains cs last) (sym whole) (Contains-push front last))

    pub no_front : front ≡ []
    no_front = by front (λ c found.
        let held = in_set c (subst (λ cs. Contains cs c) (sym whole) (Contains-append_left front (last ∷ []) c found)) in
        let rises : Rises (front ++ last ∷ []) = subst Rises whole is.rises in
        let before : ComesBefore c last = AllPairs-last ComesBefore front last rises c found in
        elim (Contains-cons_cases c.section last.section [] (subst (λ ss. Contains ss c.section) set_is held)) [
          | inl same ↦ before-itself last.section.name (subst (λ (s : Trace). IsBefore s.name last.section.name) same before)
          | inr none ↦ none_of_empty [] c.section refl none
        ])
      where
        by : (cs : List Checked) → ((c : Checked) → Contains cs c → ⊥) → cs ≡ []
        by [] out = refl
        by (c ∷ cs) out = absurd (out c (Contains-cons c c cs (inl refl)))

-- of ledgers of one section at most, the last with a section is that of the set
pub last-is : (profile : Profile) (set : List Trace) (before : List LedgerValue) (last : LedgerValue) (c : Checked) → length set ≤ 1 → AreLedgersOf profile set (before ++ last ∷ []) → Contains last.sections c → IsLedgerOf profile set last
last-is profile set before last c few are found =
    let by = are.by last (Contains-push before last) in
    let held : Holds last c.section = Holds-section last (subst (λ p. AreBy p last.sections) (sym by.profile_is) by.checked) c found in
    let whole : set ≡ c.section ∷ [] = one_of set c.section few ((are.same c.section).0 (last, Contains-push before last, held)) in
    record {
      profile_is = by.profile_is;
      checked = by.checked;
      rises = by.rises;
      same = λ s. (
        λ has. (are.same s).0 (last, Contains-push before last, has),
        λ has. elim (Contains-cons_cases s c.section [] (subst (λ ss. Contains ss s) whole has)) [ inl same ↦ subst (Holds last) (sym same) held | inr none ↦ absurd (none_of_empty [] s refl none) ],
      );
    }

-- ledgers of no section
pub emptied_pile : (profile : Profile) (before : List LedgerValue) (last : LedgerValue) → before ≡ [] → last.profile ≡ profile → last.sections ≡ [] → AreLedgersOf profile [] (before ++ last ∷ [])
emptied_pile profile before last none by empty =
    subst (λ ls. AreLedgersOf profile [] (ls ++ last ∷ [])) (sym none) (alone-of profile [] last (emptied profile last by empty) (λ s t has_s has_t same. absurd (none_of_empty [] s refl has_s)))

-- the last of them without its last section
pub popped : (profile : Profile) (set : List Trace) (before : List LedgerValue) (old new : LedgerValue) (result : Option Checked) → AreLedgersOf profile set (before ++ old ∷ []) → (old.sections ≡ [] → before ≡ []) → length set ≤ 1 →
    new.profile ≡ old.profile → MatchOption result (old.sections ≡ []) (λ last. old.sections ≡ new.sections ++ last ∷ []) → IfNone result (new ≡ old) →
    (new.profile ≡ profile) × (new.sections ≡ []) × MatchOption result (set ≡ []) (λ given. (set ≡ given.section ∷ []) × (given.profile ≡ profile))
popped profile set before old new None are filled few stays none same =
    let is = alone-is profile set old (subst (λ ls. AreLedgersOf profile set (ls ++ old ∷ [])) (filled none) are) in
    (stays ∙ is.profile_is, subst (λ (l : LedgerValue). l.sections ≡ []) (sym same) none, none_held profile set old few is none)
popped profile set before old new (Some v) are filled few stays whole same =
    let is = last-is profile set before old v few are (subst (λ cs. Contains cs v) (sym whole) (Contains-push new.sections v)) in
    (stays ∙ is.profile_is, no_front profile set old few is new.sections v whole, (set_is profile set old few is new.sections v whole, last_by profile set old few is new.sections v whole))

-- with one block at most no two differ, so a reading stops with its stage
pub stopped_stage : (e : Reading) (found : LedgerFault) → length e.blocks ≤ 1 → IsStoppedBy e found → e.stage ≡ AtFault found
stopped_stage e (NotALedger line) few stop = stop.1
stopped_stage e (FalseRows name) few stop = stop.1
stopped_stage e (Log fault) few stop = stop.1
stopped_stage e OutOfMemory few stop = stop.1
stopped_stage e (Conflict name) few stop =
    let inside = stop.other.1.1 in let long = length-append stop.before (stop.section ∷ stop.rest) in let whole = ap (λ (ss : List Trace). length ss) stop.whole in
    absurd (omega (arith, inside, long, whole, few))

-- a section more
module _ (blocks : List Trace) (given : Trace) (rises : NamesRise blocks) where
  pub rises_more : (last : Option Name) → IsLastName blocks last → ((name : Name) → last ≡ Some name → IsBefore name given.name) → NamesRise (blocks ++ given ∷ [])
  rises_more None none after = subst (λ ss. NamesRise (ss ++ given ∷ [])) (sym none) (λ i j d less inside. absurd (omega (arith, less, inside)))
  rises_more (Some name) is after =
      let front = is.0 in let last = is.1 in let rising : NamesRise (front ++ last ∷ []) = subst NamesRise is.2 rises in
      let next : IsBefore last.name given.name = subst (λ n. IsBefore n given.name) (sym is.3) (after name refl) in
      let all : (s : Trace) → Contains blocks s → IsBefore s.name given.name = λ s found. elim (Contains-push_cases front last s (subst (λ ss. Contains ss s) is.2 found)) [
        | inl before ↦ before-trans s.name last.name given.name (AllPairs-last (λ (a : Trace) (b : Trace). IsBefore a.name b.name) front last rising s before) next
        | inr here ↦ subst (λ (t : Trace). IsBefore t.name given.name) here next
      ] in
      all_pairs_push (λ (a : Trace) (b : Trace). IsBefore a.name b.name) blocks given rises (λ k d inside. all (get_or blocks k d) (Contains-get_or blocks k d inside))
