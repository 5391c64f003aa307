-- A reading after one step, where what is kept stood for it.
use Rattle.std.proofs.{Common.{◌≡◌, ℕ, ◌+◌, ◌-◌, ◌<◌, ◌≤◌, true, false, List, [], ◌∷◌, ◌++◌, length, drop, get_or, Some, refl, sym, ◌∙◌, ap, subst, arith, inl, inr, Contains, Ok, codes, bytes_eq, rules}, lemmas.List.{drop_more, length_push, append_cancel_right}, lemmas.List.Elements.{Contains-append_left, Contains-push, Contains-push_cases}, lemmas.Bool.{ne_eqb, false_from_ne_true}, lemmas.Slice.Eq.{bytes_eq-Decides}, lemmas.Bool.Decides.{Decides-eqb}, lemmas.Grind.{common_steps}}
use Rattle.pmf_event.specs.{declared.event.Event.{Event}, declared.name.Name.{Name}, declared.profile.Profile.{Profile}, declared.row.Row.{Row}, declared.section.TheConstants.{EVENT_LIMIT}, Section.{Trace}}
use Rattle.pmf_storelog.specs.{declared.fault.Cause.TheVariants.{TooManyEvents}, declared.line.LineFault.{LineFault}, declared.line.LineFault.TheVariants.{NoEvent, Refused}}
use Rattle.pmf_verdict.specs.{Checked.{Checked, checked_by}, Rows.{rows_of}, Text.{text_of_row}}
use Rattle.pmf_ledger.{specs.declared.blocks.Blocks.{Blocks}, specs.declared.loading.LedgerFault.{LedgerFault}, specs.declared.loading.LedgerFault.TheVariants.{NotALedger, FalseRows, Log}, specs.Following.{HasRead, IsStoppedBy}, specs.Gathered.{IsLedgerOf}, specs.Gathering.{Agrees, HaveSameMembers}, specs.LedgerValue.{LedgerValue}, specs.Loading.{Reading, Stage, AtBlock, AtEvents, AtRows, AtEnd, AtFault, at, after_end, fault_at, after_event, after_row, after_line, after_line_at, with_events, with_section, with_rows, IsFirstOther, IsOther}, specs.Piles.{IsPileOf, ledgers_of}, proofs.lemmas.AddingLemmas.{Contains-cons, Contains-cons_cases}, proofs.lemmas.PileLemmas.{ledgers-members}}

pub IsLedgerOf-members : (profile : Profile) (xs ys : List Trace) (ledger : LedgerValue) → IsLedgerOf profile xs ledger → HaveSameMembers xs ys → IsLedgerOf profile ys ledger
IsLedgerOf-members profile xs ys ledger is alike = record {
  profile_is = is.profile_is;
  checked = is.checked;
  rises = is.rises;
  same = λ s. (λ held. (alike s).0 ((is.same s).0 held), λ found. (is.same s).1 ((alike s).1 found));
}

-- an element in front or behind
pub cons-push : (x : Trace) (xs : List Trace) → HaveSameMembers (x ∷ xs) (xs ++ x ∷ [])
cons-push x xs = λ s. (
  λ front. elim (Contains-cons_cases s x xs front) [ inl same ↦ subst (Contains (xs ++ x ∷ [])) (sym same) (Contains-push xs x) | inr inside ↦ Contains-append_left xs (x ∷ []) s inside ],
  λ behind. elim (Contains-push_cases xs x s behind) [ inl inside ↦ Contains-cons s x xs (inr inside) | inr same ↦ Contains-cons s x xs (inl (sym same)) ],
)

-- a fault that follows from the text alone
module _ (r : Reading) (blocks : Blocks) (read : HasRead r blocks) where
  pub stopped : (e : Reading) (found : LedgerFault) → e ≡ at r (AtFault found) → Agrees e.blocks × (e.stage ≡ AtFault found)
  stopped e found is = (
    subst (λ (o : Reading). Agrees o.blocks) (sym is) read.pile.agrees,
    ap (λ (o : Reading). o.stage) is,
  )

  pub HasRead_same : (other : Blocks) → other.pile ≡ blocks.pile → other.count ≡ blocks.count → HasRead r other
  HasRead_same other pile count = record { pile = subst (IsPileOf r.profile r.blocks) (sym pile) read.pile; count = count ∙ read.count }

  -- its ledgers are by the profile of the reading
  pub own_profile : blocks.pile.last.profile ≡ r.profile
  own_profile = (read.pile.by blocks.pile.last (Contains-push blocks.pile.full.items blocks.pile.last)).profile_is

pub HasRead_at : (r : Reading) (stage : Stage) (blocks : Blocks) → HasRead r blocks → HasRead (at r stage) blocks
HasRead_at r stage blocks read = record { pile = read.pile; count = read.count }

-- one text line, at each stage
module _ (r : Reading) (n : ℕ) (text : List ℕ) where
  pub line-at : (stage : Stage) → r.stage ≡ stage → after_line r n text ≡ after_line_at stage r n text
  unfolding after_line
  line-at stage is = ap (λ s. after_line_at s r n text) is

-- the end
pub end-otherwise : (r : Reading) (n told count : ℕ) → count ≡ length r.blocks → (told ≡ count → ⊥) → after_end r n (Some told) ≡ at r (AtFault (NotALedger n))
end-otherwise r n told count is other = rw (ne_eqb told (length r.blocks) (λ same. other (same ∙ sym is))) refl

pub end-here : (r : Reading) (n told count : ℕ) → count ≡ length r.blocks → told ≡ count → after_end r n (Some told) ≡ at r AtEnd
end-here r n told count is same = rw ((Decides-eqb told (length r.blocks)).1 (same ∙ is)) refl

-- events
pub event-refused : (r : Reading) (blocks : Blocks) → HasRead r blocks → (n : ℕ) (refusal : LineFault) (e : Reading) → e ≡ at r (AtFault (fault_at n refusal)) → IsStoppedBy e (fault_at n refusal)
event-refused r blocks read n NoEvent e is = stopped r blocks read e _ is
event-refused r blocks read n (Refused cause) e is = stopped r blocks read e _ is

pub events_more : (r : Reading) (section : Trace) (more told : ℕ) → 0 < more → with_events r section more told ≡ at r (AtEvents section more told)
unfolding with_events
events_more r section more told some = search rules

pub events_none : (r : Reading) (section : Trace) (more told : ℕ) → more ≤ 0 → with_events r section more told ≡ with_section r section told
unfolding with_events
events_none r section more told none = search rules

pub event-added : (r : Reading) (n : ℕ) (section : Trace) (more told : ℕ) (event : Event) → (length section.events ≡ EVENT_LIMIT → ⊥) →
    after_event r n section more told (Ok event) ≡ with_events r (record { name = section.name; events = section.events ++ event ∷ [] }) (more - 1) told
event-added r n section more told event few = rw (ne_eqb (length section.events) EVENT_LIMIT few) refl

pub event-too_many : (r : Reading) (n : ℕ) (section : Trace) (more told : ℕ) (event : Event) → length section.events ≡ EVENT_LIMIT →
    after_event r n section more told (Ok event) ≡ at r (AtFault (Log (record { at = n; cause = TooManyEvents })))
event-too_many r n section more told event full = rw ((Decides-eqb (length section.events) EVENT_LIMIT).1 full) refl

-- the section checked
pub verdict_is : (section moved : Trace) (p q r : Profile) (verdict : Checked) → verdict ≡ checked_by p moved → moved ≡ section → p ≡ q → q ≡ r → verdict ≡ checked_by r section
verdict_is section moved p q r verdict made kept by own = made ∙ ap (checked_by p) kept ∙ ap (λ profile. checked_by profile section) (by ∙ own)

pub rows_told : (r : Reading) (section : Trace) (told : ℕ) → length (rows_of r.profile section.events) ≡ told → with_section r section told ≡ with_rows r section (rows_of r.profile section.events)
unfolding with_section
rows_told r section told same = rw ((Decides-eqb (length (rows_of r.profile section.events)) told).1 same) refl

pub rows-false : (r : Reading) (section : Trace) (told : ℕ) → (length (rows_of r.profile section.events) ≡ told → ⊥) → with_section r section told ≡ at r (AtFault (FalseRows section.name))
unfolding with_section
rows-false r section told other = rw (ne_eqb (length (rows_of r.profile section.events)) told other) refl

-- rows
pub rows_more : (r : Reading) (section : Trace) (rows : List Row) (k : ℕ) → k < length rows → with_rows r section (drop k rows) ≡ at r (AtRows section (drop k rows))
unfolding with_rows
rows_more r section [] k below = absurd (omega arith)
rows_more r section (row ∷ rows) k below = rw (drop_more (row ∷ rows) k row below) refl

pub row_same : (r : Reading) (n : ℕ) (text : List ℕ) (section : Trace) (rows : List Row) (k : ℕ) (x d : Row) → k < length rows → x ≡ get_or rows k d → bytes_eq (text ++ codes "\n") (text_of_row x) ≡ true →
    after_row r n text section (drop k rows) ≡ with_rows r section (drop (k + 1) rows)
unfolding after_row
row_same r n text section rows k x d below is same = rw (drop_more rows k d below, ← is, same) refl

pub row-other : (r : Reading) (n : ℕ) (text : List ℕ) (section : Trace) (rows : List Row) (k : ℕ) (x d : Row) → k < length rows → x ≡ get_or rows k d → bytes_eq (text ++ codes "\n") (text_of_row x) ≡ false →
    after_row r n text section (drop k rows) ≡ at r (AtFault (FalseRows section.name))
unfolding after_row
row-other r n text section rows k x d below is other = rw (drop_more rows k d below, ← is, other) refl

-- a block more
module _ (r : Reading) (blocks : Blocks) (read : HasRead r blocks) (section : Trace) where
  pub HasRead-taken : (new : Blocks) → IsPileOf r.profile (section ∷ r.blocks) new.pile → new.count ≡ blocks.count + 1 → HasRead (with_rows r section []) new
  unfolding with_rows
  HasRead-taken new taken count = record {
    pile = ledgers-members r.profile (section ∷ r.blocks) (r.blocks ++ section ∷ []) (ledgers_of new.pile) taken (cons-push section r.blocks);
    count = let long = length_push r.blocks section in let so = read.count in omega (arith, count, so, long);
  }

  pub first_other : (name : Name) → name ≡ section.name → IsOther r.blocks section → IsFirstOther (with_rows r section []).blocks name
  unfolding with_rows
  first_other name is other = record {
    before = r.blocks;
    section = section;
    rest = [];
    whole = refl;
    agrees = read.pile.agrees;
    other = other;
    named = sym is;
  }

pub taken_stage : (r : Reading) (section : Trace) → (with_rows r section []).stage ≡ AtBlock
unfolding with_rows
taken_stage r section = refl

-- a line that is the same with a line end behind it
pub ended-same : (text line : List ℕ) → bytes_eq text line ≡ bytes_eq (text ++ codes "\n") (line ++ codes "\n")
ended-same text line = grind (arith, common_steps, bytes_eq-Decides, false_from_ne_true, append_cancel_right)

pub ended-other : (text spelled : List ℕ) → ((front : List ℕ) → spelled ≡ front ++ 10 ∷ [] → ⊥) → false ≡ bytes_eq (text ++ 10 ∷ []) spelled
ended-other text spelled none = sym (false_from_ne_true _ (λ is. none text (sym ((bytes_eq-Decides (text ++ 10 ∷ []) spelled).0 is))))
