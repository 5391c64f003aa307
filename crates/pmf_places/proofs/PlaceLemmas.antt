-- Places that one more event puts.
use Rattle.std.proofs.{Common.{◌≡◌, ℕ, suc, ◌+◌, ◌-◌, ◌<◌, ◌%◌, Bool, true, false, ◌&&◌, ◌==◌, nat_lt, nat_le, if◌then◌else◌, List, Option, Some, None, refl, sym, ap, ◌∙◌, arith, inl, inr, length, get_or}, lemmas.Bool.{cases_lt}, lemmas.Grind.{common_steps}, lemmas.Option.{slice_get_read}}
use Rattle.pmf_event.{specs.declared.event.Event.{Event}, specs.declared.event.Event.TheVariants.{Flush, Store, TxAdd}, specs.Span.{Extent}, specs.Line.{line_of_byte, meets_line}, specs.Places.{greatest}, specs.Store.{at, event_at, flushes, last, passes, stores}, specs.Transactions.{adds}, proofs.PlacesLemmas.{greatest-passes}, proofs.EventLemmas.{last-none, last-step}}
use Rattle.pmf_runs.specs.{declared.runs.RunMap.{RunMap}, Runs.{is_between, state_at, ChangesBetween}}
use Rattle.pmf_places.specs.declared.places.Place.{Place}
use Rattle.pmf_places.specs.contracts.places.PlaceState.TheImpl as places

abbrev Places : Type 0
Places = RunMap Place (Unit {0}) places.ghosts

pub lines_met : (s : Extent) (first last : ℕ) → 0 < s.size → first ≡ line_of_byte s.first → last ≡ line_of_byte (s.first + s.size - 1) →
    (b : ℕ) → is_between first (last + 64) b ≡ meets_line s (line_of_byte b)
unfolding is_between
lines_met s first last some at_first at_last b = grind (arith, common_steps)

-- the event at an index stands at the place behind it
pub event_here : (es : List Event) (k : ℕ) (e : Event) → k < length es → e ≡ get_or es k e → event_at es (suc k) ≡ Some e
unfolding event_at
event_here es k e within is = slice_get_read es (length es) k e refl within is

-- ---- an event that puts a place

placed : (c : Bool) (place : ℕ) (y : Place) → (if c then record { of = place } else y).of ≡ (if c then place else y.of)
placed true place y = refl
placed false place y = refl

module _ (old new : Places) (f l place : ℕ) (changes : ChangesBetween f l (λ state. record { of = place }) old new) where
  put_where : (b : ℕ) (c : Bool) → is_between f l b ≡ c → (state_at new b).of ≡ (if c then place else (state_at old b).of)
  put_where b c within =
      ap (λ (s : Place). s.of) (changes.states b)
      ∙ placed (is_between f l b) place (state_at old b)
      ∙ ap (λ v. if v then place else (state_at old b).of) within

  pub flushed : (s : Extent) (e : Event) → e ≡ Flush s → ((b : ℕ) → is_between f l b ≡ meets_line s (line_of_byte b)) →
      (b : ℕ) → (state_at new b).of ≡ (if flushes (line_of_byte b) e then place else (state_at old b).of)
  unfolding flushes
  flushed s e is lines b = put_where b (flushes (line_of_byte b) e) (lines b ∙ sym (ap (flushes (line_of_byte b)) is))

  pub added : (s : Extent) (e : Event) → e ≡ TxAdd s → f ≡ s.first → l ≡ s.first + s.size →
      (b : ℕ) → (state_at new b).of ≡ (if adds b e then place else (state_at old b).of)
  unfolding adds is_between
  added s e is at_f at_l b = put_where b (adds b e) (ap (λ x. nat_le x b && nat_lt b l) at_f ∙ ap (λ x. nat_le s.first b && nat_lt b x) at_l ∙ sym (ap (adds b) is))

  pub stored : (s : Extent) (e : Event) → e ≡ Store s → f ≡ s.first → l ≡ s.first + s.size →
      (b : ℕ) → (state_at new b).of ≡ (if stores b e then place else (state_at old b).of)
  unfolding stores is_between
  stored s e is at_f at_l b = put_where b (stores b e) (ap (λ x. nat_le x b && nat_lt b l) at_f ∙ ap (λ x. nat_le s.first b && nat_lt b x) at_l ∙ sym (ap (stores b) is))

-- ---- another event

pub no_flush : (e : Event) → ((s : Extent) → e ≡ Flush s → ⊥) → (line : ℕ) → flushes line e ≡ false
unfolding flushes
no_flush (Flush s) other line = absurd (other s refl)
no_flush _ other line = refl

no_add : (e : Event) → ((s : Extent) → e ≡ TxAdd s → ⊥) → (b : ℕ) → adds b e ≡ false
unfolding adds
no_add (TxAdd s) other b = absurd (other s refl)
no_add _ other b = refl

no_store : (e : Event) → ((s : Extent) → e ≡ Store s → ⊥) → (b : ℕ) → stores b e ≡ false
unfolding stores
no_store (Store s) other b = absurd (other s refl)
no_store _ other b = refl

pub not_flushed : (runs : Places) (place : ℕ) (e : Event) → ((s : Extent) → e ≡ Flush s → ⊥) → (b : ℕ) → (state_at runs b).of ≡ (if flushes (line_of_byte b) e then place else (state_at runs b).of)
not_flushed runs place e other b = sym (ap (λ c. if c then place else (state_at runs b).of) (no_flush e other (line_of_byte b)))

pub not_added : (runs : Places) (place : ℕ) (e : Event) → ((s : Extent) → e ≡ TxAdd s → ⊥) → (b : ℕ) → (state_at runs b).of ≡ (if adds b e then place else (state_at runs b).of)
not_added runs place e other b = sym (ap (λ c. if c then place else (state_at runs b).of) (no_add e other b))

pub not_stored : (runs : Places) (place : ℕ) (e : Event) → ((s : Extent) → e ≡ Store s → ⊥) → (b : ℕ) → (state_at runs b).of ≡ (if stores b e then place else (state_at runs b).of)
not_stored runs place e other b = sym (ap (λ c. if c then place else (state_at runs b).of) (no_store e other b))

-- ---- the last places

pub last_from_none : (runs : Places) (b : ℕ) (test : Event → Bool) → state_at runs b ≡ record { of = 0 } → (es : List Event) → (state_at runs b).of ≡ last test es 0
last_from_none runs b test none es = ap (λ (s : Place). s.of) none ∙ sym (last-none test es)

pub last_next : (old new place : ℕ) (test : Event → Bool) (es : List Event) (p : ℕ) (e : Event) → event_at es (suc p) ≡ Some e → place ≡ suc p →
    new ≡ (if test e then place else old) → old ≡ last test es p → new ≡ last test es (suc p)
last_next old new place test es p e here at_place is was =
    is ∙ ap (λ k. if test e then k else old) at_place ∙ ap (λ k. if test e then suc p else k) was ∙ sym (last-step test es p e here)

never : (line : ℕ) (o : Option Event) → (line % 64 == 0) ≡ false → passes (flushes line) o ≡ false
unfolding flushes
never line None apart = refl
never line (Some (Flush s)) apart = ap (λ c. c && (nat_lt s.first (line + 64) && nat_lt line (s.first + s.size))) apart
never line (Some _) apart = refl

-- an address that is no line's is never written back
pub no_line : (line : ℕ) → (line % 64 == 0) ≡ false → (es : List Event) (p : ℕ) → 0 ≡ last (flushes line) es p
unfolding last at
no_line line apart es p = elim (cases_lt 0 (greatest (at (flushes line) es) p)) [
  | inl some ↦ let bad : false ≡ true = sym (never line (event_at es (greatest (at (flushes line) es) p)) apart) ∙ greatest-passes (at (flushes line) es) p some in cc
  | inr none ↦ omega arith
]
