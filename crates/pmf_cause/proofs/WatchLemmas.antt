-- The lines that are watched: one more is put in, and a span that meets none.
use Rattle.std.proofs.{Common.{◌≡◌, ℕ, ◌+◌, ◌-◌, ◌<◌, Bool, true, false, if◌then◌else◌, List, length, get_or, is_some, sym, subst, ap, ◌∙◌, arith, inl, inr}, lemmas.Bool.{cases_eq}, lemmas.List.{get_or_default}, lemmas.Grind.{common_steps}}
use Rattle.pmf_event.{specs.declared.event.Event.{Event}, specs.declared.event.Event.TheVariants.{Flush, TxAdd}, specs.declared.row.Row.{Row}, specs.declared.finding.Finding.{Finding}, specs.declared.finding.Finding.TheVariants.{PersistFail, CheckFail, OrderedFail, OrderedSameLine, FlushDoubled, FlushNeedless, DupLog}, specs.Span.{Extent, covers_byte}, specs.Line.{line_of_byte, meets_line}, specs.Ranges.{first_from}, specs.Store.{flushes}, specs.Transactions.{adds}, proofs.RangeLemmas.{none-from, none-passes}}
use Rattle.pmf_runs.specs.{declared.members.Members.{Members}, declared.runs.RunMap.{RunMap}, contracts.members.BoolState.TheImpl.{ghosts}, Runs.{is_between, passing, state_at, ChangesBetween}}
use Rattle.pmf_places.specs.declared.places.Place.{Place}
use Rattle.pmf_places.specs.contracts.places.PlaceState.TheImpl as places
use Rattle.pmf_cause.specs.{declared.watch.Watch.{Watch}, Later.{asked, asks_byte}, Watching.{Asks, Widens, has_line}}

abbrev Lines : Type 0
Lines = RunMap Bool Members ghosts

-- a line's own address is its line's
same_line : (b : ℕ) → line_of_byte (line_of_byte b) ≡ line_of_byte b
same_line b = grind arith

-- the lines from first up to the end are put in
pub line_put : (old new : Lines) (first end : ℕ) → ChangesBetween first end (λ member. true) old new → (b : ℕ) → has_line new b ≡ (if is_between first end (line_of_byte b) then true else has_line old b)
unfolding has_line
line_put old new first end changes b = changes.states (line_of_byte b)

put_on : (c old new : Bool) → new ≡ (if c then true else old) → old ≡ true → new ≡ true
put_on true old new is was = is
put_on false old new is was = is ∙ was

pub line_kept : (old new : Lines) (first end : ℕ) → ChangesBetween first end (λ member. true) old new → (b : ℕ) → has_line old b ≡ true → has_line new b ≡ true
line_kept old new first end changes b was = put_on (is_between first end (line_of_byte b)) (has_line old b) (has_line new b) (line_put old new first end changes b) was

-- a span that meets no line of the set
pub unmet : (lines : Lines) (s : Extent) (first end : ℕ) → ((b : ℕ) → is_between first end b ≡ meets_line s (line_of_byte b)) → is_some (first_from (passing (λ member. member) lines) first (end - first)) ≡ false →
    (b : ℕ) → has_line lines b ≡ true → meets_line s (line_of_byte b) ≡ false
unfolding has_line is_between passing
unmet lines s first end met none b has =
    let line = line_of_byte b in
    let passes = none-passes (passing (λ member. member) lines) first (end - first) (none-from _ none) line in
    let at = met line in
    let own = same_line b in
    grind (arith, common_steps)

-- the byte's own line is put in
pub line_there : (old new : Lines) (byte first end : ℕ) → first ≡ line_of_byte byte → first < end → ChangesBetween first end (λ member. true) old new → has_line new byte ≡ true
unfolding has_line is_between
line_there old new byte first end is some changes = let at = changes.states (line_of_byte byte) in grind (arith, common_steps)

-- ---- what findings ask for

module _ (watch : Watch) where
  pub asks_line : (f : Finding) → Asks watch f → asks_byte f ≡ true → has_line watch.stored (asked f) ≡ true
  unfolding Asks asks_byte asked
  asks_line (PersistFail b) asks is = asks
  asks_line (CheckFail b) asks is = asks
  asks_line (OrderedFail b after crash) asks is = asks.0
  asks_line (OrderedSameLine b after) asks is = asks.0
  asks_line _ asks is = let bad : false ≡ true = is in cc

  pub asks_still : (old : Watch) → Widens old watch → (f : Finding) → Asks old f → Asks watch f
  unfolding Asks
  asks_still old widens (PersistFail b) asks = widens.stored b asks
  asks_still old widens (CheckFail b) asks = widens.stored b asks
  asks_still old widens (OrderedFail b after crash) asks = (widens.stored b asks.0, widens.stored after asks.1)
  asks_still old widens (OrderedSameLine b after) asks = (widens.stored b asks.0, widens.stored after asks.1)
  asks_still old widens (FlushDoubled line lines) asks = widens.flushed line asks
  asks_still old widens (FlushNeedless line lines) asks = widens.flushed line asks
  asks_still old widens (DupLog b) asks = widens.added b asks
  asks_still old widens _ asks = tt

-- one row more
pub asks_all : (new old : Watch) → Widens old new → (rows : List Row) (i : ℕ) (d : Row) → i < length rows → Asks new (get_or rows i d).finding →
    ((k : ℕ) (r : Row) → k < i → Asks old (get_or rows k r).finding) → (k : ℕ) (r : Row) → k < i + 1 → Asks new (get_or rows k r).finding
asks_all new old widens rows i d within here before k r less = elim (cases_eq k i) [
  | inl same ↦ subst (λ (x : Row). Asks new x.finding) (get_or_default rows i d r within ∙ ap (λ j. get_or rows j r) (sym same)) here
  | inr other ↦ asks_still new old widens (get_or rows k r).finding (before k r (omega arith))
]

-- ---- an event that meets none of the lines

-- a span that covers a byte meets its line
pub not_covered : (s : Extent) (b : ℕ) → meets_line s (line_of_byte b) ≡ false → covers_byte s b ≡ false
not_covered s b none = grind (arith, common_steps)

module _ (runs : RunMap Place (Unit {0}) places.ghosts) (place : ℕ) (e : Event) (s : Extent) where
  pub not_flushed_here : e ≡ Flush s → (b : ℕ) → meets_line s (line_of_byte b) ≡ false → (state_at runs b).of ≡ (if flushes (line_of_byte b) e then place else (state_at runs b).of)
  unfolding flushes
  not_flushed_here is b none = sym (ap (λ c. if c then place else (state_at runs b).of) (ap (flushes (line_of_byte b)) is ∙ none))

  pub not_added_here : e ≡ TxAdd s → (b : ℕ) → meets_line s (line_of_byte b) ≡ false → (state_at runs b).of ≡ (if adds b e then place else (state_at runs b).of)
  unfolding adds
  not_added_here is b none = sym (ap (λ c. if c then place else (state_at runs b).of) (ap (adds b) is ∙ not_covered s b none))
