-- A persist assertion looks at the events that concern a byte of its span: a fold over them tells all that it asks of the byte.
use Rattle.std.proofs.{Common.{◌≡◌, ℕ, zero, suc, ◌+◌, ◌-◌, ◌<◌, ◌≤◌, Bool, true, false, not, ◌&&◌, ◌||◌, ◌==◌, nat_lt, if◌then◌else◌, List, [], ◌∷◌, take, slice_get, refl, sym, ◌∙◌, ap, ap₂, subst, arith, Option, Some, None, is_none}}
use Rattle.std.specs.List.{filter}
use Rattle.pmf_event.{specs.declared.event.Event.{Event}, specs.declared.finding.Finding.TheVariants.{PersistEmpty}, specs.Span.{Extent}, specs.Line.{line_of_byte}, specs.Places.{greatest, least, some_between}, specs.Ranges.{first_byte}, specs.Store.{at, event_at, passes, stores, flushes, is_fence, last, last_store, epoch_of}, specs.Interval.{closes, closing_fence, epoch_after, is_open}, specs.Exclusion.{excludes, marks, is_excluded}, specs.Persist.{is_checked, is_exposed, pass_unless, persist_finding}, proofs.PlacesLemmas.{least-step, least-none_behind, greatest-step, greatest-bound}, proofs.RangeLemmas.{first_from-same, none-from, none-passes}}
use Rattle.pmf_verdict.specs.{Staying.{touches}, Locality.{concerns, concerns_span, PersistIsLocal}}

-- of a byte's last store: whether there is one, a write-back behind it, and a fence behind that; and whether the byte is excluded
record Seen : Type 0 where
  stored : Bool
  back : Bool
  closed : Bool
  out : Bool

abbrev untouched : Seen
untouched = record { stored = false; back = false; closed = false; out = false }

-- what it is after one more event, of which these tests hold
abbrev after : Bool → Bool → Bool → Bool → Bool → Seen → Seen
after stored flushed fenced marked excluded s = record {
  stored = stored || s.stored;
  back = not stored && (flushed || s.back);
  closed = not stored && (s.closed || (fenced && s.back));
  out = if marked then excluded else s.out;
}

abbrev seen_next : ℕ → Option Event → Seen → Seen
seen_next b e s = after (passes (stores b) e) (passes (flushes (line_of_byte b)) e) (passes is_fence e) (passes (marks b) e) (passes (excludes b) e) s

abbrev seen_from : ℕ → Seen → List Event → Seen
seen_from b s [] = s
seen_from b s (e ∷ es) = seen_from b (seen_next b (Some e) s) es

seen-none : (b : ℕ) (s : Seen) → seen_next b None s ≡ s
seen-none b s = grind arith

seen-unconcerned : (b : ℕ) (e : Event) (s : Seen) → concerns b e ≡ false → seen_next b (Some e) s ≡ s
unfolding concerns touches
seen-unconcerned b e s none = grind arith

seen-filter : (b : ℕ) (test : Event → Bool) → ((e : Event) → test e ≡ false → concerns b e ≡ false) → (s : Seen) (es : List Event) → seen_from b s (filter test es) ≡ seen_from b s es
seen-filter b test only s [] = refl
seen-filter b test only s (e ∷ es) = elim (test e) as (λ v. test e ≡ v → seen_from b s (filter test (e ∷ es)) ≡ seen_from b s (e ∷ es)) [
  | true ↦ λ is. rw is (seen-filter b test only (seen_next b (Some e) s) es)
  | false ↦ λ is. rw (is, seen-unconcerned b e s (only e is)) (seen-filter b test only s es)
] refl

take-next : (b : ℕ) (s : Seen) (es : List Event) (p : ℕ) → seen_from b s (take (suc p) es) ≡ seen_next b (slice_get es p) (seen_from b s (take p es))
take-next b s [] zero = sym (seen-none b s)
take-next b s [] (suc p) = sym (seen-none b s)
take-next b s (e ∷ es) zero = refl
take-next b s (e ∷ es) (suc p) = take-next b (seen_next b (Some e) s) es p

-- ---- what is asked of a byte at a place is what was seen of it

record Tells (es : List Event) (p b : ℕ) (s : Seen) : Type 0 where
  stored : nat_lt 0 (last_store es p b) ≡ s.stored
  back : nat_lt (last_store es p b) (greatest (at (flushes (line_of_byte b)) es) p) ≡ s.back
  closed : nat_lt 0 (closing_fence (stores b) (line_of_byte b) es p) ≡ s.closed
  out : is_excluded es p b ≡ s.out

stored-step : (v : Bool) (l p : ℕ) → nat_lt 0 (if v then suc p else l) ≡ (v || nat_lt 0 l)
stored-step v l p = grind arith

back-step : (v w : Bool) (l f p : ℕ) → l ≤ p → f ≤ p → nat_lt (if v then suc p else l) (if w then suc p else f) ≡ (not v && (w || nat_lt l f))
back-step v w l f p early before = grind arith

closed-step : (t : Bool) (c p : ℕ) → nat_lt 0 (if nat_lt 0 c then c else (if t then suc p else 0)) ≡ (nat_lt 0 c || t)
closed-step t c p = grind arith

module _ (es : List Event) (p b : ℕ) where
  abbrev line : ℕ
  line = line_of_byte b

  last-step : (test : Event → Bool) → last test es (suc p) ≡ (if at test es (suc p) then suc p else last test es p)
  unfolding last
  last-step test = greatest-step (at test es) p

  last-bound : (test : Event → Bool) → last test es p ≤ p
  unfolding last
  last-bound test = greatest-bound (at test es) p

  -- a store is closed by a fence behind it alone
  closes-behind : (k : ℕ) → closes es line (suc p) k ≡ true → suc p < k
  unfolding closes some_between
  closes-behind k closed = let most = greatest-bound (at (flushes line) es) (k - 1) in grind arith

  closed-behind : at (stores b) es (suc p) ≡ true → nat_lt 0 (closing_fence (stores b) line es (suc p)) ≡ false
  unfolding closing_fence
  closed-behind is = rw (last-step (stores b), is, least-none_behind (closes es line (suc p)) (suc p) closes-behind) refl

  closed-on : at (stores b) es (suc p) ≡ false → nat_lt 0 (closing_fence (stores b) line es (suc p)) ≡ (nat_lt 0 (closing_fence (stores b) line es p) || (at is_fence es (suc p) && nat_lt (last_store es p b) (greatest (at (flushes line) es) p)))
  unfolding closing_fence closes some_between
  closed-on not =
      let before : suc p - 1 ≡ p = omega arith in
      let l = last_store es p b in
      let c = least (closes es line l) p in
      let fence = at is_fence es (suc p) in
      let by = λ (n : ℕ). fence && nat_lt l (greatest (at (flushes line) es) n) in
      rw (last-step (stores b), not) (ap (nat_lt 0) (least-step (closes es line l) p) ∙ closed-step (by (suc p - 1)) c p ∙ ap (λ n. nat_lt 0 c || by n) before)

  closed-next : nat_lt 0 (closing_fence (stores b) line es (suc p))
      ≡ (not (at (stores b) es (suc p)) && (nat_lt 0 (closing_fence (stores b) line es p) || (at is_fence es (suc p) && nat_lt (last_store es p b) (greatest (at (flushes line) es) p))))
  closed-next = elim (at (stores b) es (suc p)) as (λ v. at (stores b) es (suc p) ≡ v → nat_lt 0 (closing_fence (stores b) line es (suc p))
      ≡ (not v && (nat_lt 0 (closing_fence (stores b) line es p) || (at is_fence es (suc p) && nat_lt (last_store es p b) (greatest (at (flushes line) es) p))))) [
        | true ↦ closed-behind
        | false ↦ closed-on
      ] refl

  out-next : is_excluded es (suc p) b ≡ (if at (marks b) es (suc p) then at (excludes b) es (suc p) else is_excluded es p b)
  unfolding is_excluded
  out-next = ap (at (excludes b) es) (last-step (marks b)) ∙ elim (at (marks b) es (suc p)) as (λ v. at (excludes b) es (if v then suc p else last (marks b) es p) ≡ (if v then at (excludes b) es (suc p) else at (excludes b) es (last (marks b) es p))) [ true ↦ refl | false ↦ refl ]

  tells-next : (s : Seen) → Tells es p b s → Tells es (suc p) b (seen_next b (event_at es (suc p)) s)
  unfolding at
  tells-next s told = record {
    stored = ap (nat_lt 0) (last-step (stores b)) ∙ stored-step (at (stores b) es (suc p)) (last_store es p b) p ∙ ap (λ v. at (stores b) es (suc p) || v) told.stored;
    back = ap₂ nat_lt (last-step (stores b)) (greatest-step (at (flushes line) es) p)
        ∙ back-step (at (stores b) es (suc p)) (at (flushes line) es (suc p)) (last_store es p b) (greatest (at (flushes line) es) p) p (last-bound (stores b)) (greatest-bound (at (flushes line) es) p)
        ∙ ap (λ v. not (at (stores b) es (suc p)) && (at (flushes line) es (suc p) || v)) told.back;
    closed = closed-next ∙ ap₂ (λ u v. not (at (stores b) es (suc p)) && (u || (at is_fence es (suc p) && v))) told.closed told.back;
    out = out-next ∙ ap (λ v. if at (marks b) es (suc p) then at (excludes b) es (suc p) else v) told.out;
  }

tells-none : (es : List Event) (b : ℕ) → Tells es 0 b untouched
unfolding last greatest closing_fence least is_excluded at event_at
tells-none es b = record { stored = refl; back = refl; closed = refl; out = refl }

tells : (es : List Event) (p b : ℕ) → Tells es p b (seen_from b untouched (take p es))
unfolding event_at
tells [] zero b = tells-none [] b
tells (e ∷ es) zero b = tells-none (e ∷ es) b
tells es (suc p) b = subst (Tells es (suc p) b) (sym (take-next b untouched es p)) (tells-next es p b (seen_from b untouched (take p es)) (tells es p b))

checked-seen : (es : List Event) (p b : ℕ) (s : Seen) → Tells es p b s → is_checked es p b ≡ (s.stored && not s.out)
unfolding is_checked
checked-seen es p b s told = ap₂ (λ u v. u && not v) told.stored told.out

open-seen : (stored closed : Bool) (l f : ℕ) (es : List Event) → nat_lt 0 l ≡ stored → nat_lt 0 f ≡ closed →
    is_open (if l == 0 then None else Some (record { last = l; opens = epoch_of es l; closes = epoch_after es f })) ≡ (stored && not closed)
open-seen stored closed l f es is ended = grind arith

exposed-seen : (es : List Event) (p b : ℕ) (s : Seen) → Tells es p b s → is_exposed es p b ≡ ((s.stored && not s.out) && (s.stored && not s.closed))
unfolding is_exposed
exposed-seen es p b s told = ap₂ (λ u v. u && v) (checked-seen es p b s told) (open-seen s.stored s.closed (last_store es p b) (closing_fence (stores b) (line_of_byte b) es p) es told.stored told.closed)

-- ---- the law

module _ (es fs : List Event) (p q : ℕ) (s : Extent) (same : filter (concerns_span s) (take p es) ≡ filter (concerns_span s) (take q fs)) where
  seen-same : (b : ℕ) → s.first ≤ b → b < s.first + s.size → seen_from b untouched (take p es) ≡ seen_from b untouched (take q fs)
  seen-same b low high =
      let only = λ (e : Event) (none : concerns_span s e ≡ false). none-passes (λ k. concerns k e) s.first s.size (none-from (first_byte (λ k. concerns k e) s) none) b low high in
      sym (seen-filter b (concerns_span s) only untouched (take p es)) ∙ ap (seen_from b untouched) same ∙ seen-filter b (concerns_span s) only untouched (take q fs)

  checked-local : (b : ℕ) → s.first ≤ b → b < s.first + s.size → is_checked es p b ≡ is_checked fs q b
  checked-local b low high =
      checked-seen es p b _ (tells es p b) ∙ ap (λ (v : Seen). v.stored && not v.out) (seen-same b low high) ∙ sym (checked-seen fs q b _ (tells fs q b))

  exposed-local : (b : ℕ) → s.first ≤ b → b < s.first + s.size → is_exposed es p b ≡ is_exposed fs q b
  exposed-local b low high =
      exposed-seen es p b _ (tells es p b) ∙ ap (λ (v : Seen). (v.stored && not v.out) && (v.stored && not v.closed)) (seen-same b low high) ∙ sym (exposed-seen fs q b _ (tells fs q b))

  persist-local : persist_finding es p s ≡ persist_finding fs q s
  unfolding persist_finding
  persist-local = ap₂ (λ c u. if is_none c then PersistEmpty else pass_unless u)
      (first_from-same (is_checked es p) (is_checked fs q) s.first s.size checked-local) (first_from-same (is_exposed es p) (is_exposed fs q) s.first s.size exposed-local)

pub persist_is_local : PersistIsLocal
persist_is_local es fs p q s same = persist-local es fs p q s same
