-- What is kept answers the questions as the definitions do.
use Rattle.std.proofs.{Common.{◌≡◌, ℕ, ◌+◌, ◌*◌, ◌<◌, ◌≤◌, Bool, true, false, not, ◌&&◌, ◌==◌, nat_lt, if◌then◌else◌, List, refl, sym, ◌∙◌, ap, arith, inl, inr, Option, Some, None, is_none, le-ltb, lt-ltb, ne_eqb}, lemmas.Bool.{cases_lt}, Math.Bool.{and-false}}
use Rattle.pmf_event.{specs.declared.event.Event.{Event}, specs.declared.interval.Interval.{Interval}, specs.Span.{Extent}, specs.Line.{line_of_byte}, specs.Places.{count}, specs.Ranges.{first_byte}, specs.Store.{at, stores, is_fence, last_store, epoch_of}, specs.WriteBack.{write_back_epoch, epoch_unless}, specs.Interval.{closing_fence, epoch_after, interval_at}, specs.Exclusion.{is_excluded, is_included}, specs.Persist.{is_checked, is_exposed}, specs.FlushWarnings.{is_clean, is_pending, lines_where}, specs.LineBytes.{is_undurable, is_unwritten}, proofs.RangeLemmas.{first_from-same}, proofs.WriteBackLemmas.{closing-from_epoch, closing-none, closing-late}, proofs.LineBytesLemmas.{lines_follow_from_their_bytes}}
use Rattle.pmf_shadow.{specs.declared.byte.ByteState.{ByteState}, specs.declared.byte.Stored.{Stored}, specs.declared.shadow.Shadow.{Shadow}, specs.States.{stored_of, checked_store, holds_of, any_store, is_late, is_from, late_for, lacks_write_back, written_back_from}, specs.Shadow.{stored_at, closing, StandsFor}, specs.Told.{interval_as_told}, specs.Stretches.{line_lacks, line_has_but, lines_by}, proofs.StandsLemmas.{IsByteAt, stands-bytes}, proofs.StretchLemmas.{lines_by-same, clean-by, pending-by}}
use Rattle.pmf_shadow.specs.Bytes.{state_at, passing}

-- ---- where an interval closes

pub closing-some : (fences w : ℕ) → w < fences → closing fences (Some w) ≡ Some (w + 1)
closing-some fences w ended = ap (λ v. if v then Some (w + 1) else None) (lt-ltb w fences ended)

pub closing-open : (fences w : ℕ) → fences ≤ w → closing fences (Some w) ≡ None
closing-open fences w late = ap (λ v. if v then Some (w + 1) else None) (le-ltb w fences late)

-- the epoch after the closing fence's, by the epoch of the first write-back
pub closes-is : (stored : Event → Bool) (line : ℕ) (es : List Event) (p : ℕ) (o : Option ℕ) → write_back_epoch stored line es p ≡ o →
    closing (count (at is_fence es) p) o ≡ epoch_after es (closing_fence stored line es p)
closes-is stored line es p None is = sym (closing-none stored line es p is)
closes-is stored line es p (Some w) is = elim (cases_lt w (count (at is_fence es) p)) [
  | inl ended ↦ closing-some (count (at is_fence es) p) w ended ∙ sym (closing-from_epoch stored line es p w is ended)
  | inr late ↦ closing-open (count (at is_fence es) p) w late ∙ sym (closing-late stored line es p w is late)
]

late-is_open : (fences : ℕ) (o : Option ℕ) → is_late fences o ≡ is_none (closing fences o)
late-is_open fences o = grind arith

-- ---- one byte

pub interval_of : List Event → ℕ → Option ℕ → Option Interval
interval_of es l c = if l == 0 then None else Some (record { last = l; opens = epoch_of es l; closes = c })

pub interval_of-some : (es : List Event) (l : ℕ) (c : Option ℕ) → 0 < l → interval_of es l c ≡ Some (record { last = l; opens = epoch_of es l; closes = c })
unfolding interval_of
interval_of-some es l c some = ap (λ v. if v then None else Some (record { last = l; opens = epoch_of es l; closes = c })) (ne_eqb l 0 (λ zero_is. omega arith))

pub interval_at-is : (es : List Event) (p b : ℕ) → interval_at es p b ≡ interval_of es (last_store es p b) (epoch_after es (closing_fence (stores b) (line_of_byte b) es p))
unfolding interval_of
interval_at-is es p b = refl

-- what is kept of a byte that is written
pub record IsWritten (told : ℕ → ℕ) (es : List Event) (p b : ℕ) (k : Stored) : Type 0 where
  pub some : 0 < last_store es p b
  pub place : k.last ≡ told (last_store es p b)
  pub epoch : k.opens ≡ epoch_of es (last_store es p b)
  pub write_back : k.written_back ≡ write_back_epoch (stores b) (line_of_byte b) es p

pub written-from_stored : (told : ℕ → ℕ) (es : List Event) (p b : ℕ) (k : Stored) → stored_at told es p b ≡ Some k → IsWritten told es p b k
written-from_stored told es p b k is = grind arith

never : (o : Option Stored) (k : Stored) → o ≡ None → o ≡ Some k → ⊥
never o k none some = let bad : None ≡ Some k = sym none ∙ some in cc

pub unwritten-from_none : (told : ℕ → ℕ) (es : List Event) (p b : ℕ) → stored_at told es p b ≡ None → last_store es p b ≡ 0
unwritten-from_none told es p b is = grind arith

-- the interval of a byte without a store
interval-unwritten : (told : ℕ → ℕ) (es : List Event) (p b : ℕ) → stored_at told es p b ≡ None → interval_at es p b ≡ None
unfolding interval_of
interval-unwritten told es p b is = grind arith

-- whether it is checked, by what is kept
checked-by : (told : ℕ → ℕ) (es : List Event) (p b : ℕ) (out : Bool) (o : Option Stored) → is_excluded es p b ≡ out → stored_at told es p b ≡ o →
    is_checked es p b ≡ holds_of any_store (if out then None else o)
unfolding is_checked
checked-by told es p b out o h1 h2 = grind (arith, and-false, unwritten-from_none, lt-ltb, written-from_stored)

pub checked-is : (told : ℕ → ℕ) (es : List Event) (p b : ℕ) (s : ByteState) → IsByteAt told es p b s → is_checked es p b ≡ holds_of any_store (checked_store s)
checked-is told es p b s is = checked-by told es p b s.excluded (stored_of s) (sym is.excluded) (sym is.stored)

exposed-by : (told : ℕ → ℕ) (es : List Event) (p b : ℕ) (out : Bool) (o : Option Stored) → is_excluded es p b ≡ out → stored_at told es p b ≡ o →
    is_exposed es p b ≡ holds_of (late_for (count (at is_fence es) p)) (if out then None else o)
unfolding is_exposed
exposed-by told es p b out o h1 h2 = grind (arith, checked-by, written-from_stored, interval_at-is, interval_of-some, closes-is, late-is_open)

exposed-is : (told : ℕ → ℕ) (es : List Event) (p b : ℕ) (s : ByteState) → IsByteAt told es p b s → is_exposed es p b ≡ holds_of (late_for (count (at is_fence es) p)) (checked_store s)
exposed-is told es p b s is = exposed-by told es p b s.excluded (stored_of s) (sym is.excluded) (sym is.stored)

-- ---- undurable and unwritten bytes, excluded or not

fence-none : (es : List Event) (f : ℕ) → is_none (epoch_after es f) ≡ (f == 0)
fence-none es f = grind arith

place-none : (es : List Event) (w : ℕ) → is_none (epoch_unless es w) ≡ (w == 0)
place-none es w = grind arith

pub undurable-by : (told : ℕ → ℕ) (es : List Event) (p b : ℕ) (o : Option Stored) → stored_at told es p b ≡ o → is_undurable es p b ≡ holds_of (late_for (count (at is_fence es) p)) o
unfolding is_undurable
undurable-by told es p b None is = ap (λ k. nat_lt 0 k && closing_fence (stores b) (line_of_byte b) es p == 0) (unwritten-from_none told es p b is)
undurable-by told es p b (Some k) is =
    let own = written-from_stored told es p b k is in
    let f = closing_fence (stores b) (line_of_byte b) es p in
    ap (λ v. v && f == 0) (lt-ltb 0 (last_store es p b) own.some)
    ∙ sym (late-is_open (count (at is_fence es) p) k.written_back
    ∙ ap (λ (c : Option ℕ). is_none c) (closes-is (stores b) (line_of_byte b) es p k.written_back (sym own.write_back))
    ∙ fence-none es f)

pub unwritten-by : (told : ℕ → ℕ) (es : List Event) (p b : ℕ) (o : Option Stored) → stored_at told es p b ≡ o → is_unwritten es p b ≡ holds_of lacks_write_back o
unfolding is_unwritten write_back_epoch
unwritten-by told es p b o is = grind arith

-- a store that was not written back was not written back in time
pub lacks-late : (fences : ℕ) (o : Option Stored) → holds_of lacks_write_back o ≡ true → holds_of (late_for fences) o ≡ true
lacks-late fences o is = grind arith

late-from : (fences : ℕ) (w : Option ℕ) → is_late fences w ≡ true → is_none w ≡ false → is_from fences w ≡ true
late-from fences w late lacks = grind arith

-- a store that was not written back in time, but was written back, was so from then on
pub late-alone : (fences : ℕ) (o : Option Stored) → holds_of (late_for fences) o ≡ true → holds_of lacks_write_back o ≡ false → holds_of (written_back_from fences) o ≡ true
late-alone fences o late lacks = grind arith

-- ---- the questions

module _ (shadow : Shadow) (told : ℕ → ℕ) (es : List Event) (p : ℕ) (stands : StandsFor shadow told es p) where
  pub interval-same-some : (b : ℕ) (k : Stored) → stored_of (state_at shadow.bytes b) ≡ Some k →
      Some (record { last = k.last; opens = k.opens; closes = closing shadow.fences k.written_back }) ≡ interval_as_told told (interval_at es p b)
  interval-same-some b k stored = grind (arith, written-from_stored, interval_at-is, interval_of-some, closes-is)

  pub interval-same-none : (b : ℕ) → stored_of (state_at shadow.bytes b) ≡ None → None ≡ interval_as_told told (interval_at es p b)
  interval-same-none b none = sym (ap (interval_as_told told) (interval-unwritten told es p b (sym (stands.stored b) ∙ none)))

  pub checked-same : (s : Extent) → first_byte (passing (λ t. holds_of any_store (checked_store t)) shadow.bytes) s ≡ first_byte (is_checked es p) s
  unfolding passing
  checked-same s = first_from-same _ _ s.first s.size (λ b low high. sym (checked-is told es p b (state_at shadow.bytes b) (stands-bytes shadow told es p stands b)))

  pub exposed-same : (s : Extent) → first_byte (passing (λ t. holds_of (late_for shadow.fences) (checked_store t)) shadow.bytes) s ≡ first_byte (is_exposed es p) s
  unfolding passing
  exposed-same s = grind (arith, first_from-same, exposed-is, stands-bytes)

  pub included-same : (s : Extent) → first_byte (passing (λ t. not t.excluded) shadow.bytes) s ≡ first_byte (is_included es p) s
  unfolding passing is_included
  included-same s = first_from-same _ _ s.first s.size (λ b low high. ap not (stands.excluded b))

  pub undurable-same : (b : ℕ) → passing (λ t. holds_of (late_for shadow.fences) (stored_of t)) shadow.bytes b ≡ is_undurable es p b
  unfolding passing
  undurable-same b = grind (arith, undurable-by)

  unwritten-same : (b : ℕ) → passing (λ t. holds_of lacks_write_back (stored_of t)) shadow.bytes b ≡ is_unwritten es p b
  unfolding passing
  unwritten-same b = ap (holds_of lacks_write_back) (stands.stored b) ∙ sym (unwritten-by told es p b (stored_at told es p b) refl)

  pub clean-same : (s : Extent) → lines_by (line_lacks (passing (λ t. holds_of (late_for shadow.fences) (stored_of t)) shadow.bytes)) s ≡ lines_where (is_clean es p) s
  clean-same s = lines_by-same _ (is_clean es p) s (λ n. clean-by (is_undurable es p) n (is_clean es p (n * 64)) _ undurable-same
      (lines_follow_from_their_bytes es p (n * 64) (omega arith) stands.sized).0)

  pub pending-same : (s : Extent) →
      lines_by (line_has_but (passing (λ t. holds_of (late_for shadow.fences) (stored_of t)) shadow.bytes) (passing (λ t. holds_of lacks_write_back (stored_of t)) shadow.bytes)) s
      ≡ lines_where (is_pending es p) s
  pending-same s = lines_by-same _ (is_pending es p) s (λ n. pending-by (is_undurable es p) (is_unwritten es p) n (is_pending es p (n * 64)) _ _ undurable-same unwritten-same
      (lines_follow_from_their_bytes es p (n * 64) (omega arith) stands.sized).1)
