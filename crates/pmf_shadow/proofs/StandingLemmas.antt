-- A run of equal states: its bytes stand alike, and it goes on up to the first byte that has another state.
use Rattle.std.proofs.{Common.{◌≡◌, ℕ, ◌+◌, ◌-◌, ◌<◌, ◌≤◌, true, false, not, nat_lt, List, arith, sym, ◌∙◌, ap, inl, inr, Option, Some, None, unwrap_or, ltb-false}, lemmas.Bool.{cases_eq, ltb-true, not-false, not_from_true}}
use Rattle.pmf_event.{specs.declared.event.Event.{Event}, specs.Ranges.{first_from}, specs.Store.{last_store}, proofs.RangeLemmas.{IsFirst, none-passes, first-passes}}
use Rattle.pmf_shadow.{specs.declared.byte.ByteState.{ByteState}, specs.declared.shadow.Shadow.{Shadow}, specs.declared.standing.Standing.{Standing}, specs.EqualStates.{is_like, equal_states}, specs.Shadow.{StandsFor, ForEachList}, specs.Standing.{StandsSo, LeavesOpen, AllLeaveOpen, AllStandSo, AreFirstStored, LiesBetween, NoneStored}, specs.States.{holds_of, is_outstanding, lacks_write_back, late_for, place_of, stored_of}, proofs.QuestionLemmas.{lacks-late, undurable-by, unwritten-by}}
use Rattle.pmf_shadow.specs.{declared.front.ByteMap.{ByteMap}, Bytes.{state_at, passing}}

module _ (runs : ByteMap) (state : ByteState) where
  pub same-from_none : (first n : ℕ) → first_from (passing (λ s. not (is_like s state)) runs) first n ≡ None → (b : ℕ) → first ≤ b → b < first + n → state_at runs b ≡ state
  unfolding passing
  same-from_none first n none b low high =
      equal_states (state_at runs b) state (not-false (is_like (state_at runs b) state) (none-passes (λ b. not (is_like (state_at runs b) state)) first n none b low high))

  pub same-from_first : (first n k : ℕ) → first_from (passing (λ s. not (is_like s state)) runs) first n ≡ Some k → (b : ℕ) → first ≤ b → b < k → state_at runs b ≡ state
  unfolding passing
  same-from_first first n k is b low high =
      let found = first-passes (λ b. not (is_like (state_at runs b) state)) first n k is in
      equal_states (state_at runs b) state (not-false (is_like (state_at runs b) state) (found.before b low high))

  pub first-further : (first n k : ℕ) → state ≡ state_at runs first → first_from (passing (λ s. not (is_like s state)) runs) first n ≡ Some k → (first < k) × (k < first + n)
  unfolding passing
  first-further first n k here is = grind (arith, first-passes, cases_eq, not_from_true)

pub stands-so : (shadow : Shadow) (told : ℕ → ℕ) (es : List Event) (p b : ℕ) (state : ByteState) (standing : Standing) → StandsFor shadow told es p → state_at shadow.bytes b ≡ state →
    standing.last ≡ place_of (stored_of state) → standing.undurable ≡ holds_of (late_for shadow.fences) (stored_of state) →
    standing.unwritten ≡ holds_of lacks_write_back (stored_of state) → standing.excluded ≡ state.excluded → StandsSo told es p b standing
stands-so shadow told es p b state standing stands here last undurable unwritten excluded = grind (arith, undurable-by, unwritten-by)

-- a run of bytes that are not outstanding leaves nothing open
quiet-so : (shadow : Shadow) (told : ℕ → ℕ) (es : List Event) (p b : ℕ) → StandsFor shadow told es p → is_outstanding shadow.fences (state_at shadow.bytes b) ≡ false →
    LeavesOpen told es p b (record { last = None; undurable = false; unwritten = false; excluded = false })
quiet-so shadow told es p b stands quiet = grind (arith, undurable-by, unwritten-by, lacks-late)

pub quiet-run : (shadow : Shadow) (first until : ℕ) → ((b : ℕ) → first ≤ b → b < until → passing (is_outstanding shadow.fences) shadow.bytes b ≡ false) →
    ForEachList shadow (λ told es p. AllLeaveOpen told es p first until (record { last = None; undurable = false; unwritten = false; excluded = false }))
unfolding passing
quiet-run shadow first until quiet told es p stands b low high = quiet-so shadow told es p b stands (quiet b low high)

pub stands-open : (shadow : Shadow) (first until : ℕ) (s : Standing) → ForEachList shadow (λ told es p. AllStandSo told es p first until s) → ForEachList shadow (λ told es p. AllLeaveOpen told es p first until s)
stands-open shadow first until s all told es p stands b low high =
    let so = all told es p stands b low high in record { last = λ is. so.last; undurable = so.undurable; unwritten = so.unwritten; excluded = so.excluded }

-- whether a byte was stored to is what its state says
is-stored : (shadow : Shadow) (told : ℕ → ℕ) (es : List Event) (p b : ℕ) → StandsFor shadow told es p → (state_at shadow.bytes b).is_stored ≡ nat_lt 0 (last_store es p b)
is-stored shadow told es p b stands = let is = stands.stored b in grind arith

pub none-stored : (shadow : Shadow) (first end : ℕ) → first_from (passing (λ s. s.is_stored) shadow.bytes) first (end - first) ≡ None → ForEachList shadow (λ told es p. NoneStored es p first end)
unfolding passing
none-stored shadow first end none told es p stands b low high =
    let not = none-passes (λ b. (state_at shadow.bytes b).is_stored) first (end - first) none b low (omega arith) in
    let zero_is = ltb-false 0 (last_store es p b) (sym (is-stored shadow told es p b stands) ∙ not) in omega arith

module _ (shadow : Shadow) (first end byte : ℕ) (o : Option ℕ) (found : first_from (passing (λ s. s.is_stored) shadow.bytes) first (end - first) ≡ Some byte)
    (rest : first_from (passing (λ s. not s.is_stored) shadow.bytes) byte (end - byte) ≡ o) where
  begins : IsFirst (λ b. (state_at shadow.bytes b).is_stored) first (end - first) byte
  unfolding passing
  begins = first-passes (λ b. (state_at shadow.bytes b).is_stored) first (end - first) byte found

  -- up to where the first byte stands that was not stored to, or up to the end
  record GoesTo (until : ℕ) : Type 0 where
    some : byte < until
    within : until ≤ end
    all : (b : ℕ) → byte ≤ b → b < until → (state_at shadow.bytes b).is_stored ≡ true

  goes-to : (o : Option ℕ) → first_from (passing (λ s. not s.is_stored) shadow.bytes) byte (end - byte) ≡ o → GoesTo (unwrap_or o end)
  unfolding passing
  goes-to None none =
      let low = begins.from in let high = begins.within in record {
        some = omega arith;
        within = omega arith;
        all = λ b from below. not-false _ (none-passes (λ b. not (state_at shadow.bytes b).is_stored) byte (end - byte) none b from (omega arith));
      }
  goes-to (Some k) is =
      let ends = first-passes (λ b. not (state_at shadow.bytes b).is_stored) byte (end - byte) k is in
      let low = begins.from in let high = begins.within in let from = ends.from in let below = ends.within in
      elim (cases_eq byte k) [
        | inl here ↦ let bad : true ≡ false = sym ends.passes ∙ not_from_true _ (sym (ap (λ b. (state_at shadow.bytes b).is_stored) here) ∙ begins.passes) in cc
        | inr further ↦ record { some = omega arith; within = omega arith; all = λ b from below. not-false _ (ends.before b from below) }
      ]

  pub run-lies : LiesBetween first end (byte, unwrap_or o end)
  run-lies = let far = goes-to o rest in record { from = begins.from; some = far.some; within = far.within }

  pub run-stored : ForEachList shadow (λ told es p. AreFirstStored es p first (byte, unwrap_or o end))
  run-stored told es p stands = record {
    before = λ b low high. let zero_is = ltb-false 0 (last_store es p b) (sym (is-stored shadow told es p b stands) ∙ begins.before b low high) in omega arith;
    stored = λ b low high. ltb-true 0 (last_store es p b) (sym (is-stored shadow told es p b stands) ∙ (goes-to o rest).all b low high);
  }
