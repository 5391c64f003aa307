-- The first place behind another that passes a test: of one more event, and in two parts.
use Rattle.std.proofs.{Common.{◌≡◌, ℕ, suc, ◌<◌, ◌≤◌, Bool, true, false, ◌&&◌, nat_lt, if◌then◌else◌, List, length, Some, sym, ap, ◌∙◌, arith, inl, inr, lt-ltb, le-ltb}, lemmas.Bool.{and_from, and_parts, cases_lt, ltb-true}}
use Rattle.pmf_event.{specs.declared.event.Event.{Event}, specs.Places.{least}, specs.Store.{at, event_at, flushes, is_fence}, specs.Interval.{writes_back}, proofs.PlacesLemmas.{least-below, least-bound, least-none, least-none_behind, least-passes}, proofs.EventLemmas.{at-is}}
use Rattle.pmf_cause.specs.Cause.{fence_after, fences_after, write_back_after}

module _ (t : ℕ → Bool) where
  pub behind : ℕ → ℕ → Bool
  behind k w = nat_lt k w && t w

  behind-from : (k w : ℕ) → k < w → t w ≡ true → behind k w ≡ true
  unfolding behind
  behind-from k w less is = and_from (nat_lt k w) (t w) (lt-ltb k w less) is

  behind-parts : (k w : ℕ) → behind k w ≡ true → (k < w) × (t w ≡ true)
  unfolding behind
  behind-parts k w is = let parts = and_parts (nat_lt k w) (t w) is in (ltb-true k w parts.0, parts.1)

  -- up to p there is one: it is the first of all
  split-found : (l p n : ℕ) → p ≤ n → 0 < least (behind l) p → least (behind l) n ≡ least (behind l) p
  split-found l p n within some =
      let w = least (behind l) p in
      let bound = least-bound (behind l) p in
      let all = least-below (behind l) n w some (omega arith) (least-passes (behind l) p some) in
      let back = least-below (behind l) p (least (behind l) n) all.0 (let low = all.1 in omega arith) (least-passes (behind l) n all.0) in
      let low = all.1 in let high = back.1 in omega arith

  -- up to p there is none: it is the first behind p
  split-none : (l p n : ℕ) → l ≤ p → p ≤ n → least (behind l) p ≡ 0 → least (behind l) n ≡ least (behind p) n
  split-none l p n before within none =
      let past : (k : ℕ) → 0 < k → behind l k ≡ true → p < k = λ k positive is. elim (cases_lt p k) [
        | inl less ↦ less
        | inr more ↦ let found = (least-below (behind l) p k positive more is).0 in absurd (omega arith)
      ] in
      elim (cases_lt 0 (least (behind p) n)) [
        | inl some ↦
            let m = least (behind p) n in
            let parts = behind-parts p m (least-passes (behind p) n some) in
            let bound = least-bound (behind p) n in
            let after = parts.0 in
            let all = least-below (behind l) n m some bound (behind-from l m (omega arith) parts.1) in
            let is = least-passes (behind l) n all.0 in
            let later = past (least (behind l) n) all.0 is in
            let top = least-bound (behind l) n in
            let back = least-below (behind p) n (least (behind l) n) all.0 top (behind-from p (least (behind l) n) later (behind-parts l (least (behind l) n) is).1) in
            let low = all.1 in let high = back.1 in omega arith
        | inr nothing ↦
            let never : 0 < least (behind l) n → ⊥ = λ some.
            let is = least-passes (behind l) n some in
            let later = past (least (behind l) n) some is in
            let top = least-bound (behind l) n in
            let found = (least-below (behind p) n (least (behind l) n) some top (behind-from p (least (behind l) n) later (behind-parts l (least (behind l) n) is).1)).0 in
            omega arith in
            let none_all = least-none (behind l) n never in omega arith
      ]

  -- the next place passes, or the first is that behind it
  step-found : (p n : ℕ) → p < n → t (suc p) ≡ true → least (behind p) n ≡ suc p
  step-found p n within is =
      let all = least-below (behind p) n (suc p) (omega arith) within (behind-from p (suc p) (omega arith) is) in
      let after = (behind-parts p (least (behind p) n) (least-passes (behind p) n all.0)).0 in
      let low = all.1 in omega arith

  step-none : (p n : ℕ) → p < n → t (suc p) ≡ false → least (behind p) n ≡ least (behind (suc p)) n
  step-none p n within other =
      let never : 0 < least (behind p) (suc p) → ⊥ = λ some.
      let parts = behind-parts p (least (behind p) (suc p)) (least-passes (behind p) (suc p) some) in
      let bound = least-bound (behind p) (suc p) in
      let after = parts.0 in
      let same : least (behind p) (suc p) ≡ suc p = omega arith in
      let bad : false ≡ true = sym other ∙ ap t (sym same) ∙ parts.1 in cc in
      split-none p (suc p) n (omega arith) within (least-none (behind p) (suc p) never)

  pub step : (p n : ℕ) (c : Bool) → p < n → t (suc p) ≡ c → least (behind p) n ≡ (if c then suc p else least (behind (suc p)) n)
  step p n true within is = step-found p n within is
  step p n false within is = step-none p n within is

-- ---- write-backs and fences

-- where the last store is at l, the first write-back behind it is that up to p, or else the first behind p
pub write_back-split : (es : List Event) (line l p : ℕ) → l ≤ p → p ≤ length es →
    write_back_after es line l ≡ (if nat_lt 0 (least (writes_back es line l) p) then least (writes_back es line l) p else write_back_after es line p)
unfolding write_back_after writes_back behind
write_back-split es line l p before within = elim (cases_lt 0 (least (writes_back es line l) p)) [
  | inl some ↦
      split-found (at (flushes line) es) l p (length es) within some
      ∙ sym (ap (λ c. if c then least (writes_back es line l) p else least (writes_back es line p) (length es)) (lt-ltb 0 (least (writes_back es line l) p) some))
  | inr none ↦
      split-none (at (flushes line) es) l p (length es) before within (omega arith)
      ∙ sym (ap (λ c. if c then least (writes_back es line l) p else least (writes_back es line p) (length es)) (le-ltb 0 (least (writes_back es line l) p) none))
]

module _ (es : List Event) (p : ℕ) (e : Event) (here : event_at es (suc p) ≡ Some e) (within : p < length es) where
  pub write_back-step : (line : ℕ) → write_back_after es line p ≡ (if flushes line e then suc p else write_back_after es line (suc p))
  unfolding write_back_after writes_back behind
  write_back-step line = step (at (flushes line) es) p (length es) (flushes line e) within (at-is (flushes line) es (suc p) (Some e) here)

  pub fence-step : fence_after es p ≡ (if is_fence e then suc p else fence_after es (suc p))
  unfolding fence_after fences_after behind
  fence-step = step (at is_fence es) p (length es) (is_fence e) within (at-is is_fence es (suc p) (Some e) here)

-- behind the last place there is none
pub write_back-last : (es : List Event) (line : ℕ) → write_back_after es line (length es) ≡ 0
unfolding write_back_after writes_back behind
write_back-last es line = least-none_behind (behind (at (flushes line) es) (length es)) (length es) (λ k is. (behind-parts (at (flushes line) es) (length es) k is).0)

pub fence-last : (es : List Event) → fence_after es (length es) ≡ 0
unfolding fence_after fences_after behind
fence-last es = least-none_behind (behind (at is_fence es) (length es)) (length es) (λ k is. (behind-parts (at is_fence es) (length es) k is).0)

pub write_back-bound : (es : List Event) (line p : ℕ) → write_back_after es line p ≤ length es
unfolding write_back_after
write_back-bound es line p = least-bound (writes_back es line p) (length es)
