-- Cache lines counted byte by byte, and run by run.
use Rattle.std.proofs.{Common.{◌≡◌, ℕ, zero, suc, ◌+◌, ◌-◌, ◌*◌, ◌/◌, ◌%◌, ◌<◌, ◌≤◌, max, Bool, true, false, if◌then◌else◌, refl, sym, ◌∙◌, ap, arith, inl, inr, Some, is_some}, lemmas.Bool.{cases_lt}}
use Rattle.pmf_event.specs.Ranges.{first_from, count_from}
use Rattle.pmf_runs.{specs.declared.walk.Counted.{Counted}, specs.Lines.{line_has, with_line, counted_from}, proofs.RankLemmas.{lt-true, lt-false}}

abbrev counted : ℕ → ℕ → Counted
counted count next = record { count = count; next = next }

counted-eq : (c d x y : ℕ) → c ≡ d → x ≡ y → counted c x ≡ counted d y
counted-eq c d x y same next = ap (λ k. counted k x) same ∙ ap (counted d) next

-- ---- one byte

with_line-old : (b : ℕ) (so_far : Counted) → b / 64 < so_far.next → with_line b so_far ≡ so_far
with_line-old b so_far old = ap (λ t. if t then so_far else counted (so_far.count + 1) (b / 64 + 1)) (lt-true (b / 64) so_far.next old)

with_line-new : (b : ℕ) (so_far : Counted) → so_far.next ≤ b / 64 → with_line b so_far ≡ counted (so_far.count + 1) (b / 64 + 1)
with_line-new b so_far new = ap (λ t. if t then so_far else counted (so_far.count + 1) (b / 64 + 1)) (lt-false (b / 64) so_far.next new)

-- ---- the laws of a question

pub counted-same : (s t : ℕ → Bool) (b n : ℕ) → ((k : ℕ) → b ≤ k → k < b + n → s k ≡ t k) → counted_from s b n ≡ counted_from t b n
unfolding counted_from
counted-same s t b zero same = refl
counted-same s t b (suc n) same =
    ap {B = Counted → Counted} (λ v so_far. counted_from s (b + 1) n (if v then with_line b so_far else so_far)) (same b (omega arith) (omega arith))
    ∙ ap {B = Counted → Counted} (λ count so_far. count (if t b then with_line b so_far else so_far)) (counted-same s t (b + 1) n (λ k low high. same k (omega arith) (omega arith)))

pub counted-split : (x : Counted) (test : ℕ → Bool) (b m n whole middle : ℕ) → whole ≡ m + n → middle ≡ b + m → counted_from test b whole x ≡ counted_from test middle n (counted_from test b m x)
unfolding counted_from
counted-split x test b zero n whole middle all at = grind arith
counted-split x test b (suc m) n zero middle all at = absurd (omega arith)
counted-split x test b (suc m) n (suc whole) middle all at = counted-split (if test b then with_line b x else x) test (b + 1) m n whole middle (omega arith) (omega arith)

-- ---- bytes that add no line

-- where no byte passes
pub counted-none : (test : ℕ → Bool) (b n : ℕ) (so_far : Counted) → ((k : ℕ) → test k ≡ false) → counted_from test b n so_far ≡ so_far
unfolding counted_from
counted-none test b zero so_far fails = refl
counted-none test b (suc n) so_far fails =
    ap (λ v. counted_from test (b + 1) n (if v then with_line b so_far else so_far)) (fails b) ∙ counted-none test (b + 1) n so_far fails

-- where their lines are counted
counted-past : (test : ℕ → Bool) (b n : ℕ) (so_far : Counted) → ((k : ℕ) → b ≤ k → k < b + n → k / 64 < so_far.next) → counted_from test b n so_far ≡ so_far
unfolding counted_from
counted-past test b zero so_far past = refl
counted-past test b (suc n) so_far past =
    let rest = counted-past test (b + 1) n so_far (λ k low high. past k (omega arith) (omega arith)) in let old = with_line-old b so_far (past b (omega arith) (omega arith)) in grind arith

-- ---- a run that passes

counted-run : (b n last : ℕ) (so_far : Counted) → last ≡ (b + n) / 64 → so_far.next ≤ last →
    counted_from (λ k. true) b (suc n) so_far ≡ counted (so_far.count + (last - max so_far.next (b / 64) + 1)) (last + 1)
unfolding counted_from
counted-run b zero last so_far at more =
    with_line-new b so_far (omega arith) ∙ counted-eq _ _ _ _ (omega arith) (omega arith)
counted-run b (suc n) last so_far at more = elim (cases_lt (b / 64) so_far.next) [
  | inl old ↦
      ap (counted_from (λ k. true) (b + 1) (suc n)) (with_line-old b so_far old)
      ∙ counted-run (b + 1) n last so_far (omega arith) more
      ∙ counted-eq _ _ _ _ (omega arith) refl
  | inr new ↦
      ap (counted_from (λ k. true) (b + 1) (suc n)) (with_line-new b so_far new)
      ∙ elim (cases_lt last (b / 64 + 1)) [
        | inl here ↦
            counted-past (λ k. true) (b + 1) (suc n) (counted (so_far.count + 1) (b / 64 + 1)) (λ k low high. omega arith)
            ∙ counted-eq _ _ _ _ (omega arith) (omega arith)
        | inr later ↦
            counted-run (b + 1) n last (counted (so_far.count + 1) (b / 64 + 1)) (omega arith) later
            ∙ counted-eq _ _ _ _ (omega arith) refl
      ]
]

pub run-fails : (v : Bool) (first end : ℕ) (so_far : Counted) → v ≡ false → so_far ≡ counted_from (λ b. v) first (end - first) so_far
run-fails v first end so_far is = sym (counted-none (λ b. v) first (end - first) so_far (λ k. is))

pub run-old : (v : Bool) (first end : ℕ) (so_far : Counted) → (end - 1) / 64 < so_far.next → so_far ≡ counted_from (λ b. v) first (end - first) so_far
run-old v first end so_far old = sym (counted-past (λ b. v) first (end - first) so_far (λ k low high. omega arith))

pub run-new : (v : Bool) (first end line last : ℕ) (so_far : Counted) → v ≡ true → first < end → line ≡ max so_far.next (first / 64) → last ≡ (end - 1) / 64 → so_far.next ≤ last →
    counted (so_far.count + (last - line + 1)) (last + 1) ≡ counted_from (λ b. v) first (end - first) so_far
run-new v first end line last so_far is some begins at more =
    let whole : end - first ≡ suc (end - first - 1) = omega arith in
    sym (ap (λ n. counted_from (λ b. v) first n so_far) whole
    ∙ ap (λ (t : Bool). counted_from (λ b. t) first (suc (end - first - 1)) so_far) is
    ∙ counted-run first (end - first - 1) last so_far (omega arith) more
    ∙ counted-eq _ _ _ _ (omega arith) refl)

-- ---- line by line

counted-line : (test : ℕ → Bool) (n b k : ℕ) (so_far : Counted) → n * 64 ≤ b → b + k ≤ n * 64 + 64 → so_far.next ≤ n →
    counted_from test b k so_far ≡ (if is_some (first_from test b k) then counted (so_far.count + 1) (n + 1) else so_far)
unfolding counted_from first_from
counted-line test n b zero so_far low high more = refl
counted-line test n b (suc k) so_far low high more =
    elim (test b) as (λ v. counted_from test (b + 1) k (if v then with_line b so_far else so_far)
    ≡ (if is_some (if v then Some b else first_from test (b + 1) k) then counted (so_far.count + 1) (n + 1) else so_far)) [
      | true ↦
          ap (counted_from test (b + 1) k) (with_line-new b so_far (omega arith) ∙ counted-eq _ _ _ _ refl (omega arith))
          ∙ counted-past test (b + 1) k (counted (so_far.count + 1) (n + 1)) (λ j from until. omega arith)
      | false ↦ counted-line test n (b + 1) k so_far (omega arith) (omega arith) more
    ]

line_has-counted : (test : ℕ → Bool) (n : ℕ) (so_far : Counted) → so_far.next ≤ n →
    counted_from test (n * 64) 64 so_far ≡ (if line_has test n then counted (so_far.count + 1) (n + 1) else so_far)
unfolding line_has
line_has-counted test n so_far more = counted-line test n (n * 64) 64 so_far (omega arith) (omega arith) more

counted-lines : (test : ℕ → Bool) (first m : ℕ) (so_far : Counted) → so_far.next ≤ first →
    (counted_from test (first * 64) (m * 64) so_far).count ≡ so_far.count + count_from (line_has test) first m
unfolding counted_from count_from
counted-lines test first zero so_far more = omega arith
counted-lines test first (suc m) so_far more =
    ap (λ (x : Counted). x.count) (counted-split so_far test (first * 64) 64 (m * 64) (suc m * 64) ((first + 1) * 64) (omega arith) (omega arith)
    ∙ ap (counted_from test ((first + 1) * 64) (m * 64)) (line_has-counted test first so_far more))
    ∙ elim (line_has test first) as (λ v. (counted_from test ((first + 1) * 64) (m * 64) (if v then counted (so_far.count + 1) (first + 1) else so_far)).count
    ≡ so_far.count + (if v then suc (count_from (line_has test) (first + 1) m) else count_from (line_has test) (first + 1) m)) [
      | true ↦ let rest = counted-lines test (first + 1) m (counted (so_far.count + 1) (first + 1)) (omega arith) in omega arith
      | false ↦ counted-lines test (first + 1) m so_far (omega arith)
    ]

-- the lines of a range that begins and ends at a line are those that have a byte that passes
pub lines-counted : (test : ℕ → Bool) (first end : ℕ) → first % 64 ≡ 0 → end % 64 ≡ 0 →
    (counted_from test first (end - first) (counted 0 0)).count ≡ count_from (line_has test) (first / 64) (end / 64 - first / 64)
lines-counted test first end begins ends =
    let from : first ≡ first / 64 * 64 = omega arith in
    let whole : end - first ≡ (end / 64 - first / 64) * 64 = omega arith in
    ap (λ n. (counted_from test first n (counted 0 0)).count) whole
    ∙ ap (λ b. (counted_from test b ((end / 64 - first / 64) * 64) (counted 0 0)).count) from
    ∙ counted-lines test (first / 64) (end / 64 - first / 64) (counted 0 0) (omega arith) ∙ omega arith
