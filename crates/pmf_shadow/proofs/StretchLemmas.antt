-- Lines by a test on their bytes: the least, how many, and what a stretch of bytes that pass says of them.
use Rattle.std.{proofs.Common.{◌≡◌, ℕ, zero, suc, ◌+◌, ◌-◌, ◌*◌, ◌/◌, ◌<◌, ◌≤◌, Bool, true, false, not, ◌&&◌, if◌then◌else◌, refl, sym, ◌∙◌, ap, arith, ◌↔◌, Option, Some, None, is_some}, proofs.lemmas.Bool.{cases_lt, and_parts, and_from, and_left, and_right, not_from_true, not_from_false, not-true, true_from_ne_false}, specs.Cmp.{both_ways}}
use Rattle.pmf_event.{specs.declared.lines.Lines.{Lines}, specs.Span.{Extent}, specs.Ranges.{first_from, count_from}, specs.FlushWarnings.{numbered, lines_from, lines_where}, specs.LineBytes.{SomeByteOf, NoByteOf}, proofs.RangeLemmas.{NonePass, some-from, none-from, first-passes, none-passes, first_from-none, first_from-some}}
use Rattle.pmf_runs.specs.Lines.{line_has}
use Rattle.pmf_shadow.specs.Stretches.{line_lacks, line_has_but, AllHave, lines_at, lines_by}

-- ---- where a stretch of bytes ends, in lines

pub stretch-bounds : (fails : ℕ → Bool) (first end b : ℕ) → first ≤ end → first_from fails (first * 64) (end * 64 - first * 64) ≡ Some b → (first ≤ (b + 63) / 64) × ((b + 63) / 64 ≤ end)
stretch-bounds fails first end b ordered found = grind (arith, first-passes)

-- ---- one line

module _ (test : ℕ → Bool) where
  pub line_has-from : (n b : ℕ) → n * 64 ≤ b → b < n * 64 + 64 → test b ≡ true → line_has test n ≡ true
  unfolding line_has
  line_has-from n b low high is = true_from_ne_false (is_some (first_from test (n * 64) 64)) (λ none.
      let fails = none-passes test (n * 64) 64 (none-from (first_from test (n * 64) 64) none) b low high in
      let bad : true ≡ false = sym is ∙ fails in cc)

  line_has-none : (n : ℕ) → NonePass test (n * 64) 64 → line_has test n ≡ false
  unfolding line_has
  line_has-none n none = ap (λ (o : Option ℕ). is_some o) (first_from-none test (n * 64) 64 none)

  pub line_has-some : (n : ℕ) → line_has test n ≡ true → (b : ℕ) × (n * 64 ≤ b) × (b < n * 64 + 64) × (test b ≡ true)
  unfolding line_has
  line_has-some n has = grind (arith, some-from, first-passes)

  pub line_has-not : (n : ℕ) → line_has test n ≡ false → NonePass test (n * 64) 64
  unfolding line_has
  line_has-not n lacks = none-passes test (n * 64) 64 (none-from (first_from test (n * 64) 64) lacks)

  -- the answer to a question about the line's bytes
  pub line_has-is : (n size : ℕ) (found : Option ℕ) (has : Bool) → size ≡ 64 → found ≡ first_from test (n * 64) size → has ≡ is_some found → has ≡ line_has test n
  unfolding line_has
  line_has-is n size found has whole asked is = grind arith

  -- ---- the least line with a byte that passes, from the least such byte

  pub least_with-none : (first end : ℕ) → first ≤ end → first_from test (first * 64) (end * 64 - first * 64) ≡ None → None ≡ first_from (line_has test) first (end - first)
  least_with-none first end ordered none =
      let all = none-passes test (first * 64) (end * 64 - first * 64) none in
      sym (first_from-none (line_has test) first (end - first) (λ n low high. line_has-none n (λ b from within. all b (omega arith) (omega arith))))

  pub least_with-some : (first end b : ℕ) → first ≤ end → first_from test (first * 64) (end * 64 - first * 64) ≡ Some b → Some (b / 64) ≡ first_from (line_has test) first (end - first)
  least_with-some first end b ordered found =
      let least = first-passes test (first * 64) (end * 64 - first * 64) b found in
      sym (first_from-some (line_has test) first (end - first) (b / 64) (grind (arith, line_has-from, line_has-none, least.before)))

  -- ---- a stretch of bytes that pass

  stretch-has : (first end stop : ℕ) → end * 64 < stop + 64 → ((b : ℕ) → first * 64 ≤ b → b < stop → not (test b) ≡ false) → AllHave test first end
  stretch-has first end stop covers passes n low high = grind (arith, line_has-from, true_from_ne_false, not_from_false)

  pub stretch-none : (fails : ℕ → Bool) (first end : ℕ) → ((b : ℕ) → fails b ≡ not (test b)) → first ≤ end →
      first_from fails (first * 64) (end * 64 - first * 64) ≡ None → AllHave test first end
  stretch-none fails first end is ordered none =
      let all = none-passes fails (first * 64) (end * 64 - first * 64) none in
      stretch-has first end (end * 64) (omega arith) (λ b low high. sym (is b) ∙ all b low (omega arith))

  pub stretch-some : (fails : ℕ → Bool) (first end b : ℕ) → ((b : ℕ) → fails b ≡ not (test b)) → first ≤ end →
      first_from fails (first * 64) (end * 64 - first * 64) ≡ Some b → AllHave test first ((b + 63) / 64)
  stretch-some fails first end b is ordered found =
      let least = first-passes fails (first * 64) (end * 64 - first * 64) b found in stretch-has first ((b + 63) / 64) b (omega arith) (λ k from until. sym (is k) ∙ least.before k from until)

-- ---- a search over lines that has passed some by

-- no line before this one passes
pub record NoneBefore (test : ℕ → Bool) (first end line : ℕ) : Type 0 where
  pub from : first ≤ line
  pub within : line ≤ end
  pub fails : (n : ℕ) → first ≤ n → n < line → test n ≡ false

module _ (test : ℕ → Bool) (first end : ℕ) where
  pub none_before-end : (line : ℕ) → NoneBefore test first end line → NonePass test line (end - line) → None ≡ first_from test first (end - first)
  none_before-end line passed none = grind (arith, first_from-none, cases_lt)

  pub none_before-found : (line found : ℕ) → NoneBefore test first end line → line ≤ found → found < end → ((n : ℕ) → line ≤ n → n < found → test n ≡ false) →
      test found ≡ true → Some found ≡ first_from test first (end - first)
  none_before-found line found passed after below between is = sym (first_from-some test first (end - first) found (grind (arith, passed.fails)))

  pub none_before-here : (line : ℕ) → NoneBefore test first end line → line < end → test line ≡ true → Some line ≡ first_from test first (end - first)
  none_before-here line passed below is = none_before-found line line passed (omega arith) below (λ n low high. absurd (omega arith)) is

  pub none_before-all : (line : ℕ) → NoneBefore test first end line → end ≤ line → None ≡ first_from test first (end - first)
  none_before-all line passed past = none_before-end line passed (λ n low high. absurd (omega arith))

  pub none_before-more : (line next : ℕ) → NoneBefore test first end line → line ≤ next → next ≤ end → ((n : ℕ) → line ≤ n → n < next → test n ≡ false) →
      NoneBefore test first end next
  none_before-more line next passed after upto between = grind arith

-- ---- lines without a byte that passes

module _ (test : ℕ → Bool) where
  pub lacks-from : (n : ℕ) → line_has test n ≡ false → line_lacks test n ≡ true
  unfolding line_lacks
  lacks-from n lacks = not_from_false (line_has test n) lacks

  pub lacks-here : (first end line : ℕ) → NoneBefore (line_lacks test) first end line → line < end → line_has test line ≡ false → Some line ≡ first_from (line_lacks test) first (end - first)
  lacks-here first end line passed below lacks = none_before-here (line_lacks test) first end line passed below (lacks-from line lacks)

  pub lacks-not : (n : ℕ) → line_has test n ≡ true → line_lacks test n ≡ false
  unfolding line_lacks
  lacks-not n has = not_from_true (line_has test n) has

  lacks-parts : (n : ℕ) → line_lacks test n ≡ true → line_has test n ≡ false
  unfolding line_lacks
  lacks-parts n lacks = not-true (line_has test n) lacks

  -- those without and those with are all
  lacks-count : (b n : ℕ) → count_from (line_lacks test) b n + count_from (line_has test) b n ≡ n
  unfolding count_from line_lacks
  lacks-count b zero = refl
  lacks-count b (suc n) = let rest = lacks-count (b + 1) n in grind arith

-- ---- lines with a byte that passes and without one that passes the other test

module _ (test other : ℕ → Bool) where
  but-from : (n : ℕ) → line_has test n ≡ true → line_has other n ≡ false → line_has_but test other n ≡ true
  unfolding line_has_but
  but-from n has lacks = and_from _ _ has (not_from_false (line_has other n) lacks)

  but-parts : (n : ℕ) → line_has_but test other n ≡ true → (line_has test n ≡ true) × (line_has other n ≡ false)
  unfolding line_has_but
  but-parts n is = let both = and_parts (line_has test n) (not (line_has other n)) is in (both.0, not-true (line_has other n) both.1)

  but-without : (n : ℕ) → line_has test n ≡ false → line_has_but test other n ≡ false
  unfolding line_has_but
  but-without n lacks = and_left (line_has test n) (not (line_has other n)) lacks

  but-other : (n : ℕ) → line_has other n ≡ true → line_has_but test other n ≡ false
  unfolding line_has_but
  but-other n has = and_right (line_has test n) (not (line_has other n)) (not_from_true (line_has other n) has)

  -- where each byte that passes the other test passes the one, those with the one are these and those with the other
  module _ (weaker : (b : ℕ) → other b ≡ true → test b ≡ true) where
    has-weaker : (n : ℕ) → line_has other n ≡ true → line_has test n ≡ true
    has-weaker n has = let b = line_has-some other n has in line_has-from test n b.0 b.1 b.2 (weaker b.0 b.3)

    but-cases : (one two : Bool) (c d e : ℕ) → (two ≡ true → one ≡ true) → c + d ≡ e →
        (if one && not two then suc c else c) + (if two then suc d else d) ≡ (if one then suc e else e)
    but-cases one two c d e implies sum = grind arith

    but-count : (b n : ℕ) → count_from (line_has_but test other) b n + count_from (line_has other) b n ≡ count_from (line_has test) b n
    unfolding count_from line_has_but
    but-count b zero = refl
    but-count b (suc n) = but-cases (line_has test b) (line_has other b) (count_from (line_has_but test other) (b + 1) n) (count_from (line_has other) (b + 1) n)
        (count_from (line_has test) (b + 1) n) (has-weaker b) (but-count (b + 1) n)

  -- ---- the least of them: the least line without the other, and from it the least with the one

  -- a line that lacks no byte of the other
  other-from : (n : ℕ) → line_lacks other n ≡ false → line_has other n ≡ true
  unfolding line_lacks
  other-from n is = true_from_ne_false (line_has other n) (λ lacks. let bad : true ≡ false = sym (not_from_false (line_has other n) lacks) ∙ is in cc)

  but-passed : (line end without upto : ℕ) → Some without ≡ first_from (line_lacks other) line (end - line) →
      ((n : ℕ) → without ≤ n → n < upto → line_has test n ≡ false) → (n : ℕ) → line ≤ n → n < upto → line_has_but test other n ≡ false
  but-passed line end without upto asked lacks n low high = grind (arith, first-passes, cases_lt, but-other, other-from, but-without)

  pub but-none : (line end without : ℕ) → Some without ≡ first_from (line_lacks other) line (end - line) →
      None ≡ first_from (line_has test) without (end - without) → NonePass (line_has_but test other) line (end - line)
  but-none line end without asked none n low high =
      but-passed line end without end asked (λ k from until. none-passes (line_has test) without (end - without) (sym none) k from (omega arith)) n low (omega arith)

  pub but-upto : (line end without found : ℕ) → Some without ≡ first_from (line_lacks other) line (end - line) →
      Some found ≡ first_from (line_has test) without (end - without) → (n : ℕ) → line ≤ n → n < found → line_has_but test other n ≡ false
  but-upto line end without found asked next n low high = grind (arith, but-passed, first-passes, sym)

  pub but-here : (line end without found : ℕ) → Some without ≡ first_from (line_lacks other) line (end - line) →
      Some found ≡ first_from (line_has test) without (end - without) → found ≡ without → line_has_but test other found ≡ true
  but-here line end without found asked next same = grind (arith, first-passes, other, sym, but-from, ap, lacks-parts)

  pub but-never : (line end : ℕ) → None ≡ first_from (line_lacks other) line (end - line) → NonePass (line_has_but test other) line (end - line)
  but-never line end none n low high = but-other n (other-from n (none-passes (line_lacks other) line (end - line) (sym none) n low high))

  -- the search goes on from such a line, or ends
  pub but-found : (first end line without found : ℕ) → NoneBefore (line_has_but test other) first end line → Some without ≡ first_from (line_lacks other) line (end - line) →
      Some found ≡ first_from (line_has test) without (end - without) → found ≡ without → Some found ≡ first_from (line_has_but test other) first (end - first)
  but-found first end line without found passed asked next same =
      let lower = first-passes (line_lacks other) line (end - line) without (sym asked) in let from = lower.from in
      let upper = first-passes (line_has test) without (end - without) found (sym next) in let after = upper.from in let within = upper.within in
      none_before-found (line_has_but test other) first end line found passed (omega arith) (omega arith) (but-upto line end without found asked next) (but-here line end without found asked next same)

  pub but-more : (first end line without found : ℕ) → NoneBefore (line_has_but test other) first end line → Some without ≡ first_from (line_lacks other) line (end - line) →
      Some found ≡ first_from (line_has test) without (end - without) → NoneBefore (line_has_but test other) first end found
  but-more first end line without found passed asked next =
      let lower = first-passes (line_lacks other) line (end - line) without (sym asked) in let from = lower.from in
      let upper = first-passes (line_has test) without (end - without) found (sym next) in let after = upper.from in let within = upper.within in
      none_before-more (line_has_but test other) first end line found passed (omega arith) (omega arith) (but-upto line end without found asked next)

  pub but-end : (first end line without : ℕ) → NoneBefore (line_has_but test other) first end line → Some without ≡ first_from (line_lacks other) line (end - line) →
      None ≡ first_from (line_has test) without (end - without) → None ≡ first_from (line_has_but test other) first (end - first)
  but-end first end line without passed asked none = none_before-end (line_has_but test other) first end line passed (but-none line end without asked none)

  pub but-never_end : (first end line : ℕ) → NoneBefore (line_has_but test other) first end line → None ≡ first_from (line_lacks other) line (end - line) → None ≡ first_from (line_has_but test other) first (end - first)
  but-never_end first end line passed none = none_before-end (line_has_but test other) first end line passed (but-never line end none)

-- a line with a byte that passes the one test alone has one that passes the third
pub has-alone : (test other alone : ℕ → Bool) → ((b : ℕ) → test b ≡ true → other b ≡ false → alone b ≡ true) → (n : ℕ) → line_has alone n ≡ false → line_has_but test other n ≡ false
has-alone test other alone passes n lacks = elim (line_has test n) as (λ v. line_has test n ≡ v → line_has_but test other n ≡ false) [
  | false ↦ λ without. but-without test other n without
  | true ↦ λ has. elim (line_has other n) as (λ v. line_has other n ≡ v → line_has_but test other n ≡ false) [
    | true ↦ λ both. but-other test other n both
    | false ↦ λ only.
        let b = line_has-some test n has in
        let bad : true ≡ false = sym (passes b.0 b.3 (line_has-not other n only b.0 b.1 b.2)) ∙ line_has-not alone n lacks b.0 b.1 b.2 in cc
  ] refl
] refl

-- the search for such a line may begin at the first that has a byte that passes the third test
pub alone-none : (test other alone : ℕ → Bool) → ((b : ℕ) → test b ≡ true → other b ≡ false → alone b ≡ true) → (first end : ℕ) →
    None ≡ first_from (line_has alone) first (end - first) → None ≡ first_from (line_has_but test other) first (end - first)
alone-none test other alone passes first end none =
    sym (first_from-none (line_has_but test other) first (end - first) (λ n low high. has-alone test other alone passes n (none-passes (line_has alone) first (end - first) (sym none) n low high)))

pub alone-from : (test other alone : ℕ → Bool) → ((b : ℕ) → test b ≡ true → other b ≡ false → alone b ≡ true) → (first end line : ℕ) (found : Option ℕ) →
    Some line ≡ first_from (line_has alone) first (end - first) → found ≡ first_from (line_has_but test other) line (end - line) → found ≡ first_from (line_has_but test other) first (end - first)
alone-from test other alone passes first end line None asked next =
    let least = first-passes (line_has alone) first (end - first) line (sym asked) in
    let low = least.from in
    let high = least.within in
    none_before-end (line_has_but test other) first end line
    (record { from = low; within = omega arith; fails = λ n from below. has-alone test other alone passes n (least.before n from below) })
    (none-passes (line_has_but test other) line (end - line) (sym next))
alone-from test other alone passes first end line (Some found) asked next =
    let least = first-passes (line_has alone) first (end - first) line (sym asked) in
    let low = least.from in
    let high = least.within in
    let here = first-passes (line_has_but test other) line (end - line) found (sym next) in
    let from = here.from in
    let within = here.within in
    none_before-found (line_has_but test other) first end line found
    (record { from = low; within = omega arith; fails = λ n after below. has-alone test other alone passes n (least.before n after below) })
    from (omega arith) here.before here.passes

-- ---- the lines of a span, found by their numbers

pub found-below : (test : ℕ → Bool) (line end found : ℕ) → Some found ≡ first_from test line (end - line) → (line ≤ found) × (found + 1 ≤ end)
found-below test line end found asked = grind (arith, first-passes, sym, arith)

-- those without are the others
pub count-lacks : (test : ℕ → Bool) (first n with : ℕ) → with ≡ count_from (line_has test) first n → (with ≤ n) × (n - with ≡ count_from (line_lacks test) first n)
count-lacks test first n with counted = let all = lacks-count test first n in (omega arith, omega arith)

-- those with the one and without the other are what those with the other leave
pub count-but : (test other : ℕ → Bool) (first n one two : ℕ) → ((b : ℕ) → other b ≡ true → test b ≡ true) → one ≡ count_from (line_has test) first n → two ≡ count_from (line_has other) first n →
    (two ≤ one) × (one - two ≡ count_from (line_has_but test other) first n)
count-but test other first n one two weaker ones twos = let all = but-count test other weaker first n in (omega arith, omega arith)

pub lines-none : (test : ℕ → Bool) (first n : ℕ) → None ≡ first_from test first n → None ≡ lines_at test first n
lines-none test first n none = ap (λ o. lines_from o (count_from test first n)) none

pub lines-some : (test : ℕ → Bool) (first n least count : ℕ) → Some least ≡ first_from test first n → count ≡ count_from test first n → Some (record { least = least * 64; count = count }) ≡ lines_at test first n
lines-some test first n least count found counted = grind arith

-- one line, with a byte that passes the other test
module _ (test other : ℕ → Bool) (weaker : (b : ℕ) → other b ≡ true → test b ≡ true) (first end : ℕ) (one : end - first ≡ 1) (has : line_has other first ≡ true) where
  pub one-but : None ≡ lines_at (line_has_but test other) first (end - first)
  one-but = grind (arith, lines-none, other, first, sym, first_from-none, arith, ap, but-other)

  pub one-lacks : None ≡ lines_at (line_lacks test) first (end - first)
  one-lacks = grind (arith, lines-none, first, sym, first_from-none, arith, ap, lacks-not, has-weaker, other)

-- the lines of a span are those from its first line to its last
pub lines_by-is : (test : ℕ → Bool) (s : Extent) (first end : ℕ) (found : Option Lines) → first ≡ s.first / 64 → end ≡ (s.first + s.size - 1) / 64 + 1 →
    found ≡ lines_at test first (end - first) → found ≡ lines_by test s
unfolding lines_by
lines_by-is test s first end found at_first at_end is = grind arith

-- tests that agree on each line find the same
pub lines_by-same : (test want : ℕ → Bool) (s : Extent) → ((n : ℕ) → test n ≡ want (n * 64)) → lines_by test s ≡ lines_where want s
unfolding numbered lines_by lines_where
lines_by-same test want s same = grind arith

-- ---- a line by what its bytes are

module _ (want : ℕ → Bool) (n : ℕ) where
  has-same : (test : ℕ → Bool) → ((b : ℕ) → test b ≡ want b) → line_has test n ≡ true → SomeByteOf (n * 64) want
  has-same test same has = let b = line_has-some test n has in (b.0, b.1, b.2, sym (same b.0) ∙ b.3)

  same-has : (test : ℕ → Bool) → ((b : ℕ) → test b ≡ want b) → SomeByteOf (n * 64) want → line_has test n ≡ true
  same-has test same some = line_has-from test n some.0 some.1 some.2 (same some.0 ∙ some.3)

  lacks-same : (test : ℕ → Bool) → ((b : ℕ) → test b ≡ want b) → line_has test n ≡ false → NoByteOf (n * 64) want
  lacks-same test same lacks = λ b low high. sym (same b) ∙ line_has-not test n lacks b low high

  same-lacks : (test : ℕ → Bool) → ((b : ℕ) → test b ≡ want b) → NoByteOf (n * 64) want → line_has test n ≡ false
  same-lacks test same none = line_has-none test n (λ b low high. same b ∙ none b low high)

pub clean-by : (want : ℕ → Bool) (n : ℕ) (clean : Bool) (test : ℕ → Bool) → ((b : ℕ) → test b ≡ want b) → (clean ≡ true) ↔ NoByteOf (n * 64) want → line_lacks test n ≡ clean
clean-by want n clean test same follows = both_ways _ _
    (λ lacks. follows.1 (lacks-same want n test same (lacks-parts test n lacks)))
    (λ is. lacks-from test n (same-lacks want n test same (follows.0 is)))

pub pending-by : (want rest : ℕ → Bool) (n : ℕ) (pending : Bool) (test other : ℕ → Bool) → ((b : ℕ) → test b ≡ want b) → ((b : ℕ) → other b ≡ rest b) →
    (pending ≡ true) ↔ (SomeByteOf (n * 64) want × NoByteOf (n * 64) rest) → line_has_but test other n ≡ pending
pending-by want rest n pending test other same alike follows = grind (arith, but-parts, has-same, lacks-same, but-from, same-has, same-lacks)
