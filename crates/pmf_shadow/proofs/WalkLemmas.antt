-- Walks over the lines in front and what lies between them.
use Rattle.std.proofs.{Common.{◌≡◌, ℕ, ◌⊎◌, ◌+◌, ◌-◌, ◌*◌, ◌/◌, ◌%◌, ◌<◌, ◌≤◌, Bool, true, false, zero, suc, get_or, nat_eq, nat_le, nat_lt, ◌&&◌, cond, if◌then◌else◌, sym, ◌∙◌, ap, subst, arith, refl, inl, inr, Option, None, Some, is_some}, lemmas.Bool.{cases_eq, cases_lt}, lemmas.Bool.Decides.{nat_tests}}
use Rattle.std.specs.HashMap.{get}
use Rattle.pmf_event.{specs.Ranges.{first_from, count_from}, proofs.RangeLemmas.{count_from-same, first_from-same}}
use Rattle.pmf_runs.specs.Runs as behind
use Rattle.pmf_runs.specs.{Lines.{line_has}, Ranks.{ChangesItems}}
use Rattle.pmf_shadow.{specs.Bytes.{state_on, state_at, line_at, is_between, passing, ChangesBetween, ChangesFront, KeepsStates, AreAlike, AreBehind, IsLineOf}, specs.Words.{AreWords}, specs.declared.byte.ByteState.{ByteState}, specs.declared.front.ByteMap.{ByteMap}, specs.declared.line.Line.{Line}, proofs.FrontLemmas.{at_front, at_behind, same_state, word_within, nat_eq-true, nat_eq-false, between_words, not_between}, proofs.AskLemmas.{first_front, line_asked}}

none_some : {P : Type 0} (o : Option Line) → o ≡ None → is_some o ≡ true → P
none_some o none some = absurd (let bad : false ≡ true = sym (ap is_some none) ∙ some in cc)

-- ---- bytes that are alike

pub alike_within : (bytes : ByteMap) (first end : ℕ) → end ≤ 64 * (first / 64) + 64 → AreAlike bytes first end
alike_within bytes first end within = record {
  one = λ some. within;
  none = λ none b from below. let same : b / 64 ≡ first / 64 = omega arith in ap (get nat_eq bytes.front) same ∙ none;
}

pub alike_line : (bytes : ByteMap) (line : ℕ) → AreAlike bytes (64 * line) (64 * line + 64)
alike_line bytes line = alike_within bytes (64 * line) (64 * line + 64) (omega arith)

-- one line, or the lines before the next one in front
pub alike_lines : (bytes : ByteMap) (line found next : ℕ) → ((q : ℕ) → line ≤ q → q < found → get nat_eq bytes.front q ≡ None) → next ≤ found ⊎ (next ≡ line + 1) → AreAlike bytes (64 * line) (64 * next)
alike_lines bytes line found next none which = elim which [
  | inl upto ↦ record {
    one = λ some. elim (cases_lt line next) [
      | inl above ↦ none_some (line_at bytes (64 * line)) (none (64 * line / 64) (omega arith) (omega arith)) some
      | inr below ↦ omega arith
    ];
    none = λ at b from below. none (b / 64) (omega arith) (omega arith);
  }
  | inr one ↦ let size : 64 * line + 64 ≡ 64 * next = omega arith in subst (AreAlike bytes (64 * line)) size (alike_line bytes line)
]

-- ---- lines in front are changed

outside : (at n : ℕ) → (n / 64 ≡ at → ⊥) → is_between (64 * at + 8 * 0) (64 * at + 8 * 8) n ≡ false
unfolding is_between
outside at n other = grind (arith, nat_tests)

inside : (at n : ℕ) → n / 64 ≡ at → is_between (64 * at + 8 * 0) (64 * at + 8 * 8) n ≡ true
unfolding is_between
inside at n here = grind (arith, nat_tests)

unchanged_at : (b c : ByteMap) (at n : ℕ) (change : ByteState → ByteState) → (n / 64 ≡ at → ⊥) → ChangesBetween (64 * at + 8 * 0) (64 * at + 8 * 8) change b c → state_at c n ≡ state_at b n
unchanged_at b c at n change other changes = changes.states n ∙ ap (λ t. if t then change (state_at b n) else state_at b n) (outside at n other)

changed_at : (b c : ByteMap) (at n : ℕ) (change : ByteState → ByteState) → n / 64 ≡ at → ChangesBetween (64 * at + 8 * 0) (64 * at + 8 * 8) change b c → state_at c n ≡ change (state_at b n)
changed_at b c at n change here changes = changes.states n ∙ ap (λ t. if t then change (state_at b n) else state_at b n) (inside at n here)

between_same : (first line next q : ℕ) → first ≤ line → line ≤ next → (line ≤ q → q < next → ⊥) → is_between first next q ≡ is_between first line q
unfolding is_between
between_same first line next q from upto outside = elim (cases_lt q line) [
  | inl below ↦ grind (arith, nat_tests)
  | inr above ↦ elim (cases_lt q next) [
    | inl within ↦ absurd (outside above within)
    | inr behind ↦ grind (arith, nat_tests)
  ]
]

between_here : (first line at : ℕ) → first ≤ line → line ≤ at → is_between first (at + 1) at ≡ true
unfolding is_between
between_here first line at from upto = grind (arith, nat_tests)

none_from : (first line q : ℕ) → line ≤ q → is_between first line q ≡ false
unfolding is_between
none_from first line q from = grind (arith, nat_tests)

-- the next line in front is changed
pub front_step : (a b c : ByteMap) (first line at : ℕ) (change : ByteState → ByteState) (is : Bool) → first ≤ line → line ≤ at → ChangesFront first line change a b → ((n : ℕ) → is_some (line_at b n) ≡ is_some (line_at a n)) →
    ((q : ℕ) → line ≤ q → q < at → get nat_eq b.front q ≡ None) → is ≡ is_some (get nat_eq b.front at) → (is ≡ true → ChangesBetween (64 * at + 8 * 0) (64 * at + 8 * 8) change b c) → (is ≡ false → KeepsStates b c) → ChangesFront first (at + 1) change a c
front_step a b c first line at change true from upto so_far same none is changes kept = record {
  front = λ n some. elim (cases_eq (n / 64) at) [
    | inl here ↦
        let before : state_at b n ≡ state_at a n = so_far.front n some ∙ ap (λ t. if t then change (state_at a n) else state_at a n) (none_from first line (n / 64) (omega arith)) in
        let inside : is_between first (at + 1) (n / 64) ≡ true = ap (is_between first (at + 1)) here ∙ between_here first line at from upto in
        changed_at b c at n change here (changes refl) ∙ ap change before ∙ ap (λ t. if t then change (state_at a n) else state_at a n) (sym inside)
    | inr other ↦
        unchanged_at b c at n change other (changes refl) ∙ so_far.front n some
        ∙ ap (λ t. if t then change (state_at a n) else state_at a n) (sym (between_same first line (at + 1) (n / 64) from (omega arith) (λ low high. none_some (line_at b n) (none (n / 64) low (omega arith)) (same n ∙ some))))
  ];
  behind = λ n gone. unchanged_at b c at n change (λ here. absurd (let bad : false ≡ true = sym (ap is_some gone) ∙ sym (same n) ∙ ap (λ q. is_some (get nat_eq b.front q)) here ∙ sym is in cc)) (changes refl) ∙ so_far.behind n gone;
}
front_step a b c first line at change false from upto so_far same none is changes kept = record {
  front = λ n some.
      (kept refl).states n ∙ so_far.front n some
      ∙ ap (λ t. if t then change (state_at a n) else state_at a n) (sym (between_same first line (at + 1) (n / 64) from (omega arith) (λ low high. elim (cases_eq (n / 64) at) [
        | inl here ↦ absurd (let bad : false ≡ true = is ∙ sym (ap (λ q. is_some (get nat_eq b.front q)) here) ∙ same n ∙ some in cc)
        | inr other ↦ none_some (line_at b n) (none (n / 64) low (omega arith)) (same n ∙ some)
      ])));
  behind = λ n gone. (kept refl).states n ∙ so_far.behind n gone;
}

-- no line in front is left
pub front_end : (a b : ByteMap) (first line end : ℕ) (change : ByteState → ByteState) → first ≤ line → line ≤ end → ChangesFront first line change a b → ((n : ℕ) → is_some (line_at b n) ≡ is_some (line_at a n)) → ((q : ℕ) → line ≤ q → q < end → get nat_eq b.front q ≡ None) → ChangesFront first end change a b
front_end a b first line end change from upto so_far same none = record {
  front = λ n some. so_far.front n some ∙ ap (λ t. if t then change (state_at a n) else state_at a n) (sym (between_same first line end (n / 64) from upto (λ low high. none_some (line_at b n) (none (n / 64) low high) (same n ∙ some))));
  behind = so_far.behind;
}

none_between : (first q : ℕ) → is_between first first q ≡ false
unfolding is_between
none_between first q = grind (arith, nat_tests)

pub front_none : (a : ByteMap) (first : ℕ) (change : ByteState → ByteState) → ChangesFront first first change a a
front_none a first change = record {
  front = λ n some. ap (λ t. if t then change (state_at a n) else state_at a n) (sym (none_between first (n / 64)));
  behind = λ n gone. refl;
}

same_between : (first end b : ℕ) → first < end → (b / 64 ≡ first / 64 → ⊥) → (b / 64 ≡ (end - 1) / 64 → ⊥) → is_between (first / 64) ((end - 1) / 64 + 1) (b / 64) ≡ is_between first end b
unfolding is_between
same_between first end b some low high = elim (cases_lt (b / 64) (first / 64)) [
  | inl below ↦ let less : b < first = omega arith in grind (arith, nat_tests)
  | inr above ↦
      let from : first ≤ b = omega arith in
      elim (cases_lt (b / 64) ((end - 1) / 64)) [
        | inl within ↦ let upto : b < end = omega arith in grind (arith, nat_tests)
        | inr behind ↦ let past : end ≤ b = omega arith in grind (arith, nat_tests)
      ]
]

-- a range is changed behind, and then in front, where no line at its bounds is
pub both_changed : (orig settled changed new : ByteMap) (first end : ℕ) (change : ByteState → ByteState) → first < end → KeepsStates orig settled → get nat_eq settled.front (first / 64) ≡ None → get nat_eq settled.front ((end - 1) / 64) ≡ None →
    changed.front ≡ settled.front → behind.ChangesBetween first end change settled.behind changed.behind → ChangesFront (first / 64) ((end - 1) / 64 + 1) change changed new → ChangesBetween first end change orig new
unfolding is_between behind.is_between
both_changed orig settled changed new first end change some kept low high front changes then_front = record { states = λ b. go b (line_at settled b) refl } where
  go : (b : ℕ) (o : Option Line) → line_at settled b ≡ o → state_at new b ≡ (if is_between first end b then change (state_at orig b) else state_at orig b)
  go b None none =
      let after : line_at changed b ≡ None = ap (λ m. get nat_eq m (b / 64)) front ∙ none in
      then_front.behind b after ∙ sym (at_behind changed b after) ∙ changes.states b ∙ ap (λ s. if is_between first end b then change s else s) (at_behind settled b none ∙ kept.states b)
  go b (Some line) has =
      let after : line_at changed b ≡ Some line = ap (λ m. get nat_eq m (b / 64)) front ∙ has in
      let same : state_at changed b ≡ state_at orig b = sym (at_front changed line b (state_at changed b) after) ∙ at_front settled line b (state_at changed b) has ∙ kept.states b in
      let off_low : b / 64 ≡ first / 64 → ⊥ = λ here. none_some (line_at settled b) (ap (get nat_eq settled.front) here ∙ low) (ap is_some has) in
      let off_high : b / 64 ≡ (end - 1) / 64 → ⊥ = λ here. none_some (line_at settled b) (ap (get nat_eq settled.front) here ∙ high) (ap is_some has) in
      then_front.front b (ap is_some after) ∙ ap (λ s. if is_between (first / 64) ((end - 1) / 64 + 1) (b / 64) then change s else s) same
      ∙ ap (λ t. if t then change (state_at orig b) else state_at orig b) (same_between first end b some off_low off_high)

-- ---- lines are counted

plus_none : (n : ℕ) → 0 + n ≡ n
plus_none n = omega arith

one_and_more : (t : Bool) (n m : ℕ) → (if t then suc (n + m) else n + m) ≡ (if t then suc n else n) + m
one_and_more true n m = omega arith
one_and_more false n m = refl

pub count_split : (test : ℕ → Bool) (b n m : ℕ) → count_from test b (n + m) ≡ count_from test b n + count_from test (b + n) m
unfolding count_from
count_split test b zero m = ap (count_from test b) (plus_none m) ∙ ap (λ k. count_from test k m) (let same : b ≡ b + 0 = omega arith in same) ∙ sym (plus_none (count_from test (b + 0) m))
count_split test b (suc n) m =
    ap (count_from test b) (let same : suc n + m ≡ suc (n + m) = omega arith in same)
    ∙ ap (λ k. if test b then suc k else k) (count_split test (b + 1) n m ∙ ap (λ k. count_from test (b + 1) n + count_from test k m) (let same : b + 1 + n ≡ b + suc n = omega arith in same))
    ∙ one_and_more (test b) (count_from test (b + 1) n) (count_from test (b + suc n) m)

pub count_upto : (test : ℕ → Bool) (b n : ℕ) → count_from test b n ≤ n
unfolding count_from
count_upto test b zero = omega arith
count_upto test b (suc n) = let less = count_upto test (b + 1) n in go (test b) less where
  go : (t : Bool) → count_from test (b + 1) n ≤ n → (if t then suc (count_from test (b + 1) n) else count_from test (b + 1) n) ≤ suc n
  go true less = omega arith
  go false less = omega arith

pub count_on : (test : ℕ → Bool) (first line next so_far count : ℕ) → first ≤ line → line ≤ next → so_far ≡ count_from test first (line - first) → count ≡ so_far + count_from test line (next - line) → count ≡ count_from test first (next - first)
count_on test first line next so_far count from upto is more =
    let size : next - first ≡ line - first + (next - line) = omega arith in
    let place : first + (line - first) ≡ line = omega arith in
    more ∙ ap (λ n. n + count_from test line (next - line)) is ∙ ap (λ b. count_from test first (line - first) + count_from test b (next - line)) (sym place)
    ∙ sym (count_split test first (line - first) (next - line)) ∙ ap (count_from test first) (sym size)

pub count_one : (test : ℕ → Bool) (line next count : ℕ) → next ≡ line + 1 → (if test line then count + 1 else count) ≡ count + count_from test line (next - line)
unfolding count_from
count_one test line next count is = go (test line) ∙ ap (λ n. count + count_from test line n) (let size : 1 ≡ next - line = omega arith in size) where
  go : (t : Bool) → (if t then count + 1 else count) ≡ count + (if t then 1 else 0)
  go true = refl
  go false = omega arith

-- lines behind are counted there
pub counted_behind : (bytes : ByteMap) (passes : ByteState → Bool) (line next count : ℕ) → line < next → AreAlike bytes (64 * line) (64 * next) → get nat_eq bytes.front line ≡ None →
    count ≡ count_from (line_has (behind.passing passes bytes.behind)) (64 * line / 64) (64 * next / 64 - 64 * line / 64) → count ≡ count_from (line_has (passing passes bytes)) line (next - line)
unfolding line_has passing behind.passing
counted_behind bytes passes line next count some alike none is =
    let low : 64 * line / 64 ≡ line = omega arith in
    let size : 64 * next / 64 - 64 * line / 64 ≡ next - line = omega arith in
    let here : line_at bytes (64 * line) ≡ None = ap (get nat_eq bytes.front) low ∙ none in
    is ∙ ap (λ b. count_from (line_has (behind.passing passes bytes.behind)) b (64 * next / 64 - 64 * line / 64)) low ∙ ap (count_from (line_has (behind.passing passes bytes.behind)) line) size
    ∙ count_from-same (line_has (behind.passing passes bytes.behind)) (line_has (passing passes bytes)) line (next - line)
    (λ k from upto. ap is_some (first_from-same (behind.passing passes bytes.behind) (passing passes bytes) (k * 64) 64 (λ b from_b upto_b. ap passes (at_behind bytes b (alike.none here b (omega arith) (omega arith))))))

-- a line in front is counted there
pub line_counted : (bytes : ByteMap) (passes : ByteState → Bool) (line next count : ℕ) (found : Line) (d : ByteState) (o : Option ℕ) (t : Bool) → line < next → AreAlike bytes (64 * line) (64 * next) → get nat_eq bytes.front line ≡ Some found →
    o ≡ first_from (λ b. passes (get_or found.words (b % 64 / 8) d)) (64 * line) (64 * line + 64 - 64 * line) → t ≡ is_some o → (if t then count + 1 else count) ≡ count + count_from (line_has (passing passes bytes)) line (next - line)
line_counted bytes passes line next count found d o t some alike has is test =
    let low : 64 * line / 64 ≡ line = omega arith in
    let here : line_at bytes (64 * line) ≡ Some found = ap (get nat_eq bytes.front) low ∙ has in
    let upto = alike.one (ap is_some here) in
    let one : next ≡ line + 1 = omega arith in
    ap (λ v. if v then count + 1 else count) (test ∙ line_asked (passing passes bytes) line o (first_front bytes passes found d (64 * line) (64 * line + 64) o (alike_line bytes line) here is))
    ∙ count_one (line_has (passing passes bytes)) line next count one

-- ---- a line that is not in front

pub line_alone : (bytes : ByteMap) (line from upto : ℕ) → from < upto → upto ≤ 8 → get nat_eq bytes.front line ≡ None → AreBehind bytes ((64 * line + 8 * from) / 64) ((64 * line + 8 * upto - 1) / 64)
line_alone bytes line from upto some within none = record { each = λ q low high. let same : q ≡ line = omega arith in ap (get nat_eq bytes.front) same ∙ none }

-- it is changed, and taken in front
pub taken_changed : (old new : ByteMap) (line from upto : ℕ) (change : ByteState → ByteState) (found now : Line) → get nat_eq old.front line ≡ None → IsLineOf (behind.state_at old.behind) line found →
    ((q : ℕ) → get nat_eq new.front q ≡ cond (nat_eq line q) (Some now) (get nat_eq old.front q)) → new.behind ≡ old.behind → upto ≤ 8 → ChangesItems from upto change found.words now.words →
    ChangesBetween (64 * line + 8 * from) (64 * line + 8 * upto) change old new
unfolding state_on
taken_changed old new line from upto change found now none even updates behind_same within changes = record {
  states = λ b. elim (cases_eq (b / 64) line) [
    | inl here ↦ on b here
    | inr other ↦ off b other
  ];
} where
  on : (b : ℕ) → b / 64 ≡ line → state_at new b ≡ (if is_between (64 * line + 8 * from) (64 * line + 8 * upto) b then change (state_at old b) else state_at old b)
  on b here =
      let full = found.full in
      let place = word_within b in
      let there : line_at new b ≡ Some now = updates (b / 64) ∙ ap (λ t. cond t (Some now) (get nat_eq old.front (b / 64))) (nat_eq-true line (b / 64) (sym here)) in
      let before : line_at old b ≡ None = ap (get nat_eq old.front) here ∙ none in
      let k = b % 64 / 8 in
      let d = behind.state_at old.behind b in
      let was : get_or found.words k d ≡ state_at old b = even.is b here ∙ at_behind old b before in
      sym (at_front new now b d there) ∙ changes.items k d (omega arith)
      ∙ ap (λ s. if nat_le from k && nat_lt k upto then change s else s) was
      ∙ ap (λ t. if t then change (state_at old b) else state_at old b) (sym (between_words line from upto b here))

  off : (b : ℕ) → (b / 64 ≡ line → ⊥) → state_at new b ≡ (if is_between (64 * line + 8 * from) (64 * line + 8 * upto) b then change (state_at old b) else state_at old b)
  off b other =
      let same : line_at new b ≡ line_at old b = updates (b / 64) ∙ ap (λ t. cond t (Some now) (get nat_eq old.front (b / 64))) (nat_eq-false line (b / 64) (λ is. other (sym is))) in
      same_state old new b same behind_same ∙ ap (λ t. if t then change (state_at old b) else state_at old b) (sym (not_between line from upto b other within))

-- the words of a range on one line
pub on_one_line : (a b : ByteMap) (first end : ℕ) (change : ByteState → ByteState) → AreWords first end → ChangesBetween (64 * (first / 64) + 8 * (first % 64 / 8)) (64 * (first / 64) + 8 * (first % 64 / 8 + (end - first) / 8)) change a b → ChangesBetween first end change a b
on_one_line a b first end change words changes =
    let some = words.some in
    let begins = words.begins in
    let ends = words.ends in
    let low : 64 * (first / 64) + 8 * (first % 64 / 8) ≡ first = omega arith in
    let high : 64 * (first / 64) + 8 * (first % 64 / 8 + (end - first) / 8) ≡ end = omega arith in
    subst (λ n. ChangesBetween first n change a b) high (subst (λ n. ChangesBetween n (64 * (first / 64) + 8 * (first % 64 / 8 + (end - first) / 8)) change a b) low changes)
