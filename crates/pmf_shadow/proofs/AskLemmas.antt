-- What is asked of the states of bytes, line by line.
use Rattle.std.proofs.{Common.{◌≡◌, ℕ, ◌+◌, ◌-◌, ◌*◌, ◌/◌, ◌%◌, ◌<◌, ◌≤◌, Bool, true, false, if◌then◌else◌, zero, suc, get_or, nat_eq, sym, ◌∙◌, ap, arith, refl, inl, inr, Option, None, Some, is_some}, lemmas.Bool.{cases_lt}, lemmas.List.{get_or_default}}
use Rattle.std.specs.HashMap.{get, hash_map_len}
use Rattle.pmf_event.{specs.Ranges.{first_from, count_from, least_from, lesser}, proofs.RangeLemmas.{least_from-split, least_from-alike, least_from-same, first_from-none, first_from-some, none-passes, first-passes, first_from-same, count_from-same, some-from}}
use Rattle.pmf_shadow.{specs.Bytes.{passing, keyed, AreAlike}, specs.declared.byte.ByteState.{ByteState}, specs.declared.front.ByteMap.{ByteMap}, specs.declared.line.Line.{Line}, proofs.FrontLemmas.{at_front, at_behind, no_line, word_within}}
use Rattle.pmf_runs.specs.Runs as behind
use Rattle.pmf_runs.specs.Lines.{line_has}

-- the bytes of a range on one line are on the line of its first
pub on_line : (first end b : ℕ) → end ≤ 64 * (first / 64) + 64 → first ≤ b → b < first + (end - first) → b / 64 ≡ first / 64
on_line first end b within low high = omega arith

-- the search over numbers of which none before passes
pub first_later : (test : ℕ → Bool) (first at stop end : ℕ) (o : Option ℕ) → first ≤ at → stop ≤ end → ((b : ℕ) → first ≤ b → b < at → test b ≡ false) → o ≡ first_from test at (stop - at) → is_some o ≡ true →
    o ≡ first_from test first (end - first)
first_later test first at stop end o from upto none is some =
    let k = some-from o some in
    let found = first-passes test at (stop - at) k.0 (sym is ∙ k.1) in
    let low = found.from in
    let high = found.within in
    k.1 ∙ sym (first_from-some test first (end - first) k.0 (record {
      from = omega arith;
      within = omega arith;
      passes = found.passes;
      before = λ j above below. elim (cases_lt j at) [
        | inl lower ↦ none j above lower
        | inr higher ↦ found.before j higher below
      ];
    }))

pub none_more : (test : ℕ → Bool) (first at stop : ℕ) → at ≤ stop → ((b : ℕ) → first ≤ b → b < at → test b ≡ false) → None ≡ first_from test at (stop - at) → (b : ℕ) → first ≤ b → b < stop → test b ≡ false
none_more test first at stop upto none is b low high = elim (cases_lt b at) [
  | inl lower ↦ none b low lower
  | inr higher ↦ none-passes test at (stop - at) (sym is) b higher (omega arith)
]

pub none_all : (test : ℕ → Bool) (first at end : ℕ) → end ≤ at → ((b : ℕ) → first ≤ b → b < at → test b ≡ false) → None ≡ first_from test first (end - first)
none_all test first at end past none = sym (first_from-none test first (end - first) (λ k low high. none k low (omega arith)))

pub found_here : (test : ℕ → Bool) (first at end : ℕ) → first ≤ at → at < end → ((b : ℕ) → first ≤ b → b < at → test b ≡ false) → test at ≡ true → Some at ≡ first_from test first (end - first)
found_here test first at end from below none passes = sym (first_from-some test first (end - first) at (record { from = from; within = omega arith; passes = passes; before = none }))

-- on one line the search is that in front or that behind
pub first_behind : (bytes : ByteMap) (passes : ByteState → Bool) (first end : ℕ) (o : Option ℕ) → AreAlike bytes first end → get nat_eq bytes.front (first / 64) ≡ None →
    o ≡ first_from (behind.passing passes bytes.behind) first (end - first) → o ≡ first_from (passing passes bytes) first (end - first)
unfolding passing behind.passing
first_behind bytes passes first end o alike none is =
    is ∙ first_from-same (behind.passing passes bytes.behind) (passing passes bytes) first (end - first) (λ b low high. ap passes (at_behind bytes b (alike.none none b low (omega arith))))

pub first_front : (bytes : ByteMap) (passes : ByteState → Bool) (line : Line) (d : ByteState) (first end : ℕ) (o : Option ℕ) → AreAlike bytes first end → get nat_eq bytes.front (first / 64) ≡ Some line →
    o ≡ first_from (λ b. passes (get_or line.words (b % 64 / 8) d)) first (end - first) → o ≡ first_from (passing passes bytes) first (end - first)
unfolding passing
first_front bytes passes line d first end o alike has is =
    let within = alike.one (ap is_some has) in
    is ∙ first_from-same (λ b. passes (get_or line.words (b % 64 / 8) d)) (passing passes bytes) first (end - first)
    (λ b low high. ap passes (at_front bytes line b d (ap (get nat_eq bytes.front) (on_line first end b within low high) ∙ has)))

pub word_default : (line : Line) (b : ℕ) (d e : ByteState) → get_or line.words (b % 64 / 8) d ≡ get_or line.words (b % 64 / 8) e
word_default line b d e = let full = line.full in let within = word_within b in get_or_default line.words (b % 64 / 8) d e (omega arith)

-- ---- keys

pub least_none : (value : ℕ → Option ℕ) (first at : ℕ) → at ≡ first → None ≡ least_from value first (at - first)
unfolding least_from
least_none value first at is = let none : at - first ≡ 0 = omega arith in sym (ap (least_from value first) none)

pub least_more : (value : ℕ → Option ℕ) (first at stop : ℕ) (so_far next : Option ℕ) → first ≤ at → at ≤ stop → so_far ≡ least_from value first (at - first) → next ≡ least_from value at (stop - at) → lesser so_far next ≡ least_from value first (stop - first)
least_more value first at stop so_far next from upto is later =
    ap (λ o. lesser o next) is ∙ ap (lesser (least_from value first (at - first))) later ∙ sym (least_from-split value first (at - first) (stop - at) (stop - first) at (omega arith) (omega arith))

pub least_end : (value : ℕ → Option ℕ) (first at end : ℕ) (so_far : Option ℕ) → end ≤ at → first ≤ at → (first ≤ end → at ≤ end) → so_far ≡ least_from value first (at - first) → (end < first → at ≡ first) → so_far ≡ least_from value first (end - first)
least_end value first at end so_far past from upto is none = elim (cases_lt end first) [
  | inl below ↦ let here : at - first ≡ end - first = let same = none below in omega arith in is ∙ ap (least_from value first) here
  | inr above ↦ let here : at - first ≡ end - first = let le = upto above in omega arith in is ∙ ap (least_from value first) here
]

-- the bytes of a word have one key
pub word_key : (line : Line) (key : ByteState → Option ℕ) (d : ByteState) (byte stop : ℕ) → byte < stop → stop ≤ 8 * (byte / 8) + 8 → least_from (λ b. key (get_or line.words (b % 64 / 8) d)) byte (stop - byte) ≡ key (get_or line.words (byte % 64 / 8) d)
word_key line key d byte stop some within =
    least_from-alike (λ b. key (get_or line.words (b % 64 / 8) d)) byte (stop - byte) (key (get_or line.words (byte % 64 / 8) d)) (omega arith)
    (λ b low high. let same : b % 64 / 8 ≡ byte % 64 / 8 = omega arith in ap (λ k. key (get_or line.words k d)) same)

pub least_behind : (bytes : ByteMap) (key : ByteState → Option ℕ) (first end : ℕ) (o : Option ℕ) → AreAlike bytes first end → get nat_eq bytes.front (first / 64) ≡ None →
    o ≡ least_from (behind.keyed key bytes.behind) first (end - first) → o ≡ least_from (keyed key bytes) first (end - first)
unfolding keyed behind.keyed
least_behind bytes key first end o alike none is =
    is ∙ least_from-same (behind.keyed key bytes.behind) (keyed key bytes) first (end - first) (λ b low high. ap key (at_behind bytes b (alike.none none b low (omega arith))))

pub least_front : (bytes : ByteMap) (key : ByteState → Option ℕ) (line : Line) (d : ByteState) (first end : ℕ) (o : Option ℕ) → AreAlike bytes first end → get nat_eq bytes.front (first / 64) ≡ Some line →
    o ≡ least_from (λ b. key (get_or line.words (b % 64 / 8) d)) first (end - first) → o ≡ least_from (keyed key bytes) first (end - first)
unfolding keyed
least_front bytes key line d first end o alike has is =
    let within = alike.one (ap is_some has) in
    is ∙ least_from-same (λ b. key (get_or line.words (b % 64 / 8) d)) (keyed key bytes) first (end - first)
    (λ b low high. ap key (at_front bytes line b d (ap (get nat_eq bytes.front) (on_line first end b within low high) ∙ has)))

-- ---- lines

pub count_none : (test : ℕ → Bool) (first : ℕ) → 0 ≡ count_from test first (first - first)
unfolding count_from
count_none test first = let none : first - first ≡ 0 = omega arith in sym (ap (count_from test first) none)

with_one : Bool → ℕ → ℕ
with_one t n = if t then n + 1 else n

one_more : (t : Bool) (n : ℕ) → (if t then suc n else n) ≡ with_one t n
unfolding with_one
one_more true n = omega arith
one_more false n = refl

swapped : (s t : Bool) (n : ℕ) → with_one s (with_one t n) ≡ with_one t (with_one s n)
unfolding with_one
swapped true true n = refl
swapped true false n = refl
swapped false true n = refl
swapped false false n = refl

count_next : (test : ℕ → Bool) (b n : ℕ) → count_from test b (suc n) ≡ with_one (test (b + n)) (count_from test b n)
unfolding count_from
count_next test b zero = one_more (test b) 0 ∙ ap (λ k. with_one (test k) 0) (let same : b ≡ b + 0 = omega arith in same)
count_next test b (suc n) =
    one_more (test b) (count_from test (b + 1) (suc n)) ∙ ap (with_one (test b)) (count_next test (b + 1) n)
    ∙ swapped (test b) (test (b + 1 + n)) (count_from test (b + 1) n)
    ∙ ap (λ k. with_one (test k) (with_one (test b) (count_from test (b + 1) n))) (let same : b + 1 + n ≡ b + suc n = omega arith in same)
    ∙ ap (with_one (test (b + suc n))) (sym (one_more (test b) (count_from test (b + 1) n)))

pub count_more : (test : ℕ → Bool) (first line count next : ℕ) → first ≤ line → count ≡ count_from test first (line - first) → next ≡ (if test line then count + 1 else count) → next ≡ count_from test first (line + 1 - first)
unfolding with_one
count_more test first line count next from is then_is =
    let place : first + (line - first) ≡ line = omega arith in
    let size : suc (line - first) ≡ line + 1 - first = omega arith in
    then_is ∙ ap (λ n. with_one (test line) n) is ∙ ap (λ k. with_one (test k) (count_from test first (line - first))) (sym place) ∙ sym (count_next test first (line - first)) ∙ ap (count_from test first) size

pub line_asked : (test : ℕ → Bool) (line : ℕ) (o : Option ℕ) → o ≡ first_from test (64 * line) (64 * line + 64 - 64 * line) → is_some o ≡ line_has test line
unfolding line_has
line_asked test line o is =
    let size : 64 * line + 64 - 64 * line ≡ 64 = omega arith in
    let place : 64 * line ≡ line * 64 = omega arith in
    ap is_some is ∙ ap (λ n. is_some (first_from test (64 * line) n)) size ∙ ap (λ b. is_some (first_from test b 64)) place

-- ---- where no line is in front

pub first_alone : (bytes : ByteMap) (passes : ByteState → Bool) (first n : ℕ) → hash_map_len bytes.front ≡ 0 → first_from (behind.passing passes bytes.behind) first n ≡ first_from (passing passes bytes) first n
unfolding passing behind.passing
first_alone bytes passes first n none = first_from-same (behind.passing passes bytes.behind) (passing passes bytes) first n (λ b low high. ap passes (at_behind bytes b (no_line bytes b none)))

pub least_alone : (bytes : ByteMap) (key : ByteState → Option ℕ) (first n : ℕ) → hash_map_len bytes.front ≡ 0 → least_from (behind.keyed key bytes.behind) first n ≡ least_from (keyed key bytes) first n
unfolding keyed behind.keyed
least_alone bytes key first n none = least_from-same (behind.keyed key bytes.behind) (keyed key bytes) first n (λ b low high. ap key (at_behind bytes b (no_line bytes b none)))

pub count_alone : (bytes : ByteMap) (passes : ByteState → Bool) (first end count : ℕ) → hash_map_len bytes.front ≡ 0 →
    count ≡ count_from (line_has (behind.passing passes bytes.behind)) (64 * first / 64) (64 * end / 64 - 64 * first / 64) → count ≡ count_from (line_has (passing passes bytes)) first (end - first)
unfolding line_has
count_alone bytes passes first end count none is =
    let low : 64 * first / 64 ≡ first = omega arith in
    let size : 64 * end / 64 - 64 * first / 64 ≡ end - first = omega arith in
    is ∙ ap (λ b. count_from (line_has (behind.passing passes bytes.behind)) b (64 * end / 64 - 64 * first / 64)) low ∙ ap (count_from (line_has (behind.passing passes bytes.behind)) first) size
    ∙ count_from-same (line_has (behind.passing passes bytes.behind)) (line_has (passing passes bytes)) first (end - first) (λ k from upto. ap is_some (first_alone bytes passes (k * 64) 64 none))
