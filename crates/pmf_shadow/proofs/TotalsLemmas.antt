-- Totals over all lines: what an event does to them, and the lines of a part of all.
use Rattle.std.{proofs.Common.{◌≡◌, ℕ, zero, suc, ◌+◌, ◌-◌, ◌*◌, ◌/◌, ◌<◌, ◌≤◌, Bool, true, false, if◌then◌else◌, refl, sym, ◌∙◌, ap, subst, arith, inl, inr, Option, Some, None, is_some, Result, Ok, Err, OnOk, OnErr}, proofs.lemmas.Bool.{cases_lt, not_from_false, true_from_ne_false}, proofs.lemmas.Bool.Decides.{nat_tests}}
use Rattle.pmf_event.{specs.declared.span.TheConstants.{ADDRESS_LIMIT}, specs.Ranges.{first_from, count_from}, proofs.RangeLemmas.{NonePass, first_from-same, count_from-same, none-passes, first-passes, first_from-none}}
use Rattle.pmf_runs.specs.Lines.{line_has}
use Rattle.pmf_shadow.{specs.declared.byte.ByteState.{ByteState}, specs.declared.front.ByteMap.{ByteMap}, specs.declared.totals.Totals.{Totals}, specs.EqualStates.{state_of}, specs.States.{stored_of, holds_of, late_for, lacks_write_back, written_back_from, after_store, after_write_back, after_mark}, specs.Bytes.{state_at, passing, is_between, ChangesBetween, KeepsStates}, specs.Totals.{undurable_after, unwritten, written_back_past, lines_upto, lines_with, AreTotals, AreCounted}, proofs.WalkLemmas.{count_split, count_upto, count_on}, proofs.AskLemmas.{count_more}, proofs.StretchLemmas.{line_has-from, line_has-some, line_has-not, none_before-end, none_before-found, lacks-not, lines-none, count-but, count-lacks}, specs.Stretches.{AllHave, line_lacks, line_has_but, lines_at}}

-- ---- counts

-- a line whose bytes pass both tests alike
line_same : (s t : ℕ → Bool) (n : ℕ) → ((b : ℕ) → n * 64 ≤ b → b < n * 64 + 64 → s b ≡ t b) → line_has s n ≡ line_has t n
unfolding line_has
line_same s t n same = ap (λ (o : Option ℕ). is_some o) (first_from-same s t (n * 64) 64 same)

pub upto_same : (s t : ℕ → Bool) (n : ℕ) → ((b : ℕ) → b < n * 64 → s b ≡ t b) → count_from (line_has s) 0 n ≡ count_from (line_has t) 0 n
upto_same s t n same = count_from-same (line_has s) (line_has t) 0 n (λ k low high. line_same s t k (λ b from upto. same b (omega arith)))

none_pass-count : (test : ℕ → Bool) (b n : ℕ) → NonePass test b n → count_from test b n ≡ 0
unfolding count_from
none_pass-count test b zero none = refl
none_pass-count test b (suc n) none =
    ap (λ v. if v then suc (count_from test (b + 1) n) else count_from test (b + 1) n) (none b (omega arith) (omega arith))
    ∙ none_pass-count test (b + 1) n (λ k low high. none k (omega arith) (omega arith))

all_pass-count : (test : ℕ → Bool) (b n : ℕ) → ((k : ℕ) → b ≤ k → k < b + n → test k ≡ true) → count_from test b n ≡ n
unfolding count_from
all_pass-count test b zero all = refl
all_pass-count test b (suc n) all =
    ap (λ v. if v then suc (count_from test (b + 1) n) else count_from test (b + 1) n) (all b (omega arith) (omega arith))
    ∙ ap suc (all_pass-count test (b + 1) n (λ k low high. all k (omega arith) (omega arith)))

-- a count in three parts
in_parts : (test : ℕ → Bool) (a b n : ℕ) → a ≤ b → b ≤ n → count_from test 0 n ≡ count_from test 0 a + count_from test a (b - a) + count_from test b (n - b)
in_parts test a b n low high =
    let one = count_split test 0 a (b - a) in
    let two = count_split test 0 b (n - b) in
    let first : a + (b - a) ≡ b = omega arith in
    let second : b + (n - b) ≡ n = omega arith in
    let here : 0 + a ≡ a = omega arith in
    let there : 0 + b ≡ b = omega arith in
    ap (count_from test 0) (sym second) ∙ two
    ∙ ap (λ k. count_from test 0 b + count_from test k (n - b)) there
    ∙ ap (λ k. k + count_from test b (n - b)) (ap (count_from test 0) (sym first) ∙ one ∙ ap (λ k. count_from test 0 a + count_from test k (b - a)) here)

-- after a change of the numbers from a up to b
changed_count : (s t : ℕ → Bool) (a b n : ℕ) → a ≤ b → b ≤ n → ((k : ℕ) → k < a → s k ≡ t k) → ((k : ℕ) → b ≤ k → s k ≡ t k) →
    count_from t 0 n + count_from s a (b - a) ≡ count_from s 0 n + count_from t a (b - a)
changed_count s t a b n low high before behind =
    let olds = in_parts s a b n low high in
    let news = in_parts t a b n low high in
    let first = count_from-same s t 0 a (λ k from upto. before k (omega arith)) in
    let last = count_from-same s t b (n - b) (λ k from upto. behind k from) in
    omega arith

-- where none counts, none is found
one_counts : (t : Bool) (n : ℕ) → (if t then suc n else n) ≡ 0 → (t ≡ false) × (n ≡ 0)
one_counts true n is = absurd (omega arith)
one_counts false n is = (refl, is)

none_count : (test : ℕ → Bool) (b n : ℕ) → count_from test b n ≡ 0 → None ≡ first_from test b n
unfolding count_from first_from
none_count test b zero is = refl
none_count test b (suc n) is =
    let both = one_counts (test b) (count_from test (b + 1) n) is in
    none_count test (b + 1) n both.1 ∙ ap (λ v. if v then Some b else first_from test (b + 1) n) (sym both.0)

none_at : (test : ℕ → Bool) (first n : ℕ) → count_from test first n ≡ 0 → None ≡ lines_at test first n
none_at test first n is = lines-none test first n (none_count test first n is)

-- ---- a search that counts what it finds

pub count_found : (test : ℕ → Bool) (first line end found count : ℕ) → first ≤ line → count ≡ count_from test first (line - first) → Some found ≡ first_from test line (end - line) →
    count + 1 ≡ count_from test first (found + 1 - first)
count_found test first line end found count from is next =
    let least = first-passes test line (end - line) found (sym next) in
    let low = least.from in
    let none = none_pass-count test line (found - line) (λ k after before. least.before k after (omega arith)) in
    let so_far = count_on test first line found count count from low is (omega arith) in
    count_more test first found count (count + 1) (omega arith) so_far (ap (λ v. if v then count + 1 else count) (sym least.passes))

pub count_rest : (test : ℕ → Bool) (first line end count : ℕ) → first ≤ line → line ≤ end → count ≡ count_from test first (line - first) → None ≡ first_from test line (end - line) →
    count ≡ count_from test first (end - first)
count_rest test first line end count from upto is none =
    let rest = none_pass-count test line (end - line) (none-passes test line (end - line) (sym none)) in
    count_on test first line end count count from upto is (omega arith)

pub count_single : (test : ℕ → Bool) (first end : ℕ) → end - first ≡ 1 → test first ≡ true → 1 ≡ count_from test first (end - first)
count_single test first end one has =
    sym (all_pass-count test first (end - first) (λ k low high. let same : k ≡ first = omega arith in ap test same ∙ has) ∙ one)

pub count_lacking : (test : ℕ → Bool) (first end : ℕ) → end - first ≡ 1 → test first ≡ false → 0 ≡ count_from test first (end - first)
count_lacking test first end one lacks =
    sym (none_pass-count test first (end - first) (λ k low high. let same : k ≡ first = omega arith in ap test same ∙ lacks))

-- the lines of a part, by those of all and of the others
pub count_within : (test : ℕ → Bool) (first end n all before behind : ℕ) → first ≤ end → end ≤ n → all ≡ count_from test 0 n → before ≡ count_from test 0 (first - 0) → behind ≡ count_from test end (n - end) →
    (before ≤ all) × (behind ≤ all - before) × (all - before - behind ≡ count_from test first (end - first))
count_within test first end n all before behind ordered room alls befores behinds =
    let parts = in_parts test first end n ordered room in
    let start : first - 0 ≡ first = omega arith in
    let front : before ≡ count_from test 0 first = befores ∙ ap (count_from test 0) start in
    (omega arith, omega arith, omega arith)

-- ---- one state

store-undurable : (place fences : ℕ) (s : ByteState) → undurable_after fences (after_store place fences s) ≡ true
store-undurable place fences s = grind arith

store-unwritten : (place fences : ℕ) (s : ByteState) → unwritten (after_store place fences s) ≡ true
store-unwritten place fences s = grind arith

store-past : (place fences : ℕ) (s : ByteState) → written_back_past fences (after_store place fences s) ≡ false
store-past place fences s = grind arith

flushed-undurable : (fences last opens w : ℕ) (is_stored is_written_back out : Bool) →
    undurable_after fences (after_write_back fences (state_of last opens w is_stored is_written_back out)) ≡ undurable_after fences (state_of last opens w is_stored is_written_back out)
flushed-undurable fences last opens w is_stored is_written_back out = grind (arith, nat_tests)

flushed-unwritten : (fences last opens w : ℕ) (is_stored is_written_back out : Bool) → unwritten (after_write_back fences (state_of last opens w is_stored is_written_back out)) ≡ false
flushed-unwritten fences last opens w is_stored is_written_back out = grind arith

flushed-past : (fences last opens w : ℕ) (is_stored is_written_back out : Bool) → written_back_past fences (state_of last opens w is_stored is_written_back out) ≡ false →
    written_back_past fences (after_write_back fences (state_of last opens w is_stored is_written_back out)) ≡ false
flushed-past fences last opens w is_stored is_written_back out before = grind (arith, nat_tests)

fenced-undurable : (fences last opens w : ℕ) (is_stored is_written_back out : Bool) → written_back_past fences (state_of last opens w is_stored is_written_back out) ≡ false →
    undurable_after (fences + 1) (state_of last opens w is_stored is_written_back out) ≡ unwritten (state_of last opens w is_stored is_written_back out)
fenced-undurable fences last opens w is_stored is_written_back out before = grind (arith, nat_tests)

fenced-past : (fences last opens w : ℕ) (is_stored is_written_back out : Bool) → written_back_past fences (state_of last opens w is_stored is_written_back out) ≡ false →
    written_back_past (fences + 1) (state_of last opens w is_stored is_written_back out) ≡ false
fenced-past fences last opens w is_stored is_written_back out before = grind (arith, nat_tests)

-- ---- totals of a map

pub none_counted : (bytes : ByteMap) (fences : ℕ) → AreCounted bytes fences None
none_counted bytes fences = record { each = λ t is. let bad : None ≡ Some t = is in cc }

pub unless_some : (bytes : ByteMap) (fences : ℕ) (totals : Option Totals) → is_some totals ≡ false → AreCounted bytes fences totals
unless_some bytes fences None is = none_counted bytes fences
unless_some bytes fences (Some totals) is = let bad : true ≡ false = is in cc

pub some_counted : (bytes : ByteMap) (fences : ℕ) (totals : Totals) → AreTotals bytes fences totals → AreCounted bytes fences (Some totals)
some_counted bytes fences totals are = record { each = λ t is. let same : totals ≡ t = cc in subst (AreTotals bytes fences) same are }

-- where each byte of the one map passes as that of the other does
map_same : (p q : ByteState → Bool) (old new : ByteMap) → ((b : ℕ) → p (state_at old b) ≡ q (state_at new b)) → (n : ℕ) → lines_upto n p old ≡ lines_upto n q new
unfolding passing
map_same p q old new same n = upto_same (passing p old) (passing q new) n (λ b below. same b)

-- a line whose bytes do
map_line : (p q : ByteState → Bool) (old new : ByteMap) (n : ℕ) → ((b : ℕ) → n * 64 ≤ b → b < n * 64 + 64 → p (state_at old b) ≡ q (state_at new b)) → line_has (passing p old) n ≡ line_has (passing q new) n
unfolding passing
map_line p q old new n same = line_same (passing p old) (passing q new) n same

-- the same totals are those of a map whose states are as undurable, as unwritten and as late
same_counted : (old new : ByteMap) (fences : ℕ) (totals : Option Totals) → ((b : ℕ) → stored_of (state_at new b) ≡ stored_of (state_at old b)) → AreCounted old fences totals → AreCounted new fences totals
unfolding passing
same_counted old new fences totals same counted = record {
  each = λ t is. let are = counted.each t is in record {
    undurable = are.undurable ∙ map_same (undurable_after fences) (undurable_after fences) old new (λ b. ap (holds_of (late_for fences)) (sym (same b))) (ADDRESS_LIMIT / 64);
    unwritten = are.unwritten ∙ map_same unwritten unwritten old new (λ b. ap (holds_of lacks_write_back) (sym (same b))) (ADDRESS_LIMIT / 64);
    dense = λ n low high. sym (map_line (undurable_after fences) (undurable_after fences) old new n (λ b from upto. ap (holds_of (late_for fences)) (sym (same b)))) ∙ are.dense n low high;
    past = λ b below. ap (holds_of (written_back_from (fences + 1))) (same b) ∙ are.past b below;
  };
}

pub kept_counted : (old new : ByteMap) (fences : ℕ) (totals : Option Totals) → KeepsStates old new → AreCounted old fences totals → AreCounted new fences totals
kept_counted old new fences totals kept counted = same_counted old new fences totals (λ b. ap stored_of (kept.states b)) counted

marked_same : (out is : Bool) (s : ByteState) → stored_of (if is then after_mark out s else s) ≡ stored_of s
marked_same out true s = refl
marked_same out false s = refl

pub marked_counted : (old new : ByteMap) (first end : ℕ) (out : Bool) (fences : ℕ) (totals : Option Totals) → ChangesBetween first end (after_mark out) old new → AreCounted old fences totals → AreCounted new fences totals
marked_counted old new first end out fences totals changes counted =
    same_counted old new fences totals (λ b. ap stored_of (changes.states b) ∙ marked_same out (is_between first end b) (state_at old b)) counted

pub marked_or_kept : {A E : Type 0} (result : Result A E) (old new : ByteMap) (first end : ℕ) (out : Bool) (fences : ℕ) (totals : Option Totals) → OnOk result (ChangesBetween first end (after_mark out) old new) → OnErr result (KeepsStates old new) →
    AreCounted old fences totals → AreCounted new fences totals
marked_or_kept (Ok done) old new first end out fences totals ok err counted = marked_counted old new first end out fences totals ok counted
marked_or_kept (Err e) old new first end out fences totals ok err counted = kept_counted old new fences totals err counted

-- the same range, by its bounds as they were computed
pub same_change : (old new : ByteMap) (f l first end : ℕ) (change : ByteState → ByteState) → f ≡ first → l ≡ end → ChangesBetween f l change old new → ChangesBetween first end change old new
same_change old new f l first end change at_f at_l changes = subst (λ k. ChangesBetween k end change old new) at_f (subst (λ k. ChangesBetween f k change old new) at_l changes)

-- ---- totals that begin

pub new_totals : (bytes : ByteMap) (fences one other stores : ℕ) → one ≡ count_from (line_has (passing (undurable_after fences) bytes)) 0 (ADDRESS_LIMIT / 64 - 0) → other ≡ count_from (line_has (passing unwritten bytes)) 0 (ADDRESS_LIMIT / 64 - 0) →
    ((b : ℕ) → b < ADDRESS_LIMIT → passing (written_back_past fences) bytes b ≡ false) → AreCounted bytes fences (Some (record { undurable = one; unwritten = other; from = 0; upto = 0; stores = stores }))
new_totals bytes fences one other stores ones others past =
    let size : ADDRESS_LIMIT / 64 - 0 ≡ ADDRESS_LIMIT / 64 = omega arith in
    some_counted bytes fences _ (record {
      undurable = ones ∙ ap (count_from (line_has (passing (undurable_after fences) bytes)) 0) size;
      unwritten = others ∙ ap (count_from (line_has (passing unwritten bytes)) 0) size;
      dense = λ n low high. absurd (omega arith);
      past = past;
    })

-- ---- a fence

pub fenced_totals : (bytes : ByteMap) (fences stores : ℕ) (totals : Totals) → AreTotals bytes fences totals →
    AreCounted bytes (fences + 1) (Some (record { undurable = totals.unwritten; unwritten = totals.unwritten; from = 0; upto = 0; stores = stores }))
unfolding passing
fenced_totals bytes fences stores totals are = some_counted bytes (fences + 1) _ (record {
  undurable = are.unwritten ∙ upto_same (passing unwritten bytes) (passing (undurable_after (fences + 1)) bytes) (ADDRESS_LIMIT / 64) (λ b below.
      let s = state_at bytes b in sym (fenced-undurable fences s.last s.opens s.written_back s.is_stored s.is_written_back s.excluded (are.past b (omega arith))));
  unwritten = are.unwritten;
  dense = λ n low high. absurd (omega arith);
  past = λ b below. let s = state_at bytes b in fenced-past fences s.last s.opens s.written_back s.is_stored s.is_written_back s.excluded (are.past b below);
})

-- ---- a change of the bytes of some lines

outside : (first end b : ℕ) → (first ≤ b → b < end → ⊥) → is_between first end b ≡ false
unfolding is_between
outside first end b off = grind (arith, nat_tests)

within : (first end b : ℕ) → first ≤ b → b < end → is_between first end b ≡ true
unfolding is_between
within first end b low high = grind (arith, nat_tests)

pub state_outside : (old new : ByteMap) (first end : ℕ) (change : ByteState → ByteState) (b : ℕ) → ChangesBetween first end change old new → (first ≤ b → b < end → ⊥) → state_at new b ≡ state_at old b
state_outside old new first end change b changes off = changes.states b ∙ ap (λ t. if t then change (state_at old b) else state_at old b) (outside first end b off)

pub state_within : (old new : ByteMap) (first end : ℕ) (change : ByteState → ByteState) (b : ℕ) → ChangesBetween first end change old new → first ≤ b → b < end → state_at new b ≡ change (state_at old b)
state_within old new first end change b changes low high = changes.states b ∙ ap (λ t. if t then change (state_at old b) else state_at old b) (within first end b low high)

-- a count after a change of bytes that lie on the lines from a up to z
lines_changed : (passes : ByteState → Bool) (old new : ByteMap) (first end a z n : ℕ) (change : ByteState → ByteState) → ChangesBetween first end change old new → a * 64 ≤ first → end ≤ z * 64 → a ≤ z → z ≤ n →
    lines_upto n passes new + count_from (line_has (passing passes old)) a (z - a) ≡ lines_upto n passes old + count_from (line_has (passing passes new)) a (z - a)
unfolding passing
lines_changed passes old new first end a z n change changes low high ordered room =
    changed_count (line_has (passing passes old)) (line_has (passing passes new)) a z n ordered room
    (λ k before. line_same (passing passes old) (passing passes new) k (λ b from upto. sym (ap passes (state_outside old new first end change b changes (λ x y. absurd (omega arith))))))
    (λ k behind. line_same (passing passes old) (passing passes new) k (λ b from upto. sym (ap passes (state_outside old new first end change b changes (λ x y. absurd (omega arith))))))

-- what fails before a change that keeps it so fails after it
past_changed : (passes : ByteState → Bool) (old new : ByteMap) (first end : ℕ) (change : ByteState → ByteState) (b : ℕ) → ChangesBetween first end change old new →
    ((s : ByteState) → passes s ≡ false → passes (change s) ≡ false) → passing passes old b ≡ false → passing passes new b ≡ false
unfolding passing
past_changed passes old new first end change b changes keeps before =
    ap passes (changes.states b) ∙ go (is_between first end b) where
      go : (t : Bool) → passes (if t then change (state_at old b) else state_at old b) ≡ false
      go true = keeps (state_at old b) before
      go false = before

flushed_same : (old new : ByteMap) (fences first end b : ℕ) → ChangesBetween first end (after_write_back fences) old new → undurable_after fences (state_at new b) ≡ undurable_after fences (state_at old b)
flushed_same old new fences first end b changes = ap (undurable_after fences) (changes.states b) ∙ go (is_between first end b) where
  go : (t : Bool) → undurable_after fences (if t then after_write_back fences (state_at old b) else state_at old b) ≡ undurable_after fences (state_at old b)
  go true = let s = state_at old b in flushed-undurable fences s.last s.opens s.written_back s.is_stored s.is_written_back s.excluded
  go false = refl

-- a line that is not durable is so after a store
stored_line : (old new : ByteMap) (place fences first end n : ℕ) → ChangesBetween first end (after_store place fences) old new → line_has (passing (undurable_after fences) old) n ≡ true → line_has (passing (undurable_after fences) new) n ≡ true
unfolding passing
stored_line old new place fences first end n changes has =
    let b = line_has-some (passing (undurable_after fences) old) n has in
    line_has-from (passing (undurable_after fences) new) n b.0 b.1 b.2 (ap (undurable_after fences) (changes.states b.0) ∙ go b.0 b.3 (is_between first end b.0)) where
      go : (b : ℕ) → undurable_after fences (state_at old b) ≡ true → (t : Bool) → undurable_after fences (if t then after_store place fences (state_at old b) else state_at old b) ≡ true
      go b before true = store-undurable place fences (state_at old b)
      go b before false = before

-- a store: each of its lines passes after it
stored_lines : (passes : ByteState → Bool) (old new : ByteMap) (first size a z n total before : ℕ) (change : ByteState → ByteState) → ((s : ByteState) → passes (change s) ≡ true) → ChangesBetween first (first + size) change old new →
    0 < size → a ≡ first / 64 → z ≡ (first + size - 1) / 64 + 1 → z ≤ n → total ≡ lines_upto n passes old → before ≡ count_from (line_has (passing passes old)) a (z - a) →
    (before ≤ z - a) × (total ≤ n) × (total + (z - a - before) ≡ lines_upto n passes new)
unfolding passing
stored_lines passes old new first size a z n total before change pass changes some at_a at_z room totals befores =
    let moved = lines_changed passes old new first (first + size) a z n change changes (omega arith) (omega arith) (omega arith) room in
    let all = all_pass-count (line_has (passing passes new)) a (z - a) (λ k low high.
    elim (cases_lt (k * 64) first) [
      | inl early ↦ line_has-from (passing passes new) k first (omega arith) (omega arith) (ap passes (state_within old new first (first + size) change first changes (omega arith) (omega arith)) ∙ pass (state_at old first))
      | inr late ↦ line_has-from (passing passes new) k (k * 64) (omega arith) (omega arith) (ap passes (state_within old new first (first + size) change (k * 64) changes late (omega arith)) ∙ pass (state_at old (k * 64)))
    ]) in
    let few = count_upto (line_has (passing passes old)) a (z - a) in
    let most = count_upto (line_has (passing passes old)) 0 n in
    (omega arith, omega arith, omega arith)

-- a write-back: none of its lines passes after it
flushed_lines : (passes : ByteState → Bool) (old new : ByteMap) (a z n total before : ℕ) (change : ByteState → ByteState) → ((s : ByteState) → passes (change s) ≡ false) → ChangesBetween (a * 64) (z * 64) change old new →
    a ≤ z → z ≤ n → total ≡ lines_upto n passes old → before ≡ count_from (line_has (passing passes old)) a (z - a) → total - before ≡ lines_upto n passes new
unfolding passing line_has
flushed_lines passes old new a z n total before change fails changes ordered room totals befores =
    let moved = lines_changed passes old new (a * 64) (z * 64) a z n change changes (omega arith) (omega arith) ordered room in
    let none = none_pass-count (line_has (passing passes new)) a (z - a) (λ k low high.
    ap (λ (o : Option ℕ). is_some o) (first_from-none (passing passes new) (k * 64) 64 (λ b from upto.
    ap passes (state_within old new (a * 64) (z * 64) change b changes (omega arith) (omega arith)) ∙ fails (state_at old b)))) in
    omega arith

-- a part holds no more than all
pub part_upto : (test : ℕ → Bool) (a z n total before : ℕ) → a ≤ z → z ≤ n → total ≡ count_from test 0 n → before ≡ count_from test a (z - a) → before ≤ total
part_upto test a z n total before ordered room totals befores = let parts = in_parts test a z n ordered room in omega arith

-- ---- the new totals

-- after a store
pub stored_totals : (old new : ByteMap) (place fences first size a z one other stores : ℕ) (totals : Totals) → ChangesBetween first (first + size) (after_store place fences) old new → AreTotals old fences totals →
    0 < size → a ≡ first / 64 → z ≡ (first + size - 1) / 64 + 1 → z * 64 ≤ ADDRESS_LIMIT → one ≡ count_from (line_has (passing (undurable_after fences) old)) a (z - a) → other ≡ count_from (line_has (passing unwritten old)) a (z - a) →
    AreCounted new fences (Some (record { undurable = totals.undurable + (z - a - one); unwritten = totals.unwritten + (z - a - other); from = totals.from; upto = totals.upto; stores = stores }))
unfolding passing
stored_totals old new place fences first size a z one other stores totals changes are some at_a at_z room ones others =
    let lates = stored_lines (undurable_after fences) old new first size a z (ADDRESS_LIMIT / 64) totals.undurable one (after_store place fences) (store-undurable place fences) changes some at_a at_z (omega arith) are.undurable ones in
    let lacks = stored_lines unwritten old new first size a z (ADDRESS_LIMIT / 64) totals.unwritten other (after_store place fences) (store-unwritten place fences) changes some at_a at_z (omega arith) are.unwritten others in
    some_counted new fences _ (record {
      undurable = lates.2;
      unwritten = lacks.2;
      dense = λ n low high. stored_line old new place fences first (first + size) n changes (are.dense n low high);
      past = λ b below. past_changed (written_back_past fences) old new first (first + size) (after_store place fences) b changes (λ s before. store-past place fences s) (are.past b below);
    })

-- the totals of a store fit
pub stored_fits : (passes : ByteState → Bool) (bytes : ByteMap) (a z total before : ℕ) → a ≤ z → z * 64 ≤ ADDRESS_LIMIT → total ≡ lines_with passes bytes → before ≡ count_from (line_has (passing passes bytes)) a (z - a) →
    (before ≤ z - a) × (total + (z - a - before) < 18446744073709551616)
stored_fits passes bytes a z total before ordered room totals befores =
    let few = count_upto (line_has (passing passes bytes)) a (z - a) in
    let most = count_upto (line_has (passing passes bytes)) 0 (ADDRESS_LIMIT / 64) in
    (omega arith, omega arith)

-- after a write-back
pub flushed_totals : (old new : ByteMap) (fences a z other stores : ℕ) (totals : Totals) → ChangesBetween (a * 64) (z * 64) (after_write_back fences) old new → AreTotals old fences totals →
    a ≤ z → z * 64 ≤ ADDRESS_LIMIT → other ≡ count_from (line_has (passing unwritten old)) a (z - a) →
    AreCounted new fences (Some (record { undurable = totals.undurable; unwritten = totals.unwritten - other; from = totals.from; upto = totals.upto; stores = stores }))
unfolding passing
flushed_totals old new fences a z other stores totals changes are ordered room others =
    let same = λ (b : ℕ). flushed_same old new fences (a * 64) (z * 64) b changes in
    some_counted new fences _ (record {
      undurable = are.undurable ∙ map_same (undurable_after fences) (undurable_after fences) old new (λ b. sym (same b)) (ADDRESS_LIMIT / 64);
      unwritten = flushed_lines unwritten old new a z (ADDRESS_LIMIT / 64) totals.unwritten other (after_write_back fences) (λ s. flushed-unwritten fences s.last s.opens s.written_back s.is_stored s.is_written_back s.excluded) changes ordered (omega arith) are.unwritten others;
      dense = λ n low high. sym (map_line (undurable_after fences) (undurable_after fences) old new n (λ b from upto. sym (same b))) ∙ are.dense n low high;
      past = λ b below. past_changed (written_back_past fences) old new (a * 64) (z * 64) (after_write_back fences) b changes
          (λ s before. flushed-past fences s.last s.opens s.written_back s.is_stored s.is_written_back s.excluded before) (are.past b below);
    })

-- ---- lines that are known to be not durable

pub known_more : (test : ℕ → Bool) (from upto first known next : ℕ) → AllHave test from upto → (first < known → from ≤ first) → (first < known → known ≤ upto) → AllHave test known next → AllHave test first next
known_more test from upto first known next all after before more n low high = elim (cases_lt n known) [
  | inl early ↦ let some : first < known = omega arith in let one = after some in let two = before some in all n (omega arith) (omega arith)
  | inr late ↦ more n late high
]

pub known_some : (test : ℕ → Bool) (from upto first known : ℕ) → AllHave test from upto → (first < known → from ≤ first) → (first < known → known ≤ upto) → AllHave test first known
known_some test from upto first known all after before = known_more test from upto first known known all after before (λ n low high. absurd (omega arith))

pub known_none : (test : ℕ → Bool) (first : ℕ) → AllHave test first first
known_none test first n low high = absurd (omega arith)

has_unless : (test : ℕ → Bool) (n : ℕ) → line_lacks test n ≡ false → line_has test n ≡ true
unfolding line_lacks
has_unless test n is = true_from_ne_false (line_has test n) (λ lacks. let bad : true ≡ false = sym (not_from_false (line_has test n) lacks) ∙ is in cc)

pub lacks_some : (test : ℕ → Bool) (first end line : ℕ) → Some line ≡ first_from (line_lacks test) first (end - first) → AllHave test first line
lacks_some test first end line found n low high = let least = first-passes (line_lacks test) first (end - first) line (sym found) in has_unless test n (least.before n low high)

pub lacks_none : (test : ℕ → Bool) (first end : ℕ) → None ≡ first_from (line_lacks test) first (end - first) → AllHave test first end
lacks_none test first end none n low high = has_unless test n (none-passes (line_lacks test) first (end - first) (sym none) n low (omega arith))

-- a search may begin behind lines that are known to fail
pub lacks_beyond : (test : ℕ → Bool) (first known end : ℕ) (found : Option ℕ) → first ≤ known → known ≤ end → AllHave test first known → found ≡ first_from (line_lacks test) known (end - known) →
    found ≡ first_from (line_lacks test) first (end - first)
lacks_beyond test first known end None from upto all is =
    none_before-end (line_lacks test) first end known (record { from = from; within = upto; fails = λ n low high. lacks-not test n (all n low high) }) (none-passes (line_lacks test) known (end - known) (sym is))
lacks_beyond test first known end (Some line) from upto all is =
    let least = first-passes (line_lacks test) known (end - known) line (sym is) in
    let low = least.from in
    let high = least.within in
    none_before-found (line_lacks test) first end known line (record { from = from; within = upto; fails = λ n low high. lacks-not test n (all n low high) }) low (omega arith) least.before least.passes

-- ---- nothing is left

-- where as many lines have a byte that passes the other test, none has one that passes the one alone
pub none_but : (test other : ℕ → Bool) (first n one two : ℕ) → ((b : ℕ) → other b ≡ true → test b ≡ true) → one ≡ count_from (line_has test) first n → two ≡ count_from (line_has other) first n → one ≡ two →
    None ≡ lines_at (line_has_but test other) first n
none_but test other first n one two weaker ones twos same =
    let counted = count-but test other first n one two weaker ones twos in
    none_at (line_has_but test other) first n (let left = counted.1 in omega arith)

-- where all lines have a byte that passes, none lacks one
pub none_lack : (test : ℕ → Bool) (first n with : ℕ) → with ≡ count_from (line_has test) first n → with ≡ n → None ≡ lines_at (line_lacks test) first n
none_lack test first n with counted all =
    let left = count-lacks test first n with counted in
    none_at (line_lacks test) first n (let others = left.1 in omega arith)

-- ---- a write-back of those lines alone that are not written back

settled-kept : (fences last opens w : ℕ) (is_stored is_written_back out : Bool) → unwritten (state_of last opens w is_stored is_written_back out) ≡ false →
    after_write_back fences (state_of last opens w is_stored is_written_back out) ≡ state_of last opens w is_stored is_written_back out
settled-kept fences last opens w is_stored is_written_back out is = grind arith

pub flushed_widely : (old new : ByteMap) (fences first end from upto : ℕ) → first ≤ from → from ≤ upto → upto ≤ end → ((line : ℕ) → first ≤ line → line < from → line_has (passing unwritten old) line ≡ false) →
    ((line : ℕ) → upto ≤ line → line < end → line_has (passing unwritten old) line ≡ false) → ChangesBetween (from * 64) (upto * 64) (after_write_back fences) old new → ChangesBetween (first * 64) (end * 64) (after_write_back fences) old new
unfolding passing
flushed_widely old new fences first end from upto low ordered high before behind changes = record {
  states = λ b. elim (cases_lt b (first * 64)) [
    | inl early ↦ state_outside old new (from * 64) (upto * 64) (after_write_back fences) b changes (λ x y. absurd (omega arith)) ∙ sym (apart b (λ x y. absurd (omega arith)))
    | inr after ↦ elim (cases_lt b (end * 64)) [
      | inr late ↦ state_outside old new (from * 64) (upto * 64) (after_write_back fences) b changes (λ x y. absurd (omega arith)) ∙ sym (apart b (λ x y. absurd (omega arith)))
      | inl inside ↦ elim (cases_lt b (from * 64)) [
        | inl passed ↦ state_outside old new (from * 64) (upto * 64) (after_write_back fences) b changes (λ x y. absurd (omega arith)) ∙ sym (settled b (before (b / 64) (omega arith) (omega arith))) ∙ sym (among b after inside)
        | inr here ↦ elim (cases_lt b (upto * 64)) [
          | inl within ↦ state_within old new (from * 64) (upto * 64) (after_write_back fences) b changes here within ∙ sym (among b after inside)
          | inr beyond ↦ state_outside old new (from * 64) (upto * 64) (after_write_back fences) b changes (λ x y. absurd (omega arith)) ∙ sym (settled b (behind (b / 64) (omega arith) (omega arith))) ∙ sym (among b after inside)
        ]
      ]
    ]
  ];
} where
  apart : (b : ℕ) → (first * 64 ≤ b → b < end * 64 → ⊥) → (if is_between (first * 64) (end * 64) b then after_write_back fences (state_at old b) else state_at old b) ≡ state_at old b
  apart b off = ap (λ t. if t then after_write_back fences (state_at old b) else state_at old b) (outside (first * 64) (end * 64) b off)

  among : (b : ℕ) → first * 64 ≤ b → b < end * 64 → (if is_between (first * 64) (end * 64) b then after_write_back fences (state_at old b) else state_at old b) ≡ after_write_back fences (state_at old b)
  among b from_first upto_end = ap (λ t. if t then after_write_back fences (state_at old b) else state_at old b) (within (first * 64) (end * 64) b from_first upto_end)

  settled : (b : ℕ) → line_has (λ k. unwritten (state_at old k)) (b / 64) ≡ false → after_write_back fences (state_at old b) ≡ state_at old b
  settled b lacks = let s = state_at old b in settled-kept fences s.last s.opens s.written_back s.is_stored s.is_written_back s.excluded (line_has-not (λ k. unwritten (state_at old k)) (b / 64) lacks b (omega arith) (omega arith))
