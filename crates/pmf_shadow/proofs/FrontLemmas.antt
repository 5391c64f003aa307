-- The states of bytes on lines in front and behind.
use Rattle.std.proofs.{Common.{◌≡◌, ℕ, ◌+◌, ◌-◌, ◌*◌, ◌/◌, ◌%◌, ◌<◌, ◌≤◌, zero, suc, List, [], ◌∷◌, length, get_or, Bool, nat_eq, nat_le, nat_lt, ◌&&◌, true, false, not, cond, if◌then◌else◌, refl, sym, ◌∙◌, ap, subst, All, arith, rules, inl, inr, Option, None, Some, is_some, IfSome, Result, OnOk, OnErr}, lemmas.Bool.{cases_eq, cases_lt, not-false}, lemmas.Bool.Decides.{nat_tests}, lemmas.List.{get_or_default}}
use Rattle.std.specs.{HashMap.{get, hash_map_len}, Map.{lookup}}
use Rattle.pmf_runs.specs.Ranks.{ChangesItems}
use Rattle.pmf_runs.specs.{declared.runs.RunMap.{RunMap}, declared.state.State.{Ghosts}}
use Rattle.pmf_event.{specs.Ranges.{first_from}, proofs.RangeLemmas.{none-passes}}
use Rattle.pmf_shadow.specs.{declared.byte.bounds.Bounds.{Bounds}, EqualStates.{is_like, equal_states}}
use Rattle.pmf_shadow.specs.{Bytes.{state_on, state_at, line_at, is_between, ChangesBetween, KeepsStates, IsLineOf, AreInFront, AreBehind}, Words.{HaveState}, declared.byte.ByteState.{ByteState}, declared.front.ByteMap.{ByteMap}, declared.line.Line.{Line}}
use Rattle.pmf_runs.specs.Runs as behind

-- the place of a byte's word on its line
pub word_within : (b : ℕ) → b % 64 / 8 < 8
word_within b = omega arith

pub at_front : (bytes : ByteMap) (line : Line) (b : ℕ) (d : ByteState) → line_at bytes b ≡ Some line → get_or line.words (b % 64 / 8) d ≡ state_at bytes b
unfolding state_at state_on
at_front bytes line b d is =
    let full = line.full in
    let within = word_within b in
    get_or_default line.words (b % 64 / 8) d (behind.state_at bytes.behind b) (omega arith) ∙ sym (ap (λ o. state_on o (behind.state_at bytes.behind) b) is)

pub at_behind : (bytes : ByteMap) (b : ℕ) → line_at bytes b ≡ None → behind.state_at bytes.behind b ≡ state_at bytes b
unfolding state_at state_on
at_behind bytes b is = sym (ap (λ o. state_on o (behind.state_at bytes.behind) b) is)

pub gap_is : (bytes : ByteMap) (gap : ByteState) (b : ℕ) → line_at bytes b ≡ None → behind.state_at bytes.behind b ≡ gap → state_at bytes b ≡ gap
gap_is bytes gap b none is = sym (at_behind bytes b none) ∙ is

pub same_state : (old new : ByteMap) (b : ℕ) → line_at new b ≡ line_at old b → new.behind ≡ old.behind → state_at new b ≡ state_at old b
unfolding state_at
same_state old new b lines behind_same = ap (λ o. state_on o (behind.state_at new.behind) b) lines ∙ ap (λ runs. state_on (line_at old b) (behind.state_at runs) b) behind_same

pub nat_eq-true : (a b : ℕ) → a ≡ b → nat_eq a b ≡ true
nat_eq-true a b is = search (rules, arith)

pub nat_eq-false : (a b : ℕ) → (a ≡ b → ⊥) → nat_eq a b ≡ false
nat_eq-false a b other = search (rules, arith)

-- the bytes from one word up to another of a line
pub between_words : (line from upto b : ℕ) → b / 64 ≡ line → is_between (64 * line + 8 * from) (64 * line + 8 * upto) b ≡ (nat_le from (b % 64 / 8) && nat_lt (b % 64 / 8) upto)
unfolding is_between
between_words line from upto b on = grind (arith, nat_tests)

pub not_between : (line from upto b : ℕ) → (b / 64 ≡ line → ⊥) → upto ≤ 8 → is_between (64 * line + 8 * from) (64 * line + 8 * upto) b ≡ false
unfolding is_between
not_between line from upto b off within = grind (arith, nat_tests)

-- words of a line in front are changed
pub on_changed : (old new : ByteMap) (line from upto : ℕ) (change : ByteState → ByteState) (was now : Line) → get nat_eq old.front line ≡ Some was →
    ((q : ℕ) → get nat_eq new.front q ≡ cond (nat_eq line q) (Some now) (get nat_eq old.front q)) → new.behind ≡ old.behind → upto ≤ 8 → ChangesItems from upto change was.words now.words →
    ChangesBetween (64 * line + 8 * from) (64 * line + 8 * upto) change old new
on_changed old new line from upto change was now has updates behind_same within changes = record {
  states = λ b. elim (cases_eq (b / 64) line) [
    | inl here ↦ on b here
    | inr other ↦ off b other
  ];
} where
  on : (b : ℕ) → b / 64 ≡ line → state_at new b ≡ (if is_between (64 * line + 8 * from) (64 * line + 8 * upto) b then change (state_at old b) else state_at old b)
  on b here =
      let full = was.full in
      let inside = word_within b in
      let there : line_at new b ≡ Some now = updates (b / 64) ∙ ap (λ t. cond t (Some now) (get nat_eq old.front (b / 64))) (nat_eq-true line (b / 64) (sym here)) in
      let before : line_at old b ≡ Some was = ap (get nat_eq old.front) here ∙ has in
      let k = b % 64 / 8 in
      sym (at_front new now b (state_at old b) there) ∙ changes.items k (state_at old b) (omega arith)
      ∙ ap (λ s. if nat_le from k && nat_lt k upto then change s else s) (at_front old was b (state_at old b) before)
      ∙ ap (λ t. if t then change (state_at old b) else state_at old b) (sym (between_words line from upto b here))

  off : (b : ℕ) → (b / 64 ≡ line → ⊥) → state_at new b ≡ (if is_between (64 * line + 8 * from) (64 * line + 8 * upto) b then change (state_at old b) else state_at old b)
  off b other =
      let same : line_at new b ≡ line_at old b = updates (b / 64) ∙ ap (λ t. cond t (Some now) (get nat_eq old.front (b / 64))) (nat_eq-false line (b / 64) (λ is. other (sym is))) in
      same_state old new b same behind_same ∙ ap (λ t. if t then change (state_at old b) else state_at old b) (sym (not_between line from upto b other within))

-- all words of a line have one state
one_word : (s : ByteState) (k : ℕ) (d : ByteState) → k < 8 → get_or (s ∷ s ∷ s ∷ s ∷ s ∷ s ∷ s ∷ s ∷ []) k d ≡ s
one_word s zero d within = refl
one_word s (suc zero) d within = refl
one_word s (suc (suc zero)) d within = refl
one_word s (suc (suc (suc zero))) d within = refl
one_word s (suc (suc (suc (suc zero)))) d within = refl
one_word s (suc (suc (suc (suc (suc zero))))) d within = refl
one_word s (suc (suc (suc (suc (suc (suc zero)))))) d within = refl
one_word s (suc (suc (suc (suc (suc (suc (suc zero))))))) d within = refl
one_word s (suc (suc (suc (suc (suc (suc (suc (suc k)))))))) d within = absurd (omega arith)

pub line_of_one : (states : ℕ → ByteState) (number : ℕ) (s : ByteState) (line : Line) → HaveState states (64 * number) (64 * number + 64) s → line.words ≡ s ∷ s ∷ s ∷ s ∷ s ∷ s ∷ s ∷ s ∷ [] → IsLineOf states number line
unfolding state_on
line_of_one states number s line same words = record {
  is = λ b on.
      ap (λ ws. get_or ws (b % 64 / 8) (states b)) words ∙ one_word s (b % 64 / 8) (states b) (word_within b) ∙ sym (same.each b (omega arith) (omega arith));
}

-- a line is taken in front
pub taken : (old new : ByteMap) (number : ℕ) (line : Line) → get nat_eq old.front number ≡ None → IsLineOf (behind.state_at old.behind) number line →
    ((q : ℕ) → get nat_eq new.front q ≡ cond (nat_eq number q) (Some line) (get nat_eq old.front q)) → new.behind ≡ old.behind → KeepsStates old new
unfolding state_at
taken old new number line none is updates behind_same = record {
  states = λ b. elim (cases_eq (b / 64) number) [
    | inl here ↦ on b here
    | inr other ↦ same_state old new b (updates (b / 64) ∙ ap (λ t. cond t (Some line) (get nat_eq old.front (b / 64))) (nat_eq-false number (b / 64) (λ same. other (sym same)))) behind_same
  ];
} where
  on : (b : ℕ) → b / 64 ≡ number → state_at new b ≡ state_at old b
  on b here =
      let there : line_at new b ≡ Some line = updates (b / 64) ∙ ap (λ t. cond t (Some line) (get nat_eq old.front (b / 64))) (nat_eq-true number (b / 64) (sym here)) in
      let before : line_at old b ≡ None = ap (get nat_eq old.front) here ∙ none in
      ap (λ o. state_on o (behind.state_at new.behind) b) there ∙ ap (λ runs. state_on (Some line) (behind.state_at runs) b) behind_same ∙ is.is b here ∙ at_behind old b before

pub unchanged : (old new : ByteMap) → new.front.entries ≡ old.front.entries → new.behind ≡ old.behind → KeepsStates old new
unchanged old new entries behind_same = record { states = λ b. same_state old new b (ap (λ es. lookup (nat_eq (b / 64)) es) entries) behind_same }

pub absent : (o : Option Line) → false ≡ is_some o → o ≡ None
absent o none = grind arith

-- ---- a line is put behind

on_same : (o : Option Line) (f g : ℕ → ByteState) (b : ℕ) → f b ≡ g b → state_on o f b ≡ state_on o g b
unfolding state_on
on_same None f g b is = is
on_same (Some line) f g b is = ap (get_or line.words (b % 64 / 8)) is

words_are : (line from upto b : ℕ) → b / 64 ≡ line → from ≤ b % 64 / 8 → b % 64 / 8 < upto → behind.is_between (64 * line + 8 * from) (64 * line + 8 * upto) b ≡ true
unfolding behind.is_between
words_are line from upto b on low high = grind (arith, nat_tests)

words_other : (line from upto b : ℕ) → (b / 64 ≡ line → from ≤ b % 64 / 8 → b % 64 / 8 < upto → ⊥) → upto ≤ 8 → behind.is_between (64 * line + 8 * from) (64 * line + 8 * upto) b ≡ false
unfolding behind.is_between
words_other line from upto b other within = grind (arith, nat_tests)

pub pushed_others : {laws : Ghosts ByteState Bounds} (old new : RunMap ByteState Bounds laws) (line from upto : ℕ) (change : ByteState → ByteState) → upto ≤ 8 →
    behind.ChangesBetween (64 * line + 8 * from) (64 * line + 8 * upto) change old new → (b : ℕ) → (b / 64 ≡ line → ⊥) → behind.state_at new b ≡ behind.state_at old b
pushed_others old new line from upto change within changes b other =
    changes.states b ∙ ap (λ t. if t then change (behind.state_at old b) else behind.state_at old b) (words_other line from upto b (λ here low high. other here) within)

pub pushed_more : (old new : ℕ → ByteState) (line from upto : ℕ) (found : Line) (s d : ByteState) → ((k : ℕ) → from ≤ k → k < upto → get_or found.words k d ≡ s) → upto ≤ 8 →
    ((b : ℕ) → new b ≡ (if behind.is_between (64 * line + 8 * from) (64 * line + 8 * upto) b then s else old b)) →
    ((b : ℕ) → b / 64 ≡ line → b % 64 / 8 < from → old b ≡ get_or found.words (b % 64 / 8) (old b)) →
    (b : ℕ) → b / 64 ≡ line → b % 64 / 8 < upto → new b ≡ get_or found.words (b % 64 / 8) (new b)
pushed_more old new line from upto found s d read within changes so_far b here high =
    let full = found.full in
    let inside = word_within b in
    elim (cases_lt (b % 64 / 8) from) [
      | inl before ↦
          changes b ∙ ap (λ t. if t then s else old b) (words_other line from upto b (λ on low high. omega arith) within) ∙ so_far b here before ∙ get_or_default found.words (b % 64 / 8) (old b) (new b) (omega arith)
      | inr low ↦
          changes b ∙ ap (λ t. if t then s else old b) (words_are line from upto b here low high) ∙ sym (read (b % 64 / 8) low high) ∙ get_or_default found.words (b % 64 / 8) d (new b) (omega arith)
    ]

-- the words that were not put behind yet have the state that all had
pub even_begins : (even : Option ByteState) (states : ℕ → ByteState) (line : ℕ) → IfSome even (HaveState states (64 * line) (64 * line + 64)) → IfSome even (HaveState states (64 * line + 8 * 0) (64 * line + 64))
even_begins None states line have = have
even_begins (Some s) states line have = record { each = λ b low high. have.each b (omega arith) high }

past_end : (first end b : ℕ) → end ≤ b → behind.is_between first end b ≡ false
unfolding behind.is_between
past_end first end b past = grind (arith, nat_tests)

pub even_goes_on : (even : Option ByteState) (old new : ℕ → ByteState) (line from upto : ℕ) (s : ByteState) → from ≤ upto → ((b : ℕ) → new b ≡ (if behind.is_between (64 * line + 8 * from) (64 * line + 8 * upto) b then s else old b)) →
    IfSome even (HaveState old (64 * line + 8 * from) (64 * line + 64)) → IfSome even (HaveState new (64 * line + 8 * upto) (64 * line + 64))
even_goes_on None old new line from upto s up changes have = have
even_goes_on (Some one) old new line from upto s up changes have = record {
  each = λ b low high.
      changes b ∙ ap (λ t. if t then s else old b) (past_end (64 * line + 8 * from) (64 * line + 8 * upto) b low) ∙ have.each b (omega arith) high;
}

pub all_pushed : (states : ℕ → ByteState) (line word : ℕ) (found : Line) → 8 ≤ word → ((b : ℕ) → b / 64 ≡ line → b % 64 / 8 < word → states b ≡ get_or found.words (b % 64 / 8) (states b)) → IsLineOf states line found
unfolding state_on
all_pushed states line word found most so_far = record { is = λ b here. let inside = word_within b in sym (so_far b here (omega arith)) }

-- the states of a line in front are put behind, too
pub put_too : (old new : ByteMap) (line : ℕ) (found : Line) → get nat_eq old.front line ≡ Some found → new.front ≡ old.front → ((b : ℕ) → (b / 64 ≡ line → ⊥) → behind.state_at new.behind b ≡ behind.state_at old.behind b) → KeepsStates old new
unfolding state_at
put_too old new line found has front others = record {
  states = λ b. elim (cases_eq (b / 64) line) [
    | inl here ↦
        let before : line_at old b ≡ Some found = ap (get nat_eq old.front) here ∙ has in
        let after : line_at new b ≡ Some found = ap (λ m. get nat_eq m (b / 64)) front ∙ before in
        sym (at_front new found b (behind.state_at old.behind b) after) ∙ at_front old found b (behind.state_at old.behind b) before
    | inr other ↦ ap (λ m. state_on (get nat_eq m (b / 64)) (behind.state_at new.behind) b) front ∙ on_same (line_at old b) (behind.state_at new.behind) (behind.state_at old.behind) b (others b other)
  ];
}

pub nothing_in_front : (bytes : ByteMap) (line : ℕ) → hash_map_len bytes.front ≡ 0 → get nat_eq bytes.front line ≡ None
nothing_in_front bytes line none = nothing bytes.front.entries none where
  nothing : (es : List (ℕ × Line)) → length es ≡ 0 → lookup (nat_eq line) es ≡ None
  nothing [] none = refl
  nothing (e ∷ es) none = absurd (omega arith)

pub no_line : (bytes : ByteMap) (b : ℕ) → hash_map_len bytes.front ≡ 0 → line_at bytes b ≡ None
no_line bytes b none = nothing_in_front bytes (b / 64) none

kept_behind_at : (old new : ByteMap) (b : ℕ) → new.front ≡ old.front → behind.state_at new.behind b ≡ behind.state_at old.behind b → state_at new b ≡ state_at old b
unfolding state_at
kept_behind_at old new b front same = ap (λ m. state_on (get nat_eq m (b / 64)) (behind.state_at new.behind) b) front ∙ on_same (line_at old b) (behind.state_at new.behind) (behind.state_at old.behind) b same

one_value : (a b : Line) → Some a ≡ Some b → a ≡ b
one_value a b is = grind arith

none_or_some : (line : Line) → None ≡ Some line → ⊥
none_or_some line is = grind arith

-- the states of the words of one more line are put behind
pub put_more : (find : ℕ → Option Line) (old new : ℕ → ByteState) (number : ℕ) (line : Line) (rest : List (ℕ × Line)) → find number ≡ Some line → IsLineOf new number line → ((b : ℕ) → (b / 64 ≡ number → ⊥) → new b ≡ old b) →
    ((q : ℕ) (l : Line) → find q ≡ Some l → lookup (nat_eq q) ((number, line) ∷ rest) ≡ None → IsLineOf old q l) →
    (q : ℕ) (l : Line) → find q ≡ Some l → lookup (nat_eq q) rest ≡ None → IsLineOf new q l
put_more find old new number line rest has put others before q l is none = elim (cases_eq q number) [
  | inl here ↦ subst (λ n. IsLineOf new n l) (sym here) (subst (IsLineOf new number) (one_value line l (sym has ∙ ap find (sym here) ∙ is)) put)
  | inr other ↦
      let was = before q l is (ap (λ t. cond t (Some line) (lookup (nat_eq q) rest)) (nat_eq-false q number other) ∙ none) in
      record { is = λ b on. let same = others b (λ e. other (sym on ∙ e)) in on_same (Some l) new old b same ∙ was.is b on ∙ sym same }
]

pub others_as_before : (find : ℕ → Option Line) (old new : ℕ → ByteState) (number : ℕ) (line : Line) → find number ≡ Some line → ((b : ℕ) → (b / 64 ≡ number → ⊥) → new b ≡ old b) → (b : ℕ) → find (b / 64) ≡ None → new b ≡ old b
others_as_before find old new number line has others b none = others b (λ here. absurd (none_or_some line (sym none ∙ ap find here ∙ has)))

pub all_later : (P : ℕ × Line → Type 0) (e : ℕ × Line) (rest : List (ℕ × Line)) → All P (e ∷ rest) → All P rest
all_later P e rest all = λ k d within. all (suc k) d (omega arith)

-- some lines in front are put behind, too
pub some_put : (old new : ByteMap) → new.front ≡ old.front → ((b : ℕ) → line_at old b ≡ None → behind.state_at new.behind b ≡ behind.state_at old.behind b) → KeepsStates old new
some_put old new front others = record { states = λ b. go b (line_at old b) refl } where
  go : (b : ℕ) (o : Option Line) → line_at old b ≡ o → state_at new b ≡ state_at old b
  go b None none = kept_behind_at old new b front (others b none)
  go b (Some line) has = sym (at_front new line b (state_at old b) (ap (λ m. get nat_eq m (b / 64)) front ∙ has)) ∙ at_front old line b (state_at old b) has

-- all lines are put behind
pub all_put : (old new : ByteMap) → ((q : ℕ) (line : Line) → get nat_eq old.front q ≡ Some line → IsLineOf (behind.state_at new.behind) q line) → ((b : ℕ) → line_at old b ≡ None → behind.state_at new.behind b ≡ behind.state_at old.behind b) →
    hash_map_len new.front ≡ 0 → KeepsStates old new
unfolding state_on
all_put old new put others none = record { states = λ b. go b (line_at old b) refl } where
  go : (b : ℕ) (o : Option Line) → line_at old b ≡ o → state_at new b ≡ state_at old b
  go b None was = sym (at_behind new b (no_line new b none)) ∙ others b was ∙ at_behind old b was
  go b (Some line) has = sym (at_behind new b (no_line new b none)) ∙ sym ((put (b / 64) line has).is b refl) ∙ at_front old line b (behind.state_at new.behind b) has

-- a line whose words are behind is taken out of the front
pub taken_out : (old new : ByteMap) (line : ℕ) (found : Line) → get nat_eq old.front line ≡ Some found → IsLineOf (behind.state_at old.behind) line found →
    ((q : ℕ) → get nat_eq new.front q ≡ cond (nat_eq line q) None (get nat_eq old.front q)) → new.behind ≡ old.behind → KeepsStates old new
unfolding state_at
taken_out old new line found has is updates behind_same = record {
  states = λ b. elim (cases_eq (b / 64) line) [
    | inl here ↦
        let after : line_at new b ≡ None = updates (b / 64) ∙ ap (λ t. cond t None (get nat_eq old.front (b / 64))) (nat_eq-true line (b / 64) (sym here)) in
        let before : line_at old b ≡ Some found = ap (get nat_eq old.front) here ∙ has in
        sym (at_behind new b after) ∙ ap (λ runs. behind.state_at runs b) behind_same ∙ sym (is.is b here) ∙ ap (λ o. state_on o (behind.state_at old.behind) b) (sym before)
    | inr other ↦ same_state old new b (updates (b / 64) ∙ ap (λ t. cond t None (get nat_eq old.front (b / 64))) (nat_eq-false line (b / 64) (λ same. other (sym same)))) behind_same
  ];
}

pub kept_behind : (old new : ByteMap) → new.front ≡ old.front → behind.KeepsStates old.behind new.behind → KeepsStates old new
kept_behind old new front kept = record { states = λ b. kept_behind_at old new b front (kept.states b) }

pub keeps_both : (a b c : ByteMap) → KeepsStates a b → KeepsStates b c → KeepsStates a c
keeps_both a b c one two = record { states = λ n. two.states n ∙ one.states n }

pub keeps_itself : (a : ByteMap) → KeepsStates a a
keeps_itself a = record { states = λ b. refl }

-- ---- changes

pub on_ok : {A E : Type 0} {P Q : Type 0} (r : Result A E) → (P → Q) → OnOk r P → OnOk r Q
on_ok r more holds = grind arith

pub on_err : {A E : Type 0} {P Q : Type 0} (r : Result A E) → (P → Q) → OnErr r P → OnErr r Q
on_err r more holds = grind arith

pub always_err : {A E : Type 0} {P : Type 0} (r : Result A E) → P → OnErr r P
always_err r holds = grind arith

between_none : (first end b : ℕ) → end ≤ first → is_between first end b ≡ false
unfolding is_between
between_none first end b none = grind (arith, nat_tests)

pub changes_none : (a : ByteMap) (first end : ℕ) (change : ByteState → ByteState) → end ≤ first → ChangesBetween first end change a a
changes_none a first end change none = record { states = λ b. ap (λ t. if t then change (state_at a b) else state_at a b) (sym (between_none first end b none)) }

between_first : (first at stop b : ℕ) → first ≤ at → at ≤ stop → b < at → is_between first stop b ≡ is_between first at b
unfolding is_between
between_first first at stop b from upto below = grind (arith, nat_tests)

between_then : (first at stop b : ℕ) → first ≤ at → at ≤ stop → at ≤ b → is_between first stop b ≡ is_between at stop b
unfolding is_between
between_then first at stop b from upto above = grind (arith, nat_tests)

between_below : (first end b : ℕ) → b < first → is_between first end b ≡ false
unfolding is_between
between_below first end b below = grind (arith, nat_tests)

between_above : (first end b : ℕ) → end ≤ b → is_between first end b ≡ false
unfolding is_between
between_above first end b above = grind (arith, nat_tests)

-- a range is changed up to a number, and from there on
pub changes_then : (a b c : ByteMap) (first at stop : ℕ) (change : ByteState → ByteState) → first ≤ at → at ≤ stop → ChangesBetween first at change a b → ChangesBetween at stop change b c → ChangesBetween first stop change a c
changes_then a b c first at stop change from upto one two = record {
  states = λ n. elim (cases_lt n at) [
    | inl below ↦
        two.states n ∙ ap (λ t. if t then change (state_at b n) else state_at b n) (between_below at stop n below) ∙ one.states n
        ∙ ap (λ t. if t then change (state_at a n) else state_at a n) (sym (between_first first at stop n from upto below))
    | inr above ↦
        let same : state_at b n ≡ state_at a n = one.states n ∙ ap (λ t. if t then change (state_at a n) else state_at a n) (between_above first at n above) in
        two.states n ∙ ap (λ s. if is_between at stop n then change s else s) same ∙ ap (λ t. if t then change (state_at a n) else state_at a n) (sym (between_then first at stop n from upto above))
  ];
}

between_in : (first end b : ℕ) → first ≤ b → b < end → is_between first end b ≡ true
unfolding is_between
between_in first end b low high = grind (arith, nat_tests)

-- words that have the state behind need not be put there
pub none_put : {laws : Ghosts ByteState Bounds} (runs : RunMap ByteState Bounds laws) (first end upto : ℕ) (s : ByteState) → end ≤ upto → HaveState (behind.state_at runs) first upto s → behind.ChangesBetween first end (λ other. s) runs runs
unfolding is_between behind.is_between
none_put runs first end upto s within have = record {
  states = λ b. elim (cases_lt b first) [
    | inl below ↦ ap (λ t. if t then s else behind.state_at runs b) (sym (between_below first end b below))
    | inr low ↦ elim (cases_lt b end) [
      | inl high ↦ have.each b low (omega arith) ∙ ap (λ t. if t then s else behind.state_at runs b) (sym (between_in first end b low high))
      | inr above ↦ ap (λ t. if t then s else behind.state_at runs b) (sym (between_above first end b above))
    ]
  ];
}

pub all_behind : (bytes : ByteMap) (first last : ℕ) → hash_map_len bytes.front ≡ 0 → AreBehind bytes first last
all_behind bytes first last none = record { each = λ line low high. nothing_in_front bytes line none }

pub stays_none : (o : Option Line) (t : Bool) → o ≡ None → cond t None o ≡ None
stays_none o t none = grind arith

-- where no line of a range is in front, the map of runs is changed
pub behind_changed : (old settled new : ByteMap) (first end : ℕ) (change : ByteState → ByteState) → KeepsStates old settled → AreBehind settled (first / 64) ((end - 1) / 64) → new.front ≡ settled.front →
    behind.ChangesBetween first end change settled.behind new.behind → ChangesBetween first end change old new
unfolding is_between behind.is_between
behind_changed old settled new first end change kept none front changes = record {
  states = λ b. elim (cases_lt b first) [
    | inl below ↦ off b (between_below first end b below)
    | inr low ↦ elim (cases_lt b end) [
      | inl high ↦ on b low high
      | inr above ↦ off b (between_above first end b above)
    ]
  ];
} where
  on : (b : ℕ) → first ≤ b → b < end → state_at new b ≡ (if is_between first end b then change (state_at old b) else state_at old b)
  on b low high =
      let no : line_at settled b ≡ None = none.each (b / 64) (omega arith) (omega arith) in
      let before = at_behind settled b no in
      let after = at_behind new b (ap (λ m. get nat_eq m (b / 64)) front ∙ no) in
      sym after ∙ changes.states b ∙ ap (λ s. if is_between first end b then change s else s) (before ∙ kept.states b)

  off : (b : ℕ) → is_between first end b ≡ false → state_at new b ≡ (if is_between first end b then change (state_at old b) else state_at old b)
  off b outside =
      let same : behind.state_at new.behind b ≡ behind.state_at settled.behind b = changes.states b ∙ ap (λ t. if t then change (behind.state_at settled.behind b) else behind.state_at settled.behind b) outside in
      (kept_behind_at settled new b front same ∙ kept.states b) ∙ ap (λ t. if t then change (state_at old b) else state_at old b) (sym outside)

pub kept_changed : (a b c : ByteMap) (first end : ℕ) (change : ByteState → ByteState) → KeepsStates a b → ChangesBetween first end change b c → ChangesBetween first end change a c
kept_changed a b c first end change kept changes = record { states = λ n. changes.states n ∙ ap (λ s. if is_between first end n then change s else s) (kept.states n) }

pub there_kept : (old new : ByteMap) (first last : ℕ) → ((b : ℕ) → is_some (line_at new b) ≡ is_some (line_at old b)) → AreInFront old first last → AreInFront new first last
there_kept old new first last same there = record {
  each = λ line from upto.
      let number : 64 * line / 64 ≡ line = omega arith in
      ap (λ n. is_some (get nat_eq new.front n)) (sym number) ∙ same (64 * line) ∙ ap (λ n. is_some (get nat_eq old.front n)) number ∙ there.each line from upto;
}

-- the range that is changed on one line
pub one_line : (a b c : ByteMap) (first at stop end : ℕ) (change : ByteState → ByteState) → first ≤ at → at ≤ stop → at % 8 ≡ 0 → stop % 8 ≡ 0 → ChangesBetween first at change a b →
    ChangesBetween (64 * (at / 64) + 8 * (at % 64 / 8)) (64 * (at / 64) + 8 * (at % 64 / 8 + (stop - at) / 8)) change b c → ChangesBetween first stop change a c
one_line a b c first at stop end change from upto word ends one two =
    let low : 64 * (at / 64) + 8 * (at % 64 / 8) ≡ at = omega arith in
    let high : 64 * (at / 64) + 8 * (at % 64 / 8 + (stop - at) / 8) ≡ stop = omega arith in
    changes_then a b c first at stop change from upto one (subst (λ n. ChangesBetween at n change b c) high (subst (λ n. ChangesBetween n (64 * (at / 64) + 8 * (at % 64 / 8 + (stop - at) / 8)) change b c) low two))

-- where no byte of a range has another state, all have this one
pub one_state : {laws : Ghosts ByteState Bounds} (runs : RunMap ByteState Bounds laws) (state : ByteState) (first n : ℕ) → first_from (behind.passing (λ s. not (is_like s state)) runs) first n ≡ None → (b : ℕ) → first ≤ b → b < first + n → behind.state_at runs b ≡ state
unfolding behind.passing
one_state runs state first n none b low high =
    equal_states (behind.state_at runs b) state (not-false (is_like (behind.state_at runs b) state) (none-passes (λ b. not (is_like (behind.state_at runs b) state)) first n none b low high))
