-- What is asked of the past of a part, run by run.
use Rattle.std.proofs.{Common.{◌≡◌, ℕ, ◌+◌, ◌-◌, ◌<◌, ◌≤◌, Bool, true, false, not, ◌&&◌, nat_le, if◌then◌else◌, List, refl, sym, ◌∙◌, ap, arith, inl, inr, Option, Some, None, IfSome, unwrap_or, is_some, is_none, le-leb, lt-ltb}, lemmas.Bool.{cases_lt, and_from}}
use Rattle.pmf_event.{specs.declared.event.Event.{Event}, specs.Span.{Extent, covers_byte}, specs.Ranges.{first_from, first_byte}, specs.Store.{last_store}, specs.Exclusion.{is_excluded}, specs.Persist.{is_checked}, proofs.LineLemmas.{covers-bounds}, proofs.RangeLemmas.{none-from, none-passes, first-passes}}
use Rattle.pmf_shadow.specs.{declared.shadow.Shadow.{Shadow}, declared.standing.Standing.{Standing}, Shadow.{StandsFor, ForEachList}, Standing.{AllStandSo, NoneStored}}
use Rattle.pmf_runs.specs.Runs.{state_at, passing, is_between, ChangesBetween}
use Rattle.pmf_cut.{specs.declared.lost.Past.{Past}, specs.declared.part.Part.{Part}, specs.Behind.{SameBytes}, specs.Lost.{Adds, HasOld, IsPast, KnowsByte, NoneOld, Puts, NoneTold, Knows, is_unknown, is_within, is_told_again}, proofs.ComparingLemmas.{place-is, place-none}, proofs.RowLemmas.{checked-parts, checked-from}}

-- no byte before the first that is found is a member
pub none-member : (past : Past) (first end : ℕ) (o : Option ℕ) → o ≡ first_from (passing (λ (v : Bool). v) past.bytes) first (end - first) →
    (b : ℕ) → first ≤ b → b < unwrap_or o end → state_at past.bytes b ≡ false
unfolding passing
none-member past first end None is b low high = none-passes (λ b. state_at past.bytes b) first (end - first) (sym is) b low (omega arith)
none-member past first end (Some k) is b low high = (first-passes (λ b. state_at past.bytes b) first (end - first) k (sym is)).before b low high

pub member-lies : (past : Past) (first end : ℕ) (o : Option ℕ) → o ≡ first_from (passing (λ (v : Bool). v) past.bytes) first (end - first) → IfSome o (λ k. (first ≤ k) × (k < end))
unfolding passing
member-lies past first end v3 is = grind (arith, first-passes)

pub member-within : (o : Option ℕ) (first end : ℕ) → IfSome o (λ k. (first ≤ k) × (k < end)) → unwrap_or o end ≤ end
member-within v0 first end lies = grind arith

-- nor one that a part knows a store of, where its shadow has none
pub none-known : (part : Part) (first until : ℕ) → ForEachList part.shadow (λ told es p. NoneStored es p first until) → (b : ℕ) → first ≤ b → b < until → KnowsByte (Some part) b → ⊥
none-known part first until none b low high known =
    let zero_is = none (λ k. k) known.0 known.1 known.2.shadow b low high in let some = known.3 in omega arith

pub none-past : (past : Past) (first until : ℕ) → ((b : ℕ) → first ≤ b → b < until → state_at past.bytes b ≡ false) →
    ((b : ℕ) → first ≤ b → b < until → KnowsByte past.last b → ⊥) → (b : ℕ) → first ≤ b → b < until → IsPast past b → ⊥
none-past past first until none unknown b low high v8 = grind arith

-- a member stays one where a range is put in, and the range's bytes are members
pub put-kept : (old new : Past) (first end : ℕ) → ChangesBetween first end (λ v. true) old.bytes new.bytes → (b : ℕ) → state_at old.bytes b ≡ true → state_at new.bytes b ≡ true
put-kept old new first end changes b is = changes.states b ∙ elim (is_between first end b) as (λ v. (if v then true else state_at old.bytes b) ≡ true) [ true ↦ refl | false ↦ is ]

pub put-new : (old new : Past) (first end : ℕ) → ChangesBetween first end (λ v. true) old.bytes new.bytes → (b : ℕ) → first ≤ b → b < end → state_at new.bytes b ≡ true
unfolding is_between
put-new old new first end changes b low high = changes.states b ∙ ap (λ v. if v then true else state_at old.bytes b) (and_from _ _ (le-leb first b low) (lt-ltb b end high))

-- a part is added: it is the last one from now on, and what was the last one, if there was one, was put to the others
abbrev HasSame : Past → Past → Type 0
HasSame old new = (b : ℕ) → state_at new.bytes b ≡ state_at old.bytes b

pub add_first : (old new : Past) (part : Part) → old.last ≡ None → HasSame old new → new.last ≡ Some part → Adds old new part
add_first old new part none same last fs m stands b v10 = grind arith

pub add_next : (old mid new : Past) (ended part : Part) → old.last ≡ Some ended → HasSame old mid → mid.last ≡ Some part → Puts mid new ended → Adds old new part
add_next old mid new ended part was same last puts fs m stands b v13 = grind arith

-- no byte is old from a place on where none is a member
pub none-old-rest : (past : Past) (shadow : Shadow) (first at end : ℕ) → at ≤ end → ((b : ℕ) → at ≤ b → b < end → IsPast past b → ⊥) → NoneOld past shadow first at → NoneOld past shadow first end
none-old-rest past shadow first at end within none before fs m stands b low high old = grind arith

-- nor where a run of members is known or excluded
pub none-old-run : (past : Past) (shadow : Shadow) (first at byte until : ℕ) (s : Standing) → ((b : ℕ) → at ≤ b → b < byte → IsPast past b → ⊥) →
    ForEachList shadow (λ told es p. AllStandSo told es p byte until s) → is_unknown s ≡ false → NoneOld past shadow first at → NoneOld past shadow first until
none-old-run past shadow first at byte until s between stands not_old before fs m is b low high old = elim (cases_lt b at) [
  | inl early ↦ before fs m is b low early old
  | inr late ↦ elim (cases_lt b byte) [
    | inl outside ↦ absurd (between b late outside old.member)
    | inr inside ↦
        let so = stands (λ k. k) fs m is b inside high in
        elim s.excluded as (λ v. s.excluded ≡ v → (is_none s.last && not v) ≡ false → is_excluded fs m b ≡ true) [
          | true ↦ λ out any. sym so.excluded ∙ out
          | false ↦ grind arith
        ] refl not_old
  ]
]

-- a place that is not one of the first lies behind them
late-from : (head k : ℕ) (s : Standing) → s.excluded ≡ false → (nat_le k head && not s.excluded) ≡ false → head < k
late-from head k s kept not_told = grind arith

-- a run that was stored to behind the head, or that is excluded
pub none-told-run : (shadow : Shadow) (head first at until : ℕ) (s : Standing) → ForEachList shadow (λ told es p. AllStandSo told es p at until s) →
    is_told_again head s ≡ false → NoneTold shadow head first at → NoneTold shadow head first until
none-told-run shadow head first at until s stands not_told before fs m is b low high kept some = elim (cases_lt b at) [
  | inl early ↦ before fs m is b low early kept some
  | inr here ↦
      let so = stands (λ k. k) fs m is b here high in
      elim s.last as (λ o. s.last ≡ o → head < last_store fs m b) [
        | None ↦ λ none. let zero_is = place-none (last_store fs m b) (sym none ∙ so.last) in absurd (omega arith)
        | Some k ↦ λ there. let place = place-is (last_store fs m b) k (sym there ∙ so.last) in let behind = late-from head k s (so.excluded ∙ kept) (ap (λ o. is_within head o && not s.excluded) (sym there) ∙ not_told) in omega arith
      ] refl
]

-- ---- the pairs that a part knows

none-checked : (shadow : Shadow) (fs : List Event) (m : ℕ) (s : Extent) → is_some (first_byte (is_checked fs m) s) ≡ false → (b : ℕ) → covers_byte s b ≡ true → is_checked fs m b ≡ false
none-checked shadow fs m s none b inside =
    let bounds = covers-bounds s b inside in none-passes (is_checked fs m) s.first s.size (none-from (first_byte (is_checked fs m) s) none) b bounds.0 bounds.1

-- a checked byte of a span without old ones is known
known-from : (past : Past) (shadow : Shadow) (es : List Event) (n : ℕ) (fs : List Event) (m : ℕ) (s : Extent) → SameBytes es n fs m → HasOld past es n fs m → StandsFor shadow (λ k. k) fs m →
    NoneOld past shadow s.first (s.first + s.size) → (b : ℕ) → covers_byte s b ≡ true → is_checked es n b ≡ true → 0 < last_store fs m b
known-from past shadow es n fs m s same has stands none b inside is = grind (arith, checked-parts, covers-bounds, cases_lt)

-- nothing is checked in a span of which the part checks nothing and none is old
knows-none : (past : Past) (shadow : Shadow) (es : List Event) (n : ℕ) (fs : List Event) (m : ℕ) (s : Extent) → SameBytes es n fs m → HasOld past es n fs m → StandsFor shadow (λ k. k) fs m →
    NoneOld past shadow s.first (s.first + s.size) → is_some (first_byte (is_checked fs m) s) ≡ false → (b : ℕ) → covers_byte s b ≡ true → is_checked es n b ≡ true → ⊥
knows-none past shadow es n fs m s same has stands none unchecked b inside is = grind (arith, known-from, none-checked, checked-from, checked-parts)

pub knows-unchecked : (past : Past) (shadow : Shadow) (head : ℕ) (before after : Extent) → ForEachList shadow (λ told es p. is_some (first_byte (is_checked es p) before) ≡ false) →
    NoneOld past shadow before.first (before.first + before.size) → Knows past shadow head before after
knows-unchecked past shadow head before after unchecked none es p n fs m same pairs has stands x y one other x_is y_is = search (arith, knows-none)

pub knows-all : (past : Past) (shadow : Shadow) (head : ℕ) (before after : Extent) → NoneOld past shadow before.first (before.first + before.size) →
    NoneOld past shadow after.first (after.first + after.size) → Knows past shadow head before after
knows-all past shadow head before after none none_too es p n fs m same pairs has stands x y one other x_is y_is =
    inl (known-from past shadow es n fs m before same has stands none x one x_is, known-from past shadow es n fs m after same has stands none_too y other y_is)

pub knows-late : (past : Past) (shadow : Shadow) (head : ℕ) (before after : Extent) → NoneOld past shadow after.first (after.first + after.size) →
    NoneTold shadow head after.first (after.first + after.size) → Knows past shadow head before after
knows-late past shadow head before after none told es p n fs m same pairs has stands x y one other x_is y_is = grind (arith, known-from, covers-bounds, checked-parts)
