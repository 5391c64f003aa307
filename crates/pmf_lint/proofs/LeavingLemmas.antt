-- What is left of a section below one limit, and below a further one.
use Rattle.std.proofs.{Common.{◌≡◌, ℕ, zero, ◌+◌, le-ltb, lt-ltb, suc, ◌<◌, ◌≤◌, Bool, true, false, not, ◌&&◌, ◌||◌, ◌==◌, inl, inr, List, [], ◌∷◌, ◌++◌, length, Option, Some, None, is_some, refl, sym, ap, ◌∙◌, arith, slice_index_or}, lemmas.Bool.{cases_lt, false≢true}, lemmas.Grind.{common_steps}}
use Rattle.pmf_event.{specs.declared.event.Event.{Event}, specs.Ranges.{first_from}, specs.declared.event.Event.TheVariants.{Store}, specs.Span.{Extent, covers_byte}, specs.Store.{at, event_at, last, last_store, stores}, specs.Exclusion.{is_excluded}, specs.Persist.{is_checked, is_exposed}, specs.LineBytes.{is_undurable, is_unwritten}, proofs.EventLemmas.{at-is}, proofs.PlacesLemmas.{greatest-passes}, proofs.RangeLemmas.{NonePass, first_from-none, first_from-some, first-passes, none-passes}}
use Rattle.pmf_shadow.specs.{declared.standing.Standing.{Standing}, Standing.{AllLeaveOpen, place_as_told}}
use Rattle.pmf_lint.specs.{declared.leaving.Left.{Left}, Covering.{stored_by}, Leaving.{AreLeft, AreLeftBelow, AreMarked, is_hit, is_told, is_left, is_left_unwritten, leaves_unfenced, leaves_unwritten, some_below}, Marks.{Marks}}

-- ---- whether a byte below a limit passes

none_below : (test : ℕ → Bool) → some_below test 0 ≡ false
unfolding first_from
none_below test = refl

none_beyond : (test : ℕ → Bool) (m n j : ℕ) → NonePass test 0 m → ((b : ℕ) → m ≤ b → b < n → test b ≡ false) → j < n → test j ≡ false
none_beyond test m n j none more below = elim (cases_lt j m) [
  | inl before ↦ none j (omega arith) (omega (arith, before))
  | inr behind ↦ more j behind below
]

below_by : (test : ℕ → Bool) (m n : ℕ) (c : Bool) (found : Option ℕ) → first_from test 0 m ≡ found → m < n → ((b : ℕ) → m ≤ b → b < n → test b ≡ c) → some_below test n ≡ (is_some found || c)
below_by test m n c (Some k) is less same =
    let first = first-passes test 0 m k is in ap is_some (first_from-some test 0 n k (record { from = first.from; within = (let within = first.within in omega arith); passes = first.passes; before = first.before }))
below_by test m n true None is less same =
    let none = none-passes test 0 m is in ap is_some (first_from-some test 0 n m (record { from = omega arith; within = omega arith; passes = same m (omega arith) less; before = λ j from below. none j from (omega arith) }))
below_by test m n false None is less same =
    let none = none-passes test 0 m is in ap is_some (first_from-none test 0 n (λ j from below. none_beyond test m n j none same (omega (arith, below))))

-- with bytes more that are alike in it
pub below_more : (test : ℕ → Bool) (m n : ℕ) (c : Bool) → m < n → ((b : ℕ) → m ≤ b → b < n → test b ≡ c) → some_below test n ≡ (some_below test m || c)
below_more test m n c less same = below_by test m n c (first_from test 0 m) refl less same

-- ---- what a run of bytes leaves

-- a byte is exposed where it is undurable and not excluded
exposed_is : (es : List Event) (p b : ℕ) → is_exposed es p b ≡ (is_undurable es p b && not (is_excluded es p b))
unfolding is_exposed is_checked is_undurable
exposed_is es p b = grind arith

undurable_stored : (es : List Event) (p b : ℕ) → is_undurable es p b ≡ true → 0 < last_store es p b
unfolding is_undurable
undurable_stored es p b is = grind arith

told_place : (l last : ℕ) → Some last ≡ place_as_told (λ k. k) l → l ≡ last
told_place l last is = grind arith

told_none : (l : ℕ) → None ≡ place_as_told (λ k. k) l → l ≡ 0
told_none l is = grind arith

and_false : (a : Bool) → (a && false) ≡ false
and_false a = grind arith

and_true : (a : Bool) → a ≡ (a && true)
and_true a = grind arith

-- whether a byte that stands so is left by the store at place k
left_by : (u x : Bool) (l k last : ℕ) → (u ≡ true → l ≡ last) → (l == k && (u && not x)) ≡ ((u && not x) && k == last)
left_by false x l k last same = grind arith
left_by true x l k last same = let here = same refl in grind arith

module _ (es : List Event) (first end : ℕ) (standing : Standing) (all : AllLeaveOpen (λ k. k) es (length es) first end standing) where
  pub left_there : (last : ℕ) → standing.last ≡ Some last → (k b : ℕ) → first ≤ b → b < end → is_left es k b ≡ ((standing.undurable && not standing.excluded) && k == last)
  unfolding is_left
  left_there last some k b from below =
      let here = all b from below in
      ap (λ e. last_store es (length es) b == k && e) (exposed_is es (length es) b)
      ∙ ap (λ u. last_store es (length es) b == k && (u && not (is_excluded es (length es) b))) (sym here.undurable)
      ∙ ap (λ x. last_store es (length es) b == k && (standing.undurable && not x)) (sym here.excluded)
      ∙ left_by standing.undurable standing.excluded (last_store es (length es) b) k last (λ u. told_place (last_store es (length es) b) last (sym some ∙ here.last u))

  none_undurable : standing.last ≡ None → (b : ℕ) → first ≤ b → b < end → standing.undurable ≡ false
  none_undurable none b from below =
      let here = all b from below in
      elim standing.undurable as (λ u. standing.undurable ≡ u → u ≡ false) [
        | true ↦ λ is.
            let zero_store = told_none (last_store es (length es) b) (sym none ∙ here.last is) in
            let some = undurable_stored es (length es) b (sym here.undurable ∙ is) in absurd (omega arith)
        | false ↦ λ is. refl
      ] refl

  pub none_left : standing.last ≡ None → (k b : ℕ) → first ≤ b → b < end → is_left es k b ≡ false
  unfolding is_left
  none_left none k b from below =
      let here = all b from below in
      let durable = none_undurable none b from below in
      let exposed : is_exposed es (length es) b ≡ false = exposed_is es (length es) b ∙ ap (λ u. u && not (is_excluded es (length es) b)) (sym here.undurable ∙ durable) in
      ap (λ e. last_store es (length es) b == k && e) exposed ∙ and_false (last_store es (length es) b == k)

  pub left_unwritten_there : (test : ℕ → Bool) → ((k b : ℕ) → first ≤ b → b < end → is_left es k b ≡ test k) → (k b : ℕ) → first ≤ b → b < end → is_left_unwritten es k b ≡ (test k && standing.unwritten)
  unfolding is_left_unwritten
  left_unwritten_there test is k b from below =
      let here = all b from below in
      ap (λ l. l && is_unwritten es (length es) b) (is k b from below) ∙ ap (λ w. test k && w) (sym here.unwritten)

-- ---- marks

pub marked_more : (test : ℕ → ℕ → Bool) (m n places : ℕ) (old new : List Bool) (hit : ℕ → Bool) → m < n → ((k b : ℕ) → m ≤ b → b < n → test k b ≡ hit k) → AreMarked test m places old → length new ≡ length old →
    ((k : ℕ) (d : Bool) → k < length old → slice_index_or new k d ≡ (slice_index_or old k d || hit (suc k))) → AreMarked test n places new
marked_more test m n places old new hit less same marked long each = record {
  long = long ∙ marked.long;
  each = λ k d within.
      each k d (omega (arith, marked.long)) ∙ ap (λ b. b || hit (suc k)) (marked.each k d within) ∙ sym (below_more (test (suc k)) m n (hit (suc k)) less (same (suc k)));
}

pub marked_none : (test : ℕ → ℕ → Bool) (places : ℕ) (marks : List Bool) → length marks ≡ places → ((k : ℕ) (d : Bool) → k < places → slice_index_or marks k d ≡ false) → AreMarked test 0 places marks
marked_none test places marks long none = record { long = long; each = λ k d within. none k d within ∙ sym (none_below (test (suc k))) }

turned : (hit w at : Bool) → ((hit && at) && w) ≡ ((hit && w) && at)
turned false w at = refl
turned true false at = and_false at
turned true true at = grind arith

or_false : (a : Bool) → a ≡ (a || false)
or_false a = grind arith

module _ (es : List Event) (first end : ℕ) (standing : Standing) (less : first < end) (all : AllLeaveOpen (λ k. k) es (length es) first end standing) (old : Left) (below : AreLeftBelow es first old) where
  -- the store of these bytes is marked, where it leaves them
  pub marked_last : (new : Left) (last : ℕ) (hit unwritten : Bool) → standing.last ≡ Some last → hit ≡ (standing.undurable && not standing.excluded) → unwritten ≡ (hit && standing.unwritten) →
      length new.left.items ≡ length old.left.items → ((k : ℕ) (d : Bool) → k < length old.left.items → slice_index_or new.left.items k d ≡ (slice_index_or old.left.items k d || hit && suc k == last)) →
      length new.unwritten.items ≡ length old.unwritten.items →
      ((k : ℕ) (d : Bool) → k < length old.unwritten.items → slice_index_or new.unwritten.items k d ≡ (slice_index_or old.unwritten.items k d || unwritten && suc k == last)) → AreLeftBelow es end new
  marked_last new last hit unwritten some hit_is unwritten_is long each long_too each_too =
      let here : (k b : ℕ) → first ≤ b → b < end → is_left es k b ≡ (hit && k == last) = λ k b from below_end. left_there es first end standing all last some k b from below_end ∙ ap (λ h. h && k == last) (sym hit_is) in record {
        all = marked_more (is_left es) first end (length es) old.left.items new.left.items (λ k. hit && k == last) less here below.all long each;
        unwritten = marked_more (is_left_unwritten es) first end (length es) old.unwritten.items new.unwritten.items (λ k. unwritten && k == last) less
            (λ k b from below_end. left_unwritten_there es first end standing all (λ j. hit && j == last) here k b from below_end ∙ turned hit standing.unwritten (k == last) ∙ ap (λ u. u && k == last) (sym unwritten_is))
            below.unwritten long_too each_too;
      }

  -- there is no store of them that does
  pub marked_no : standing.last ≡ None → AreLeftBelow es end old
  marked_no none =
      let here : (k b : ℕ) → first ≤ b → b < end → is_left es k b ≡ false = none_left es first end standing all none in record {
        all = marked_more (is_left es) first end (length es) old.left.items old.left.items (λ k. false) less here below.all refl (λ k d within. or_false (slice_index_or old.left.items k d));
        unwritten = marked_more (is_left_unwritten es) first end (length es) old.unwritten.items old.unwritten.items (λ k. false) less
            (λ k b from below_end. left_unwritten_there es first end standing all (λ j. false) here k b from below_end) below.unwritten refl (λ k d within. or_false (slice_index_or old.unwritten.items k d));
      }

-- ---- what a place leaves, by its marks

pub unwritten_at : (es : List Event) (left : Left) (k : ℕ) (d : Bool) → AreLeft es left → k < length es → slice_index_or left.unwritten.items k d ≡ leaves_unwritten es (suc k)
unfolding leaves_unwritten
unwritten_at es left k d are within = are.unwritten.each k d within

pub unwritten_marks : (es : List Event) (left : Left) → AreLeft es left → Marks (leaves_unwritten es) (length es) left.unwritten.items
unwritten_marks es left are = record { long = are.unwritten.long; each = λ k d within. unwritten_at es left k d are within }

pub unfenced_at : (es : List Event) (left : Left) (k : ℕ) (d : Bool) → AreLeft es left → k < length es → leaves_unwritten es (suc k) ≡ false → slice_index_or left.left.items k d ≡ leaves_unfenced es (suc k)
unfolding leaves_unfenced
unfenced_at es left k d are within written = are.all.each k d within ∙ and_true (some_below (is_left es (suc k)) 9223372036854775808) ∙ ap (λ w. some_below (is_left es (suc k)) 9223372036854775808 && not w) (sym written)

pub not_unfenced : (es : List Event) (k : ℕ) → leaves_unwritten es (suc k) ≡ true → false ≡ leaves_unfenced es (suc k)
unfolding leaves_unfenced
not_unfenced es k unwritten = sym (ap (λ w. some_below (is_left es (suc k)) 9223372036854775808 && not w) unwritten ∙ and_false (some_below (is_left es (suc k)) 9223372036854775808))

pub left_none : (es : List Event) (left : Left) (places : ℕ) → length es ≡ places → length left.left.items ≡ places → ((k : ℕ) (d : Bool) → k < places → slice_index_or left.left.items k d ≡ false) → length left.unwritten.items ≡ places →
    ((k : ℕ) (d : Bool) → k < places → slice_index_or left.unwritten.items k d ≡ false) → AreLeftBelow es 0 left
left_none es left places same long none long_too none_too = record {
  all = marked_none (is_left es) (length es) left.left.items (long ∙ sym same) (λ k d within. none k d (omega (arith, same)));
  unwritten = marked_none (is_left_unwritten es) (length es) left.unwritten.items (long_too ∙ sym same) (λ k d within. none_too k d (omega (arith, same)));
}

-- ---- by the bytes of one store

hit_by : (u x : Bool) (last : Option ℕ) (k : ℕ) (is : Bool) → (last ≡ None → is ≡ false) → ((l : ℕ) → last ≡ Some l → is ≡ ((u && not x) && k == l)) → is ≡ ((u && not x) && is_told last k)
hit_by u x None k is none some = none refl ∙ sym (and_false (u && not x))
hit_by u x (Some l) k is none some = some l refl

pub hit_there : (es : List Event) (first end : ℕ) (standing : Standing) → AllLeaveOpen (λ k. k) es (length es) first end standing → (k b : ℕ) → first ≤ b → b < end → is_left es k b ≡ is_hit standing k
hit_there es first end standing all k b from below =
    hit_by standing.undurable standing.excluded standing.last k (is_left es k b) (λ none. none_left es first end standing all none k b from below) (λ l some. left_there es first end standing all l some k b from below)

uncovered_before : (s : Extent) (b : ℕ) → b < s.first → covers_byte s b ≡ false
uncovered_before s b less = grind (arith, common_steps, le-ltb, lt-ltb)

uncovered_behind : (s : Extent) (b : ℕ) → s.first + s.size ≤ b → covers_byte s b ≡ false
uncovered_behind s b beyond = grind (arith, common_steps, le-ltb, lt-ltb)

-- a byte is left by none but a store to it
last_stores : (es : List Event) (n k b : ℕ) → 0 < k → last_store es n b ≡ k → at (stores b) es k ≡ true
unfolding last
last_stores es n k b some is = ap (at (stores b) es) (sym is) ∙ greatest-passes (at (stores b) es) n (omega (arith, some, is))

other_left : (l k : ℕ) (e : Bool) → (l ≡ k → ⊥) → (l == k && e) ≡ false
other_left l k e apart = grind (arith, common_steps)

pub left_alone : (es : List Event) (k b : ℕ) → 0 < k → at (stores b) es k ≡ false → is_left es k b ≡ false
unfolding is_left
left_alone es k b some other = other_left (last_store es (length es) b) k (is_exposed es (length es) b) (λ is. false≢true (sym other ∙ last_stores es (length es) k b some is))

pub left_outside : (es : List Event) (k b : ℕ) (s : Extent) → 0 < k → event_at es k ≡ Some (Store s) → covers_byte s b ≡ false → is_left es k b ≡ false
unfolding stores
left_outside es k b s some here out = left_alone es k b some (at-is (stores b) es k (Some (Store s)) here ∙ out)

none_stored : (e : Event) (b : ℕ) → stored_by e ≡ None → stores b e ≡ false
unfolding stores
none_stored e b none = grind (arith, common_steps)

pub left_by_none : (es : List Event) (k b : ℕ) (e : Event) → 0 < k → event_at es k ≡ Some e → stored_by e ≡ None → is_left es k b ≡ false
left_by_none es k b e some here none = left_alone es k b some (at-is (stores b) es k (Some e) here ∙ none_stored e b none)

unwritten_alone : (es : List Event) (k b : ℕ) → is_left es k b ≡ false → is_left_unwritten es k b ≡ false
unfolding is_left_unwritten
unwritten_alone es k b none = ap (λ l. l && is_unwritten es (length es) b) none

none_upto : (test : ℕ → Bool) (n : ℕ) → ((b : ℕ) → b < n → test b ≡ false) → some_below test n ≡ false
none_upto test n none = ap is_some (first_from-none test 0 n (λ j from below. none j (omega (arith, below))))

-- bytes from m on that no store leaves change nothing
still_below : (test : ℕ → Bool) (m n : ℕ) → m ≤ n → ((b : ℕ) → m ≤ b → b < n → test b ≡ false) → some_below test m ≡ some_below test n
still_below test m n within none = elim (cases_lt m n) [
  | inl less ↦ or_false (some_below test m) ∙ sym (below_more test m n false less none)
  | inr same ↦ (let is : m ≡ n = omega (arith, within, same) in ap (some_below test) is)
]

module _ (es : List Event) (k : ℕ) (s : Extent) (some : 0 < k) (here : event_at es k ≡ Some (Store s)) where
  before : (b : ℕ) → b < s.first → is_left es k b ≡ false
  before b less = left_outside es k b s some here (uncovered_before s b less)

  behind : (b : ℕ) → s.first + s.size ≤ b → is_left es k b ≡ false
  behind b beyond = left_outside es k b s some here (uncovered_behind s b beyond)

  pub none_before : (some_below (is_left es k) s.first ≡ false) × (some_below (is_left_unwritten es k) s.first ≡ false)
  none_before = (none_upto (is_left es k) s.first before, none_upto (is_left_unwritten es k) s.first (λ b less. unwritten_alone es k b (before b less)))

  pub all_there : (end limit : ℕ) → s.first + s.size ≤ end → end ≤ limit → (some_below (is_left es k) end ≡ some_below (is_left es k) limit) × (some_below (is_left_unwritten es k) end ≡ some_below (is_left_unwritten es k) limit)
  all_there end limit from within = (
    still_below (is_left es k) end limit within (λ b beyond below. behind b (omega (arith, from, beyond))),
    still_below (is_left_unwritten es k) end limit within (λ b beyond below. unwritten_alone es k b (behind b (omega (arith, from, beyond)))),
  )

pub none_there : (es : List Event) (k : ℕ) (e : Event) (limit : ℕ) → 0 < k → event_at es k ≡ Some e → stored_by e ≡ None → (false ≡ some_below (is_left es k) limit) × (false ≡ some_below (is_left_unwritten es k) limit)
none_there es k e limit some here none = (
  sym (none_upto (is_left es k) limit (λ b less. left_by_none es k b e some here none)),
  sym (none_upto (is_left_unwritten es k) limit (λ b less. unwritten_alone es k b (left_by_none es k b e some here none))),
)

-- the event at a place stands behind the begin
pub some_place : (es : List Event) (k : ℕ) (e : Event) → event_at es k ≡ Some e → 0 < k
unfolding event_at
some_place es zero e here = let bad : None ≡ Some e = here in cc
some_place es (suc k) e here = omega arith

-- with a run of bytes more
pub hit_more : (es : List Event) (k m n : ℕ) (standing : Standing) (left unwritten hit : Bool) → m < n → AllLeaveOpen (λ k. k) es (length es) m n standing → hit ≡ is_hit standing k →
    left ≡ some_below (is_left es k) m → unwritten ≡ some_below (is_left_unwritten es k) m → ((left || hit) ≡ some_below (is_left es k) n) × ((unwritten || (hit && standing.unwritten)) ≡ some_below (is_left_unwritten es k) n)
hit_more es k m n standing left unwritten hit less all hit_is left_is unwritten_is =
    let there = λ (b : ℕ) (from : m ≤ b) (below : b < n). hit_there es m n standing all k b from below ∙ sym hit_is in (
      ap (λ l. l || hit) left_is ∙ sym (below_more (is_left es k) m n hit less there),
      ap (λ u. u || (hit && standing.unwritten)) unwritten_is ∙ sym (below_more (is_left_unwritten es k) m n (hit && standing.unwritten) less
          (λ b from below. left_unwritten_there es m n standing all (λ j. is_hit standing j) (λ j c at_least under. hit_there es m n standing all j c at_least under) k b from below ∙ ap (λ h. h && standing.unwritten) (sym hit_is))),
    )

-- the event whose span this is
pub stored_is : (e : Event) (s : Extent) → stored_by e ≡ Some s → e ≡ Store s
stored_is e s is = grind (arith, common_steps)

-- one mark more
pub marked_next : (test : ℕ → Bool) (n : ℕ) (marks : List Bool) (b : Bool) → length marks ≡ n → ((k : ℕ) (d : Bool) → k < n → slice_index_or marks k d ≡ test (suc k)) → b ≡ test (suc n) →
    (k : ℕ) (d : Bool) → k < n + 1 → slice_index_or (marks ++ b ∷ []) k d ≡ test (suc k)
marked_next test n marks b long each is k d within = grind (arith, common_steps)
