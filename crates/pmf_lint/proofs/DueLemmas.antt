-- Whether some assertion has something to check, by how many have nothing.
use Rattle.std.{proofs.Common.{◌≡◌, ℕ, zero, suc, ◌+◌, ◌-◌, ◌<◌, ◌≤◌, ◌==◌, Bool, true, false, cond, not, ◌&&◌, ◌||◌, List, [], ◌∷◌, ◌++◌, Option, Some, length, take, get_or, map, refl, sym, ap, subst, ◌∙◌, arith, count_by, sum_by, codes}, proofs.lemmas.List.{take_more, take_all}, proofs.lemmas.List.Sums.{sum_by-append, sum_by-le-sum_by}, proofs.lemmas.Option.{slice_get-get_or}, proofs.lemmas.Bool.{false≢true}, proofs.lemmas.Grind.{common_steps}}
use Rattle.pmf_event.{specs.declared.event.Event.{Event}, specs.declared.event.Event.TheVariants.{Fence}, specs.Places.{count}, specs.Section.{Trace}, specs.Store.{at, event_at, passes}, proofs.EventLemmas.{at-is}, proofs.PlacesLemmas.{count-zero}}
use Rattle.pmf_storelog.specs.{Separators.{records_of}, LogText.{events_in, numbers_of, section_named, sections_of}}
use Rattle.pmf_query.specs.Walking.{IsNext}
use Rattle.pmf_lint.{specs.declared.noting.Notes.{Notes}, specs.declared.warnings.Warnings.{Warnings}, specs.Counting.{AreNotes}, specs.Due.{asserted_in, empty_in, fills}, specs.Covering.{uncovered_of}, specs.Ending.{has_record, is_open_ended, lacks_stop}, specs.Misread.{has_misread, is_unmet, lacks_bytes}, specs.Summing.{asserts, empty_of, is_store, sums_of, upkeeps_of}, specs.Upkeep.{upkeep_of}, specs.Warnings.{asserts_nothing, checks_nothing, warnings_by}, proofs.EmptyLemmas.{unmet_counted}, proofs.StoreNameLemmas.{sections_more}, proofs.UpkeepLemmas.{count_more}}

pub noted_next : (bytes : List ℕ) (start offset : ℕ) (text : List ℕ) (next : ℕ) (notes : Notes) → IsNext bytes start offset text next → AreNotes notes (records_of (take start bytes) ++ text ∷ []) → AreNotes notes (records_of (take next bytes))
noted_next bytes start offset text next notes found are = subst (AreNotes notes) (sym found.adds) are

-- ---- assertions up to a place

asserted_places : (es : List Event) (n : ℕ) → n ≤ length es → count (at asserts es) n ≡ count_by (λ e. asserts e) (take n es)
unfolding event_at
asserted_places es zero within = count-zero (at asserts es)
asserted_places es (suc k) within =
    let x = get_or es k Fence in
    let here : event_at es (suc k) ≡ Some x = slice_get-get_or es k Fence (omega (arith, within)) in
    let next : k + 1 ≡ suc k = omega arith in
    sym (count_more (at asserts es) k (count (at asserts es) k) (asserts x) refl (at-is asserts es (suc k) (Some x) here))
    ∙ ap (λ n. n + cond (asserts x) 1 0) (asserted_places es k (omega (arith, within)))
    ∙ (let more : count_by (λ e. asserts e) (take k es ++ x ∷ []) ≡ count_by (λ e. asserts e) (take k es) + cond (asserts x) 1 0 = omega (arith, sum_by-append (λ e. cond (asserts e) 1 0) (take k es) (x ∷ [])) in sym more)
    ∙ ap (λ fs. count_by (λ e. asserts e) fs) (sym (take_more es k Fence (omega (arith, within)))) ∙ ap (λ m. count_by (λ e. asserts e) (take m es)) next

pub asserted_all : (es : List Event) → count (at asserts es) (length es) ≡ count_by (λ e. asserts e) es
asserted_all es = asserted_places es (length es) (omega arith) ∙ ap (λ fs. count_by (λ e. asserts e) fs) (take_all (length es) es (omega arith))

pub lacking : (es : List Event) (q : ℕ) (o : Option Event) → lacks_bytes es q o ≡ true → passes asserts o ≡ true
unfolding asserts
lacking es q o is = grind (arith, common_steps)

unmet_asserts : (es : List Event) (q : ℕ) → is_unmet es q ≡ true → at asserts es q ≡ true
unfolding is_unmet
unmet_asserts es q is = at-is asserts es q (event_at es q) refl ∙ lacking es q (event_at es q) is

step_le : (u a : ℕ) (b c : Bool) → (b ≡ true → c ≡ true) → (u + cond b 1 0) + a ≤ (a + cond c 1 0) + u
step_le u a true true so = omega arith
step_le u a true false so = absurd (false≢true (so refl))
step_le u a false true so = omega arith
step_le u a false false so = omega arith

gap_step : (es : List Event) (p : ℕ) → count (is_unmet es) (suc p) + count (at asserts es) p ≤ count (at asserts es) (suc p) + count (is_unmet es) p
gap_step es p =
    let one = count_more (is_unmet es) p (count (is_unmet es) p) (is_unmet es (suc p)) refl refl in
    let other = count_more (at asserts es) p (count (at asserts es) p) (at asserts es (suc p)) refl refl in
    let step = step_le (count (is_unmet es) p) (count (at asserts es) p) (is_unmet es (suc p)) (at asserts es (suc p)) (unmet_asserts es (suc p)) in omega (arith, one, other, step)

gap : (es : List Event) (p d : ℕ) → count (is_unmet es) (d + p) + count (at asserts es) p ≤ count (at asserts es) (d + p) + count (is_unmet es) p
gap es p zero = let same : 0 + p ≡ p = omega arith in omega (arith, ap (count (is_unmet es)) same, ap (count (at asserts es)) same)
gap es p (suc d) =
    let before = gap es p d in
    let step = gap_step es (d + p) in
    let same : suc d + p ≡ suc (d + p) = omega arith in omega (arith, before, step, ap (count (is_unmet es)) same, ap (count (at asserts es)) same)

unequal : (a b : ℕ) → a < b → true ≡ not (a == b)
unequal a b less = grind (arith, common_steps)

equal : (a b : ℕ) → a ≡ b → false ≡ not (a == b)
equal a b same = grind (arith, common_steps)

-- what some place has, the end has
pub filled_from : (es : List Event) (p : ℕ) → p ≤ length es → count (is_unmet es) p < count (at asserts es) p → true ≡ fills es
unfolding fills
filled_from es p within less =
    let n = length es in
    let same : (n - p) + p ≡ n = omega (arith, within) in
    let wider = gap es p (n - p) in
    let end : count (is_unmet es) n < count (at asserts es) n = omega (arith, less, wider, ap (count (is_unmet es)) same, ap (count (at asserts es)) same) in
    unequal (count (is_unmet es) n) (count_by (λ e. asserts e) es) (omega (arith, end, asserted_all es))

pub filled_nowhere : (es : List Event) → count (is_unmet es) (length es) ≡ count (at asserts es) (length es) → false ≡ fills es
unfolding fills
filled_nowhere es same = equal (count (is_unmet es) (length es)) (count_by (λ e. asserts e) es) (same ∙ asserted_all es)

module _ (es : List Event) (p : ℕ) (e : Event) (unmet : Bool) (here : event_at es (suc p) ≡ Some e) (is : is_unmet es (suc p) ≡ unmet) (none : count (is_unmet es) p ≡ count (at asserts es) p) where
  unmet_next : count (is_unmet es) p + cond unmet 1 0 ≡ count (is_unmet es) (suc p)
  unmet_next = count_more (is_unmet es) p (count (is_unmet es) p) unmet refl is

  asserted_next : count (at asserts es) p + cond (asserts e) 1 0 ≡ count (at asserts es) (suc p)
  asserted_next = count_more (at asserts es) p (count (at asserts es) p) (asserts e) refl (at-is asserts es (suc p) (Some e) here)

  pub filled_here : asserts e ≡ true → unmet ≡ false → count (is_unmet es) (suc p) < count (at asserts es) (suc p)
  filled_here some met =
      let one = sym unmet_next ∙ ap (λ b. count (is_unmet es) p + cond b 1 0) met in
      let other = sym asserted_next ∙ ap (λ b. count (at asserts es) p + cond b 1 0) some in omega (arith, none, one, other)

  -- an assertion without, or another event
  pub none_here : unmet ≡ asserts e → count (is_unmet es) (suc p) ≡ count (at asserts es) (suc p)
  none_here same = sym unmet_next ∙ ap (λ b. count (is_unmet es) p + cond b 1 0) same ∙ ap (λ n. n + cond (asserts e) 1 0) none ∙ asserted_next

pub lacks_as : (a u : Bool) → (u ≡ true → a ≡ true) → (a && not u) ≡ false → u ≡ a
lacks_as true true so none = refl
lacks_as true false so none = sym none
lacks_as false true so none = sym (so refl)
lacks_as false false so none = refl

pub both_hold : (a u : Bool) → (a && not u) ≡ true → (a ≡ true) × (u ≡ false)
both_hold a u is = grind (arith, common_steps)

-- ---- sections

each_within : (t : Trace) → empty_of t ≤ count_by (λ e. asserts e) t.events
each_within t = let all = gap t.events 0 (length t.events) in
    let same : length t.events + 0 ≡ length t.events = omega arith in
    omega (arith, all, ap (count (is_unmet t.events)) same, ap (count (at asserts t.events)) same, count-zero (is_unmet t.events), count-zero (at asserts t.events), unmet_counted t, asserted_all t.events)

all_within : (ts : List Trace) → empty_in ts ≤ asserted_in ts
all_within ts = sum_by-le-sum_by (λ (t : Trace). empty_of t) (λ (t : Trace). count_by (λ e. asserts e) t.events) ts each_within

or_zero : (a b : ℕ) → (not (a == 0) || not (b == 0)) ≡ not (a + b == 0)
or_zero a b = grind (arith, common_steps)

or_unequal : (e a f b : ℕ) → e ≤ a → f ≤ b → (not (e == a) || not (f == b)) ≡ not (e + f == a + b)
or_unequal e a f b less within = grind (arith, common_steps)

fills_as : (t : Trace) → fills t.events ≡ not (empty_of t == count_by (λ e. asserts e) t.events)
unfolding fills
fills_as t = ap (λ n. not (n == count_by (λ e. asserts e) t.events)) (unmet_counted t)

module _ {A : Type 0} (value : A → Trace) (xs : List A) (i : ℕ) (x : A) (within : i < length xs) (is : x ≡ get_or xs i x) where
  pub asserted_more : asserted_in (map value (take (i + 1) xs)) ≡ asserted_in (map value (take i xs)) + count_by (λ e. asserts e) (value x).events
  asserted_more =
      let more = ap (λ ts. asserted_in ts) (sections_more value xs i x within is) ∙ sum_by-append (λ (t : Trace). count_by (λ e. asserts e) t.events) (map value (take i xs)) (value x ∷ []) in omega (arith, more)

  empty_more : empty_in (map value (take (i + 1) xs)) ≡ empty_in (map value (take i xs)) + empty_of (value x)
  empty_more =
      let more = ap (λ ts. empty_in ts) (sections_more value xs i x within is) ∙ sum_by-append (λ (t : Trace). empty_of t) (map value (take i xs)) (value x ∷ []) in omega (arith, more)

  pub any_more : (before here after : Bool) → before ≡ not (asserted_in (map value (take i xs)) == 0) → here ≡ not (count_by (λ e. asserts e) (value x).events == 0) → after ≡ (before || here) →
      after ≡ not (asserted_in (map value (take (i + 1) xs)) == 0)
  any_more before here after so here_is more =
      more ∙ ap (λ b. b || here) so ∙ ap (λ b. not (asserted_in (map value (take i xs)) == 0) || b) here_is
      ∙ or_zero (asserted_in (map value (take i xs))) (count_by (λ e. asserts e) (value x).events) ∙ ap (λ n. not (n == 0)) (sym asserted_more)

  pub filled_more : (before after : Bool) → before ≡ not (empty_in (map value (take i xs)) == asserted_in (map value (take i xs))) → after ≡ (before || fills (value x).events) →
      after ≡ not (empty_in (map value (take (i + 1) xs)) == asserted_in (map value (take (i + 1) xs)))
  filled_more before after so more =
      more ∙ ap (λ b. b || fills (value x).events) so ∙ ap (λ b. not (empty_in (map value (take i xs)) == asserted_in (map value (take i xs))) || b) (fills_as (value x))
      ∙ or_unequal (empty_in (map value (take i xs))) (asserted_in (map value (take i xs))) (empty_of (value x)) (count_by (λ e. asserts e) (value x).events) (all_within (map value (take i xs))) (each_within (value x))
      ∙ ap (λ n. not (n == asserted_in (map value (take i xs)) + count_by (λ e. asserts e) (value x).events)) (sym empty_more) ∙ ap (λ n. not (empty_in (map value (take (i + 1) xs)) == n)) (sym asserted_more)

-- ---- whatever the run

sum_run : (f : Trace → ℕ) → ((run number : ℕ) (es : List Event) → f (section_named run number es) ≡ f (section_named 0 number es)) → (run : ℕ) (records : List (List ℕ)) →
    (numbers : List ℕ) → sum_by f (map (λ number. section_named run number (events_in records number)) numbers) ≡ sum_by f (map (λ number. section_named 0 number (events_in records number)) numbers)
sum_run f same run records [] = refl
sum_run f same run records (number ∷ numbers) =
    let rest = sum_run f same run records numbers in
    let one = sum_by-append f (section_named run number (events_in records number) ∷ []) (map (λ n. section_named run n (events_in records n)) numbers) in
    let other = sum_by-append f (section_named 0 number (events_in records number) ∷ []) (map (λ n. section_named 0 n (events_in records n)) numbers) in
    omega (arith, rest, one, other, same run number (events_in records number))

pub sums_run : (run : ℕ) (records : List (List ℕ)) → sums_of (sections_of run records) ≡ sums_of (sections_of 0 records)
unfolding sums_of upkeeps_of sections_of empty_of
sums_run run records =
    let by = λ (f : Trace → ℕ) (same : (run number : ℕ) (es : List Event) → f (section_named run number es) ≡ f (section_named 0 number es)). sum_run f same run records (numbers_of records) in
    let events = by (λ (t : Trace). length t.events) (λ run number es. refl) in
    let assertions = by (λ (t : Trace). count_by (λ e. asserts e) t.events) (λ run number es. refl) in
    let empty = by (λ (t : Trace). empty_of t) (λ run number es. refl) in
    let stores = by (λ (t : Trace). count_by (λ e. is_store e) t.events) (λ run number es. refl) in
    let unasserted = by (λ (t : Trace). uncovered_of t.events) (λ run number es. refl) in
    let unwritten = by (λ (t : Trace). (upkeep_of t.events).unwritten) (λ run number es. refl) in
    let unfenced = by (λ (t : Trace). (upkeep_of t.events).unfenced) (λ run number es. refl) in
    let overwriting = by (λ (t : Trace). (upkeep_of t.events).overwriting) (λ run number es. refl) in
    let fences = by (λ (t : Trace). (upkeep_of t.events).fences) (λ run number es. refl) in
    let idle = by (λ (t : Trace). (upkeep_of t.events).idle) (λ run number es. refl) in
    rw (events, assertions, empty, stores, unasserted, unwritten, unfenced, overwriting, fences, idle) refl

-- ---- the warnings

abbrev pub as_warnings : Bool → Bool → Bool → Bool → Bool → Bool → Bool → Warnings
as_warnings a b c d e f g = record { asserts_nothing = a; checks_nothing = b; has_near = c; has_strange = d; is_open_ended = e; lacks_stop = f; is_misread = g }

twice : (b : Bool) → not (not b) ≡ b
twice b = grind (arith, common_steps)

same_warnings : (a b c d e f g h i j k l m n : Bool) → a ≡ h → b ≡ i → c ≡ j → d ≡ k → e ≡ l → f ≡ m → g ≡ n → as_warnings a b c d e f g ≡ as_warnings h i j k l m n
same_warnings a b c d e f g h i j k l m n p q r s t u v = cc

pub due_so : (bytes : List ℕ) (records : List (List ℕ)) (sections : List Trace) (notes : Notes) (asserted filled ended checks lacks misread : Bool) → AreNotes notes records → misread ≡ has_misread records →
    asserted ≡ not (asserted_in sections == 0) → filled ≡ not (empty_in sections == asserted_in sections) → ended ≡ is_open_ended bytes → checks ≡ (asserted && not filled) → lacks ≡ (notes.starts && not notes.stops) →
    as_warnings (not asserted) checks notes.has_near notes.has_strange ended lacks misread ≡ warnings_by bytes records (sums_of sections)
unfolding warnings_by asserts_nothing checks_nothing lacks_stop sums_of
due_so bytes records sections notes asserted filled ended checks lacks misread are misread_is some fill ended_is checks_is lacks_is =
    same_warnings _ _ _ _ _ _ _ _ _ _ _ _ _ _
    (ap not some ∙ twice (asserted_in sections == 0))
    (checks_is ∙ ap (λ b. b && not filled) some ∙ ap (λ b. not (asserted_in sections == 0) && not b) fill ∙ ap (λ b. not (asserted_in sections == 0) && b) (twice (empty_in sections == asserted_in sections)))
    are.near are.strange ended_is
    (lacks_is ∙ ap (λ b. b && not notes.stops) are.started ∙ ap (λ b. has_record (codes "START") records && not b) are.stopped)
    misread_is
