-- Counts over lists, and the sums of sections, with one more.
use Rattle.std.proofs.{Common.{◌≡◌, ℕ, Bool, cond, Some, slice_get, ◌+◌, ◌*◌, ◌^◌, ◌<◌, List, [], ◌∷◌, ◌++◌, length, take, get_or, map, sym, ap, subst, ◌∙◌, arith, count_by}, lemmas.List.{take_more, map-append}, lemmas.List.Sums.{sum_by-append}, lemmas.Option.{get_or_from_slice_get, slice_get_within}, lemmas.Grind.{common_steps}}
use Rattle.pmf_event.specs.{declared.event.Event.{Event}, Section.{Trace}}
use Rattle.pmf_lint.specs.{declared.summing.Sums.{Sums}, declared.upkeep.Upkeep.{Upkeep}, Covering.{uncovered_of}, Summing.{IsWithin, asserts, both, empty_of, is_store, kept_both, sums_of, upkeeps_of}, Upkeep.{IsUpkeepWithin, upkeep_of}}

upkeeps_both : (xs ys : List Trace) → upkeeps_of (xs ++ ys) ≡ kept_both (upkeeps_of xs) (upkeeps_of ys)
unfolding upkeeps_of
upkeeps_both xs ys = grind (arith, common_steps, sum_by-append)

sums_both : (xs ys : List Trace) → sums_of (xs ++ ys) ≡ both (sums_of xs) (sums_of ys)
unfolding sums_of
sums_both xs ys = grind (arith, common_steps, sum_by-append, upkeeps_both)

pub sums_more : {A : Type 0} (value : A → Trace) (xs : List A) (i : ℕ) (x : A) → i < length xs → x ≡ get_or xs i x →
    sums_of (map value (take (i + 1) xs)) ≡ both (sums_of (map value (take i xs))) (sums_of (value x ∷ []))
sums_more value xs i x within is =
    ap (λ ys. sums_of (map value ys)) (take_more xs i x within ∙ ap (λ y. take i xs ++ y ∷ []) (sym is)) ∙ ap sums_of (map-append value (take i xs) (x ∷ [])) ∙ sums_both (map value (take i xs)) (value x ∷ [])

pub kept_within : (m n : ℕ) (a b : Upkeep) → IsUpkeepWithin m a → IsUpkeepWithin n b → IsUpkeepWithin (m + n) (kept_both a b)
kept_within m n a b small one = record {
  unwritten_within = omega (arith, small.unwritten_within, one.unwritten_within);
  unfenced_within = omega (arith, small.unfenced_within, one.unfenced_within);
  overwriting_within = omega (arith, small.overwriting_within, one.overwriting_within);
  fences_within = omega (arith, small.fences_within, one.fences_within);
  idle_within = omega (arith, small.idle_within, one.idle_within);
}

sums_within : (m n : ℕ) (a b : Sums) → IsWithin m a → IsWithin n b → IsWithin (m + n) (both a b)
sums_within m n a b small one = record {
  events_within = omega (arith, small.events_within, one.events_within);
  assertions_within = omega (arith, small.assertions_within, one.assertions_within);
  empty_within = omega (arith, small.empty_within, one.empty_within);
  stores_within = omega (arith, small.stores_within, one.stores_within);
  unasserted_within = omega (arith, small.unasserted_within, one.unasserted_within);
  upkeep_within = kept_within m n a.upkeep b.upkeep small.upkeep_within one.upkeep_within;
}

pub within_both : (i : ℕ) (a b : Sums) → IsWithin (i * 2 ^ 64) a → IsWithin (2 ^ 64) b → IsWithin ((i + 1) * 2 ^ 64) (both a b)
within_both i a b small one =
    let more : i * 2 ^ 64 + 2 ^ 64 ≡ (i + 1) * 2 ^ 64 = omega arith in subst (λ n. IsWithin n (both a b)) more (sums_within (i * 2 ^ 64) (2 ^ 64) a b small one)

none_kept : IsUpkeepWithin 0 (upkeeps_of [])
unfolding upkeeps_of
none_kept = record { unwritten_within = omega arith; unfenced_within = omega arith; overwriting_within = omega arith; fences_within = omega arith; idle_within = omega arith }

pub none_within : IsWithin (0 * 2 ^ 64) (sums_of [])
unfolding sums_of
none_within = record {
  events_within = omega arith;
  assertions_within = omega arith;
  empty_within = omega arith;
  stores_within = omega arith;
  unasserted_within = omega arith;
  upkeep_within = none_kept;
}

-- the numbers as sums
abbrev pub made : ℕ → ℕ → ℕ → ℕ → ℕ → Upkeep → Sums
made events assertions empty stores unasserted upkeep =
    record { events = events; assertions = assertions; empty = empty; stores = stores; unasserted = unasserted; upkeep = upkeep }

upkeep_one : (t : Trace) → upkeep_of t.events ≡ upkeeps_of (t ∷ [])
unfolding upkeeps_of upkeep_of
upkeep_one t = grind (arith, common_steps)

pub sums_one : (t : Trace) (events assertions empty stores unasserted : ℕ) (upkeep : Upkeep) → events ≡ length t.events → assertions ≡ count_by (λ e. asserts e) t.events → empty ≡ empty_of t →
    stores ≡ count_by (λ e. is_store e) t.events → unasserted ≡ uncovered_of t.events → upkeep ≡ upkeep_of t.events → made events assertions empty stores unasserted upkeep ≡ sums_of (t ∷ [])
unfolding sums_of
sums_one t events assertions empty stores unasserted upkeep p q r s u k = grind (arith, common_steps, upkeep_one)

-- one more event is counted
pub counted_more : (test : Event → Bool) (es : List Event) (i : ℕ) (e : Event) (n one : ℕ) → slice_get es i ≡ Some e → n ≡ count_by test (take i es) → one ≡ cond (test e) 1 0 →
    n + one ≡ count_by test (take (i + 1) es)
counted_more test es i e n one here so is =
    let longer = take_more es i e (slice_get_within es i e here) ∙ ap (λ x. take i es ++ x ∷ []) (get_or_from_slice_get es i e e here) in
    let more : count_by test (take i es ++ e ∷ []) ≡ count_by test (take i es) + cond (test e) 1 0 = omega (arith, sum_by-append (λ x. cond (test x) 1 0) (take i es) (e ∷ [])) in
    let all : n + one ≡ count_by test (take i es ++ e ∷ []) = omega (arith, so, is, more) in
    all ∙ ap (λ fs. count_by test fs) (sym longer)
