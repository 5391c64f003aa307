-- What a byte lacks, in words.
use Rattle.std.proofs.{Common.{◌≡◌, ◌<◌, ◌≤◌, ◌-◌, ℕ, Bool, true, false, ◌&&◌, nat_lt, List, length, Some, sym, ◌∙◌, ap, subst, arith}, lemmas.Grind.{common_steps}, lemmas.Bool.{and_parts, ltb-true}}
use Rattle.pmf_event.{specs.{declared.event.Event.{Event}, Interval.{writes_back}, Line.{line_of_byte}, Places.{least}, Store.{at, flushes, is_fence}}, proofs.PlacesLemmas.{least-below, least-bound, least-passes}}
use Rattle.pmf_cause.{specs.{declared.{lack.Lack.{Lack}, need.Need.{Need}}, Cause.{fence_after, fences_after, lack_by, lack_of, write_back_after}, Laws.{EachLackMeansSo, IsFirstFence, IsFirstWriteBack, Means, NoneFences, NoneWritesBack}}, proofs.FencedLemmas.{shut}}
use Rattle.pmf_cause.specs.declared.lack.Lack.TheVariants as lack

both : (k w : ℕ) (v : Bool) → k < w → v ≡ true → (nat_lt k w && v) ≡ true
both k w v behind is = grind (arith, common_steps)

-- of the places behind k at which something is, the first up to n, or none
module _ (is : ℕ → Bool) (k n : ℕ) where
  abbrev first : ℕ
  first = least (λ w. nat_lt k w && is w) n

  none_is : first ≡ 0 → (w : ℕ) → k < w → w ≤ n → is w ≡ false
  none_is zero w behind within = shut (is w) (λ so. let found = least-below (λ w. nat_lt k w && is w) n w (omega (arith, behind)) within (both k w (is w) behind so) in absurd (omega (arith, found.0, zero)))

  first_is : 0 < first → (k < first) × (is first ≡ true) × ((w : ℕ) → k < w → w ≤ first - 1 → is w ≡ false)
  first_is some =
      let passes = and_parts (nat_lt k first) (is first) (least-passes (λ w. nat_lt k w && is w) n some) in (
        ltb-true k first passes.0,
        passes.1,
        λ w behind below. shut (is w) (λ so.
            let bound = least-bound (λ w. nat_lt k w && is w) n in
            let found = least-below (λ w. nat_lt k w && is w) n w (omega (arith, behind)) (omega (arith, below, bound)) (both k w (is w) behind so) in absurd (omega (arith, below, found.1, some))),
      )

-- what the numbers say
abbrev Says : ℕ → ℕ → ℕ → ℕ → Lack → Type 0
Says l d w f lack.StoredBehind = d < l
Says l d w f lack.OneStore = l ≡ d
Says l d w f lack.NotWrittenBack = (l < d) × (w ≡ 0)
Says l d w f (lack.WrittenBackLate by) = (l < d) × (0 < w) × (by ≡ w) × (d < w)
Says l d w f (lack.NotFenced by) = (l < d) × (0 < w) × (by ≡ w) × (w ≤ d) × (f ≡ 0)
Says l d w f (lack.FencedLate by fence) = (l < d) × (0 < w) × (by ≡ w) × (w ≤ d) × (0 < f) × (fence ≡ f) × (d < f)

says : (l d w f : ℕ) (lacking : Lack) → lack_by l d w f ≡ Some lacking → Says l d w f lacking
says l d w f lack.StoredBehind is = grind (arith, common_steps)
says l d w f lack.OneStore is = grind (arith, common_steps)
says l d w f lack.NotWrittenBack is = (grind (arith, common_steps), grind (arith, common_steps))
says l d w f (lack.WrittenBackLate by) is = (grind (arith, common_steps), grind (arith, common_steps), grind (arith, common_steps), grind (arith, common_steps))
says l d w f (lack.NotFenced by) is = (grind (arith, common_steps), grind (arith, common_steps), grind (arith, common_steps), grind (arith, common_steps), grind (arith, common_steps))
says l d w f (lack.FencedLate by fence) is =
    (grind (arith, common_steps), grind (arith, common_steps), grind (arith, common_steps), grind (arith, common_steps), grind (arith, common_steps), grind (arith, common_steps), grind (arith, common_steps))

-- the first write-back behind a place, and the first fence
module _ (es : List Event) where
  none_writes : (line k : ℕ) → write_back_after es line k ≡ 0 → NoneWritesBack es line k (length es)
  unfolding write_back_after writes_back
  none_writes line k zero = none_is (at (flushes line) es) k (length es) zero

  first_writes : (line k by : ℕ) → 0 < write_back_after es line k → by ≡ write_back_after es line k → IsFirstWriteBack es line k by
  unfolding write_back_after writes_back
  first_writes line k by some is = subst (IsFirstWriteBack es line k) (sym is) (first_is (at (flushes line) es) k (length es) some)

  none_fences : (k : ℕ) → fence_after es k ≡ 0 → NoneFences es k (length es)
  unfolding fence_after fences_after
  none_fences k zero = none_is (at is_fence es) k (length es) zero

  first_fences : (k f : ℕ) → 0 < fence_after es k → f ≡ fence_after es k → IsFirstFence es k f
  unfolding fence_after fences_after
  first_fences k f some is = subst (IsFirstFence es k) (sym is) (first_is (at is_fence es) k (length es) some)

  meant : (n : Need) (lacking : Lack) → let w = write_back_after es (line_of_byte n.byte) n.last in Says n.last n.due w (fence_after es w) lacking → Means es n lacking
  meant n lack.StoredBehind before = before
  meant n lack.OneStore same = same
  meant n lack.NotWrittenBack (early, none) = (early, none_writes (line_of_byte n.byte) n.last none)
  meant n (lack.WrittenBackLate by) (early, some, is, late) = (early, first_writes (line_of_byte n.byte) n.last by some is, subst (λ w. n.due < w) (sym is) late)
  meant n (lack.NotFenced by) (early, some, is, in_time, none) =
      (early, first_writes (line_of_byte n.byte) n.last by some is, subst (λ w. w ≤ n.due) (sym is) in_time, none_fences by (ap (fence_after es) is ∙ none))
  meant n (lack.FencedLate by fence) (early, some, is, in_time, fenced, fence_is, late) = (
    early,
    first_writes (line_of_byte n.byte) n.last by some is,
    subst (λ w. w ≤ n.due) (sym is) in_time,
    first_fences by fence (subst (λ w. 0 < fence_after es w) (sym is) fenced) (fence_is ∙ ap (fence_after es) (sym is)),
    subst (λ f. n.due < f) (sym fence_is) late,
  )

pub means_so : EachLackMeansSo
unfolding lack_of
means_so es n lacking is =
    let w = write_back_after es (line_of_byte n.byte) n.last in meant es n lacking (says n.last n.due w (fence_after es w) lacking is)
