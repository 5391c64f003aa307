-- Soundness of ordered pairs: what is durable before a store is shown wherever that store is.
use Rattle.std.proofs.{Common.{◌≡◌, ℕ, ◌+◌, ◌<◌, ◌≤◌, Bool, true, false, ◌==◌, if◌then◌else◌, List, arith, subst, Some, None}, lemmas.Bool.{cases_lt, cases_eq, leb-true, or_cases, and_parts, ltb-true}, lemmas.Bool.Decides.{eqb_tells}, lemmas.Grind.{common_steps}}
use Rattle.pmf_event.{specs.declared.event.Event.{Event}, specs.declared.interval.Interval.{Interval}, specs.declared.profile.Profile.{Profile}, specs.Line.{line_of_byte}, specs.Places.{some_between}, specs.Store.{at, stores, flushes, is_fence, last_store, epoch_of}, specs.Interval.{closes, closing_fence, epoch_after, interval_at}, specs.Order.{is_closed_by, precedes, share_line, is_stored_before, is_ordered}, proofs.PlacesLemmas.{least-passes, count-mono, some_between-found}, proofs.IntervalLemmas.{Closing}}
use Rattle.pmf_image.{specs.Image.{Image, IsAllowed, count_of, cut_of, is_in, reach_of, shows}, specs.Laws.{OrderedPairsHold}, proofs.ImageLemmas.{below_the_floor, cut-reaches, reached-shown, written-from_checked, last_store-stores, shown-reaches, last_store-above, count_of-here, count_of-mono}}

-- ---- an interval that closes before a place

precedes-parts : (u v : Bool) (x y : Interval) → precedes (if u then None else Some x) (if v then None else Some y) ≡ true → is_closed_by x.closes y.opens ≡ true
precedes-parts u v x y is = grind (arith, common_steps)

closed_by-some : (es : List Event) (f epoch : ℕ) → is_closed_by (epoch_after es f) epoch ≡ true → (0 < f) × (epoch_of es f + 1 ≤ epoch)
closed_by-some es f epoch is = grind (arith, common_steps, eqb_tells, leb-true)

-- a fence in an earlier epoch than a place's stands before the place
earlier-place : (es : List Event) (f k : ℕ) → epoch_of es f + 1 ≤ epoch_of es k → f < k
unfolding epoch_of
earlier-place es f k earlier = grind (arith, common_steps, cases_lt, count-mono)

-- the write-back and the fence that close x's interval by the epoch of place k stand before k
closed_before : (es : List Event) (p x k n : ℕ) → is_closed_by (epoch_after es (closing_fence (stores x) (line_of_byte x) es p)) (epoch_of es k) ≡ true →
    k ≤ n → Closing es (line_of_byte x) (last_store es p x) n
unfolding closing_fence closes
closed_before es p x k n closed within =
    let line = line_of_byte x in
    let last = last_store es p x in
    let fence = closing_fence (stores x) line es p in
    let by = closed_by-some es fence (epoch_of es k) closed in
    let before = earlier-place es fence k by.1 in
    let is = and_parts (at is_fence es fence) (some_between (at (flushes line) es) last fence) (least-passes (closes es line last) p by.0) in
    let found = some_between-found (at (flushes line) es) last fence is.1 in
    record {
      flush = found.place;
      fence = fence;
      after = found.after;
      before = omega (arith, found.within);
      within = omega arith;
      is_flush = found.passes;
      is_fence = is.0;
    }

-- ---- what reaches a byte

reach-bound : (es : List Event) (n b : ℕ) (image : Image) → reach_of es n image b ≤ cut_of es n image (line_of_byte b) + 1
unfolding reach_of
reach-bound es n b image = elim (is_in image.torn b) as (λ v. cut_of es n image (line_of_byte b) + (if v then 1 else 0) ≤ cut_of es n image (line_of_byte b) + 1) [ true ↦ omega arith | false ↦ omega arith ]

module _ (es : List Event) (p n : ℕ) (image : Image) (allowed : IsAllowed es n image) (within : n ≤ p)
    (x y : ℕ) (x_written : 0 < last_store es p x) (y_written : 0 < last_store es p y) (shown : shows es n image y ≡ last_store es p y) where
  -- where the store of y is shown, it was made
  made : (at (stores y) es (last_store es p y) ≡ true) × (count_of es (last_store es p y) (line_of_byte y) ≤ reach_of es n image y) × (last_store es p y ≤ n)
  made = subst (λ k. (at (stores y) es k ≡ true) × (count_of es k (line_of_byte y) ≤ reach_of es n image y) × (k ≤ n)) shown (shown-reaches es n y image (omega arith))

  -- x's last store is shown where it reaches x
  shown-where_reached : last_store es p x ≤ n → count_of es (last_store es p x) (line_of_byte x) ≤ reach_of es n image x → shows es n image x ≡ last_store es p x
  shown-where_reached before reached = grind (arith, common_steps, reached-shown, last_store-stores, cases_eq, shown-reaches, last_store-above)

  shown-by_epochs : precedes (interval_at es p x) (interval_at es p y) ≡ true → shows es n image x ≡ last_store es p x
  shown-by_epochs ordered =
      let closed = precedes-parts (last_store es p x == 0) (last_store es p y == 0) _ _ ordered in
      let closing = closed_before es p x (last_store es p y) n closed made.2 in
      let floor = below_the_floor es (line_of_byte x) (last_store es p x) n n (omega arith) closing in
      let cut = allowed.low (line_of_byte x) in
      let reach = cut-reaches es n x image in
      shown-where_reached (omega (arith, closing.after, closing.before, closing.within)) (omega arith)

  shown-by_lines : share_line x y ≡ true → is_stored_before es p x y ≡ true → shows es n image x ≡ last_store es p x
  unfolding is_stored_before
  shown-by_lines share stored = grind (arith, common_steps, ltb-true, count_of-mono, count_of-here, made, reach-bound, cut-reaches, shown-where_reached)

  pub shown-ordered : (profile : Profile) → is_ordered profile es p x y ≡ true → shows es n image x ≡ last_store es p x
  unfolding is_ordered
  shown-ordered profile ordered = grind (arith, common_steps, shown-by_epochs, or_cases, and_parts, shown-by_lines)

pub holds-where_ordered : OrderedPairsHold
holds-where_ordered profile es p a b each n within image allowed x y in_a in_b x_checked y_checked shown =
    shown-ordered es p n image allowed within x y (written-from_checked es p x x_checked) (written-from_checked es p y y_checked) shown
    profile (each x y in_a in_b x_checked y_checked)
