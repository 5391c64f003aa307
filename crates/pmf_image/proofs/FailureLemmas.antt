-- Failures are real: the image of a certificate that shows one.
use Rattle.std.{proofs.Common.{◌≡◌, ℕ, ◌+◌, ◌-◌, ◌<◌, ◌≤◌, Bool, true, false, not, ◌&&◌, ◌==◌, if◌then◌else◌, List, [], refl, sym, ◌∙◌, ap, arith, inl, inr, subst, Some, None, le-leb, ne_eqb}, proofs.lemmas.Bool.{cases_lt, or_cases, and_parts, and_from, ltb-true, eqb-false, not-true}, proofs.lemmas.Bool.Decides.{Decides-eqb}, proofs.lemmas.Grind.{common_steps}}
use Rattle.pmf_event.{specs.declared.event.Event.{Event}, specs.declared.interval.Interval.{Interval}, specs.declared.profile.Profile.{Profile}, specs.Line.{line_of_byte}, specs.Places.{greatest, least, count, some_between}, specs.Store.{at, stores, flushes, is_fence, last_store, epoch_of}, specs.Interval.{closes, closing_fence, epoch_after, interval_at, is_open}, specs.Order.{is_closed_by, precedes, share_line, is_stored_before, is_ordered, is_unordered, is_certified}, specs.Persist.{is_checked, is_exposed}, proofs.PlacesLemmas.{greatest-bound, least-below, least-passes, count-mono, count-here, some_between-here}, proofs.EventLemmas.{not_fence_and_store}, proofs.IntervalLemmas.{Closing, no_Closing-from_open}}
use Rattle.pmf_image.{proofs.CertificateLemmas.{cut-is}, specs.Image.{Image, count_of, is_fenced, floor_of, cut_of, reaches, shows}, specs.declared.certificate.Certificate.{Certificate}, specs.Certificate.{image_of, cut_in}, specs.Laws.{CertificatesAreAllowed, OpenIntervalsAreShown, OpenIntervalsDoNotHold, at_place, CertifiedPairsAreShown}, proofs.ImageLemmas.{written-from_checked, last_store-stores, last_store-bound, shown-reaches, count_of-here, count_of-mono, reached-shown, reach-untorn, Closing-from_fenced, floor-below_count, untorn-allowed}}

-- ---- the image of a certificate

-- with no full line every cut is the floor
no_line-cut : (es : List Event) (n line : ℕ) → cut_in es (record { crash = n; full_line = None }) line ≡ floor_of es n line
no_line-cut es n line = cut-is es (record { crash = n; full_line = None }) line

full-cut : (es : List Event) (n line : ℕ) → cut_in es (record { crash = n; full_line = Some line }) line ≡ count_of es n line
full-cut es n line = cut-is es (record { crash = n; full_line = Some line }) line ∙ ap (λ v. if v then count_of es n line else floor_of es n line) ((Decides-eqb line line).1 refl)

other-cut : (es : List Event) (n line other : ℕ) → (line == other) ≡ false → cut_in es (record { crash = n; full_line = Some line }) other ≡ floor_of es n other
other-cut es n line other apart = cut-is es (record { crash = n; full_line = Some line }) other ∙ ap (λ v. if v then count_of es n other else floor_of es n other) apart

cut-within : (es : List Event) (c : Certificate) (line : ℕ) → (floor_of es c.crash line ≤ cut_in es c line) × (cut_in es c line ≤ count_of es c.crash line)
cut-within es c line = grind (arith, common_steps, floor-below_count, cut-is)

pub certificates-allowed : CertificatesAreAllowed
certificates-allowed es c = untorn-allowed es c.crash (image_of es c) refl (cut-within es c)

-- ---- what a byte shows at its line's floor

-- where a line is at its floor, a store that is shown, or a later one, was written back and fenced
shown-closed : (es : List Event) (n b k : ℕ) (image : Image) → image.torn ≡ [] → cut_of es n image (line_of_byte b) ≡ floor_of es n (line_of_byte b) →
    0 < k → at (stores b) es k ≡ true → k ≤ shows es n image b → Closing es (line_of_byte b) k n
unfolding floor_of
shown-closed es n b k image untorn floor some is shown =
    let line = line_of_byte b in
    let here = shown-reaches es n b image (omega arith) in
    let reach = reach-untorn es n b image untorn in
    let flush = greatest (is_fenced es n line) n in
    let rank = count_of-mono es k (shows es n image b) line shown in
    let rise = count_of-here es b k some is in
    elim (cases_lt k flush) [
      | inl later ↦ Closing-from_fenced es line k n later
      | inr before ↦ let fewer = count_of-mono es (flush - 1) (k - 1) line (omega arith) in absurd (omega (arith, here.1))
    ]

pub shown-where_open : OpenIntervalsAreShown
unfolding is_exposed
shown-where_open es p b exposed =
    let is = and_parts (is_checked es p b) (is_open (interval_at es p b)) exposed in
    let written = written-from_checked es p b is.0 in
    let image = image_of es (record { crash = p; full_line = None }) in
    elim (cases_lt (shows es p image b) (last_store es p b)) [
      | inl less ↦ less
      | inr more ↦ absurd (no_Closing-from_open es p b is.1 (shown-closed es p b (last_store es p b) image refl (no_line-cut es p (line_of_byte b)) written (last_store-stores es p b written) more))
    ]

pub not_holds-where_open : OpenIntervalsDoNotHold
unfolding is_exposed
not_holds-where_open es p s b within covered exposed holds =
    let c = at_place p in
    let less = shown-where_open es p b exposed in
    let more = holds p (omega arith) within (image_of es c) (certificates-allowed es c) b covered (and_parts _ _ exposed).0 in omega arith

-- ---- certified pairs

-- a byte whose store was written back and fenced before y's last store is durable before y
closed_by-closing : (es : List Event) (p x k : ℕ) → k ≤ p → (c : Closing es (line_of_byte x) (last_store es p x) k) → c.fence < k →
    is_closed_by (epoch_after es (closing_fence (stores x) (line_of_byte x) es p)) (epoch_of es k) ≡ true
unfolding closing_fence closes epoch_of
closed_by-closing es p x k within c before =
    let line = line_of_byte x in
    let last = last_store es p x in
    let between = some_between-here (at (flushes line) es) last c.fence c.flush c.after c.before c.is_flush in
    let first = least-below (closes es line last) p c.fence (omega (arith, c.before)) (omega (arith, c.within)) (and_from (at is_fence es c.fence) (some_between (at (flushes line) es) last c.fence) c.is_fence between) in
    let fence = least (closes es line last) p in
    let is = and_parts (at is_fence es fence) (some_between (at (flushes line) es) last fence) (least-passes (closes es line last) p first.0) in
    let rise = count-here (at is_fence es) fence first.0 is.0 in
    let more = count-mono (at is_fence es) fence (k - 1) (omega (arith, first.1)) in
    ap (λ v. is_closed_by (if v then None else Some (count (at is_fence es) (fence - 1) + 1)) (count (at is_fence es) (k - 1))) (ne_eqb fence 0 (λ none. omega (arith, first.0)))
    ∙ le-leb (count (at is_fence es) (fence - 1) + 1) (count (at is_fence es) (k - 1)) (omega arith)

precedes-from : (u v : Bool) (x y : Interval) → u ≡ false → v ≡ false → is_closed_by x.closes y.opens ≡ true →
    precedes (if u then None else Some x) (if v then None else Some y) ≡ true
precedes-from u v x y one other is = grind (arith, common_steps)

pub ordered-from_precedes : (profile : Profile) (es : List Event) (p x y : ℕ) → precedes (interval_at es p x) (interval_at es p y) ≡ true → is_ordered profile es p x y ≡ true
unfolding is_ordered
ordered-from_precedes profile es p x y is = grind (arith, common_steps)

pub unordered-parts : (u v w : Bool) → (u && v && not w) ≡ true → (u ≡ true) × (v ≡ true) × (w ≡ false)
unordered-parts u v w is = grind (arith, common_steps)

pub shows-bound : (es : List Event) (n b : ℕ) (image : Image) → shows es n image b ≤ n
unfolding shows
shows-bound es n b image = greatest-bound (reaches es n image b) n

module _ (es : List Event) (p x y : ℕ) (x_written : 0 < last_store es p x) (y_written : 0 < last_store es p y) where
  at_y : Image
  at_y = image_of es (record { crash = last_store es p y; full_line = Some (line_of_byte y) })

  y-shown : shows es (last_store es p y) at_y y ≡ last_store es p y
  unfolding at_y
  y-shown = grind (arith, common_steps, reach-untorn, full-cut, reached-shown, last_store-stores, shows-bound)

  -- x's last store isn't shown on another line, unless it was durable before y's
  x-shown : (line_of_byte y == line_of_byte x) ≡ false → shows es (last_store es p y) at_y x ≡ last_store es p x →
      precedes (interval_at es p x) (interval_at es p y) ≡ true
  unfolding at_y
  x-shown apart shown =
      let n = last_store es p y in
      let image = image_of es (record { crash = n; full_line = Some (line_of_byte y) }) in
      let closing = shown-closed es n x (last_store es p x) image refl (other-cut es n (line_of_byte y) (line_of_byte x) apart) x_written (last_store-stores es p x x_written) (omega arith) in
      let before : closing.fence < n = elim (cases_lt closing.fence n) [
        | inl less ↦ less
        | inr more ↦
            let same : closing.fence ≡ n = omega (arith, closing.within) in
            absurd (not_fence_and_store es y n (subst (λ k. at is_fence es k ≡ true) same closing.is_fence) (last_store-stores es p y y_written))
      ] in
      precedes-from (last_store es p x == 0) (last_store es p y == 0) _ _ (ne_eqb (last_store es p x) 0 (λ none. omega arith)) (ne_eqb (last_store es p y) 0 (λ none. omega arith))
      (closed_by-closing es p x n (last_store-bound es p y) closing before)

apart-other : (x y : ℕ) → not (share_line x y) ≡ true → (line_of_byte y == line_of_byte x) ≡ false
apart-other x y apart = ne_eqb _ _ (λ same. eqb-false (line_of_byte x) (line_of_byte y) (not-true _ apart) (sym same))

pub pair-shown : CertifiedPairsAreShown
unfolding is_certified is_unordered at_y is_stored_before
pair-shown profile es p x y certified = grind (arith, common_steps, and_parts, unordered-parts, written-from_checked, y-shown, or_cases, ordered-from_precedes, x-shown, apart-other, ltb-true, shows-bound)
