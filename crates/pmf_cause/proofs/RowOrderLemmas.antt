-- The places of a section's rows rise.
use Rattle.std.proofs.Common.{◌≡◌, ℕ, zero, suc, ◌<◌, ◌≤◌, List, [], ◌∷◌, ◌++◌, map, length, get_or, sym, arith, subst}
use Rattle.pmf_event.specs.{declared.event.Event.{Event}, declared.finding.Finding.{Finding}, declared.profile.Profile.{Profile}, declared.row.Row.{Row}, Store.{event_at}, FlushWarnings.{if_any}, Transactions.{close_finding}}
use Rattle.pmf_verdict.specs.Rows.{findings_of, row_at, rows_upto, rows_at_end, rows_of}
use Rattle.pmf_cause.specs.Later.{AreInOrder}

-- the rows' places rise from the one number to the other
Rises : ℕ → ℕ → List Row → Type 0
Rises low high [] = low ≤ high
Rises low high (row ∷ rows) = (low ≤ row.place) × Rises row.place high rows

rises-bounds : (low high : ℕ) (rows : List Row) → Rises low high rows → low ≤ high
unfolding Rises
rises-bounds low high [] rises = rises
rises-bounds low high (row ∷ rows) rises = let first = rises.0 in let rest = rises-bounds row.place high rows rises.1 in omega arith

rises-lower : (low middle high : ℕ) (rows : List Row) → low ≤ middle → Rises middle high rows → Rises low high rows
unfolding Rises
rises-lower low middle high [] less rises = omega (arith, less, rises)
rises-lower low middle high (row ∷ rows) less rises = (omega (arith, less, rises.0), rises.1)

rises-append : (low middle high : ℕ) (xs ys : List Row) → Rises low middle xs → Rises middle high ys → Rises low high (xs ++ ys)
unfolding Rises
rises-append low middle high [] ys one other = rises-lower low middle high ys one other
rises-append low middle high (x ∷ xs) ys one other = (one.0, rises-append x.place middle high xs ys one.1 other)

rises-map : (low p high : ℕ) (fs : List Finding) → low ≤ p → p ≤ high → Rises low high (map (row_at p) fs)
unfolding Rises
rises-map low p high [] one other = omega (arith, one, other)
rises-map low p high (f ∷ fs) one other = (one, rises-map p p high fs (omega arith) other)

rises-upto : (profile : Profile) (es : List Event) (n : ℕ) → Rises 1 (suc n) (rows_upto profile es n)
unfolding Rises rows_upto
rises-upto profile es zero = omega arith
rises-upto profile es (suc n) =
    rises-append 1 (suc n) (suc (suc n)) (rows_upto profile es n) (map (row_at (suc n)) (findings_of profile es (suc n) (event_at es (suc n)))) (rises-upto profile es n)
    (rises-map (suc n) (suc n) (suc (suc n)) (findings_of profile es (suc n) (event_at es (suc n))) (omega arith) (omega arith))

rises-of : (profile : Profile) (es : List Event) → Rises 1 (suc (length es)) (rows_of profile es)
unfolding rows_of rows_at_end
rises-of profile es =
    let n = length es in
    rises-append 1 (suc n) (suc n) (rows_upto profile es n) (map (row_at (suc n)) (if_any (close_finding es n))) (rises-upto profile es n)
    (rises-map (suc n) (suc n) (suc n) (if_any (close_finding es n)) (omega arith) (omega arith))

between : (low high : ℕ) (rows : List Row) (k : ℕ) (r : Row) → Rises low high rows → k < length rows → (low ≤ (get_or rows k r).place) × ((get_or rows k r).place ≤ high)
unfolding Rises
between low high [] k r rises within = absurd (omega arith)
between low high (row ∷ rows) zero r rises within = (rises.0, rises-bounds row.place high rows rises.1)
between low high (row ∷ rows) (suc k) r rises within =
    let rest = between row.place high rows k r rises.1 (omega arith) in
    let first = rises.0 in let next = rest.0 in (omega arith, rest.1)

rising : (low high : ℕ) (rows : List Row) (j k : ℕ) (r : Row) → Rises low high rows → j ≤ k → k < length rows → (get_or rows j r).place ≤ (get_or rows k r).place
unfolding Rises
rising low high [] j k r rises before within = absurd (omega arith)
rising low high (row ∷ rows) zero zero r rises before within = omega arith
rising low high (row ∷ rows) zero (suc k) r rises before within = (between row.place high rows k r rises.1 (omega arith)).0
rising low high (row ∷ rows) (suc j) zero r rises before within = absurd (omega arith)
rising low high (row ∷ rows) (suc j) (suc k) r rises before within = rising row.place high rows j k r rises.1 (omega arith) (omega arith)

pub in_order : (rows : List Row) (fs : List Event) (profile : Profile) (es : List Event) → fs ≡ es → rows ≡ rows_of profile es → AreInOrder rows (length fs)
in_order rows fs profile es same is =
    let high = suc (length fs) in
    let rises = subst (Rises 1 high) (sym is) (subst (λ xs. Rises 1 (suc (length xs)) (rows_of profile es)) (sym same) (rises-of profile es)) in
    record {
      some = λ k r within. let low = (between 1 high rows k r rises within).0 in omega arith;
      within = λ k r within. (between 1 high rows k r rises within).1;
      rise = λ j k r before within. rising 1 high rows j k r rises before within;
    }
