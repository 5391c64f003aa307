-- How rows count, one after another, and the sums of sections.
use Rattle.std.proofs.{Common.{◌≡◌, ◌⊎◌, inl, inr, ℕ, ◌+◌, ◌*◌, ◌-◌, ◌^◌, ◌<◌, ◌≤◌, true, List, [], ◌∷◌, ◌++◌, length, take, get_or, refl, arith, length-append}, lemmas.List.{take_more}, lemmas.List.Sums.{count_by_more_yes, sum_by-append}, lemmas.Grind.{common_steps}}
use Rattle.pmf_event.specs.declared.row.Row.{Row}
use Rattle.pmf_verdict.specs.{declared.outcome.Outcome.{Outcome}, declared.outcome.Outcome.TheVariants.{Pass, Fail, Warn, Empty}, Checked.{Checked, rows_in}, Outcome.{outcome_of, is_same}}
use Rattle.pmf_ledger.specs.{declared.totals.Totals.{Totals}, Report.{IsWithin, both, rows_with, rows_with_in, totals_of}}

-- so many of the first rows count so, of each kind
pub record Counted (rows : List Row) (index pass fail warn empty : ℕ) : Type 0 where
  pub pass_is : pass ≡ rows_with Pass (take index rows)
  pub fail_is : fail ≡ rows_with Fail (take index rows)
  pub warn_is : warn ≡ rows_with Warn (take index rows)
  pub empty_is : empty ≡ rows_with Empty (take index rows)
  pub few : pass + fail + warn + empty ≤ index

pub Counted-none : (rows : List Row) → Counted rows 0 0 0 0 0
unfolding rows_with
Counted-none rows = record { pass_is = refl; fail_is = refl; warn_is = refl; empty_is = refl; few = omega arith }

module _ (rows : List Row) (index : ℕ) (d : Row) (within : index < length rows) where
  counts : (outcome : Outcome) → outcome_of (get_or rows index d).finding ≡ outcome → is_same outcome outcome ≡ true → rows_with outcome (take (index + 1) rows) ≡ rows_with outcome (take index rows) + 1
  unfolding rows_with
  counts outcome found same = grind (arith, common_steps, count_by_more_yes)

  module _ (pass fail warn empty : ℕ) (so_far : Counted rows index pass fail warn empty) where
    pub Counted-pass : outcome_of (get_or rows index d).finding ≡ Pass → Counted rows (index + 1) (pass + 1) fail warn empty
    unfolding is_same rows_with
    Counted-pass found = grind (arith, common_steps, counts)

    pub Counted-fail : outcome_of (get_or rows index d).finding ≡ Fail → Counted rows (index + 1) pass (fail + 1) warn empty
    unfolding is_same rows_with
    Counted-fail found = grind (arith, common_steps, counts)

    pub Counted-warn : outcome_of (get_or rows index d).finding ≡ Warn → Counted rows (index + 1) pass fail (warn + 1) empty
    unfolding is_same rows_with
    Counted-warn found = grind (arith, common_steps, counts)

    pub Counted-empty : outcome_of (get_or rows index d).finding ≡ Empty → Counted rows (index + 1) pass fail warn (empty + 1)
    unfolding is_same rows_with
    Counted-empty found = grind (arith, common_steps, counts)

-- the totals are those of the first sections, each of which has fewer than 2^64 rows
pub record Sums (sections : List Checked) (index : ℕ) (totals : Totals) : Type 0 where
  pub are : totals ≡ totals_of (take index sections)
  pub small : IsWithin index (index * 2 ^ 64) totals

pub Sums-none : (sections : List Checked) → Sums sections 0 (totals_of [])
unfolding totals_of rows_with_in
Sums-none sections = grind (arith, common_steps)

pub Sums_more : (sections : List Checked) (index : ℕ) (totals : Totals) (s : Checked) → index < length sections → s ≡ get_or sections index s →
    IsWithin 1 (2 ^ 64) (totals_of (s ∷ [])) → Sums sections index totals → Sums sections (index + 1) (both totals (totals_of (s ∷ [])))
unfolding totals_of rows_with_in
Sums_more sections index totals s within is small so_far = grind (arith, common_steps, take_more, length-append, sum_by-append)

-- and they fit, since no list has 2^64 sections
pub IsWithin_all : (index : ℕ) (totals : Totals) → index < 2 ^ 64 → IsWithin index (index * 2 ^ 64) totals → IsWithin (2 ^ 64 - 1) (2 ^ 128 - 1) totals
IsWithin_all index totals few within = grind (arith, common_steps)

-- the sums of one section
pub totals_of_one : (s : Checked) → record { sections = 1; pass = rows_with Pass (rows_in s); fail = rows_with Fail (rows_in s); warn = rows_with Warn (rows_in s); empty = rows_with Empty (rows_in s) } ≡ totals_of (s ∷ [])
unfolding totals_of rows_with_in
totals_of_one s = grind (arith, common_steps)

-- a section more
pub totals_more : (sections : List Checked) (s : Checked) → both (totals_of sections) (totals_of (s ∷ [])) ≡ totals_of (sections ++ s ∷ [])
unfolding totals_of rows_with_in
totals_more sections s = grind (arith, common_steps, length-append, sum_by-append)

pub one_within : (old new counts : Totals) (s : Checked) → counts ≡ totals_of (s ∷ []) → new ≡ both old counts → IsWithin old.sections (old.sections * 2 ^ 64) old →
    IsWithin 1 (2 ^ 64) counts → IsWithin new.sections (new.sections * 2 ^ 64) new
unfolding totals_of
one_within old new counts s is sum within small = grind (arith, common_steps)

-- so do the sums of the last run, which has a section more, or is a new one
pub one_within_last : (old new run longer counts : Totals) (s : Checked) → counts ≡ totals_of (s ∷ []) → new ≡ both old counts → IsWithin old.sections (old.sections * 2 ^ 64) run →
    IsWithin 1 (2 ^ 64) counts → (longer ≡ both run counts) ⊎ (longer ≡ counts) → IsWithin new.sections (new.sections * 2 ^ 64) longer
unfolding totals_of
one_within_last old new run longer counts s is sum within small (inl more) = grind (arith, common_steps)
one_within_last old new run longer counts s is sum within small (inr alone) = grind (arith, common_steps)
