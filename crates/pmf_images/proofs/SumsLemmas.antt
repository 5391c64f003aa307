-- Counts that stand in levels.
use Rattle.std.proofs.{Common.{◌≡◌, ℕ, zero, suc, ◌+◌, ◌-◌, ◌/◌, ◌%◌, ◌<◌, ◌≤◌, Bool, ◌&&◌, ◌==◌, List, ◌++◌, length, get_or, take, drop, refl, sym, ap, ◌∙◌, arith, min, set, length-take}, lemmas.Bool.{cases_eq}, lemmas.List.{get_or-set_same, get_or-set_other, get_or_past, take_at, drop_at}, lemmas.Grind.{common_steps}}
use Rattle.pmf_images.specs.Sums.{COUNT_LIMIT, over, lies_in, raised_if}

pub set_one : (xs : List ℕ) (i x v : ℕ) → i < length xs → raised_if (x == i) (get_or xs x 0) ≤ COUNT_LIMIT → v ≡ min (get_or xs i 0 + 1) COUNT_LIMIT →
    get_or (set xs i v) x 0 ≡ raised_if (x == i) (get_or xs x 0)
set_one xs i x v within low is = grind (arith, common_steps, get_or-set_same, get_or-set_other, cases_eq)

-- past the width there is nothing
pub over_past : (k : ℕ) (sums : List ℕ) (width x : ℕ) → width ≤ x → over k sums width x ≡ 0
unfolding over
over_past zero sums width x past = refl
over_past (suc k) sums width x past =
    let here = get_or_past (take width sums) x 0 (let short = length-take width sums in omega arith) in
    let above = over_past k (drop width sums) (width / 2) (x / 2) (omega arith) in
    omega arith

-- one level, and what stands above it
pub over_step : (k : ℕ) (level above : List ℕ) (width x : ℕ) → length level ≡ width → over (suc k) (level ++ above) width x ≡ get_or level x 0 + over k above (width / 2) (x / 2)
unfolding over
over_step k level above width x long = rw (take_at level above width long, drop_at level above width long) refl

-- the same, where the list is cut
pub over_cut : (k : ℕ) (sums level above : List ℕ) (width x : ℕ) → level ≡ take width sums → above ≡ drop width sums → over (suc k) sums width x ≡ get_or level x 0 + over k above (width / 2) (x / 2)
unfolding over
over_cut k sums level above width x front back = rw (front, back) refl

-- one of a pair lies in the range where it is an end of it, or where the pair lies in it, and not both
in_range-cases : (first end x : ℕ) → first < end → (a b : ℕ) →
    raised_if (lies_in first end x) (a + b)
    ≡ raised_if ((end % 2 == 1) && (x == end - 1)) (raised_if ((first % 2 == 1) && (x == first)) a) + raised_if (lies_in ((first + 1) / 2) (end / 2) (x / 2)) b
unfolding lies_in
in_range-cases first end x some a b = grind (arith, common_steps)

bounded : (c : Bool) (n m : ℕ) → n < m → raised_if c n ≤ m
bounded c n m less = grind (arith, common_steps)

module _ (first end width : ℕ) (old level above level1 level2 above2 : List ℕ) (front : level ≡ take width old) (back : above ≡ drop width old) (some : first < end) (within : end ≤ width) (long : length level2 ≡ width)
    (one : (x : ℕ) → raised_if ((first % 2 == 1) && (x == first)) (get_or level x 0) ≤ COUNT_LIMIT → get_or level1 x 0 ≡ raised_if ((first % 2 == 1) && (x == first)) (get_or level x 0))
    (two : (x : ℕ) → raised_if ((end % 2 == 1) && (x == end - 1)) (get_or level1 x 0) ≤ COUNT_LIMIT → get_or level2 x 0 ≡ raised_if ((end % 2 == 1) && (x == end - 1)) (get_or level1 x 0))
    (up : (k x : ℕ) → width / 2 ≤ k → over k above (width / 2) x < COUNT_LIMIT → over k above2 (width / 2) x ≡ raised_if (lies_in ((first + 1) / 2) (end / 2) x) (over k above (width / 2) x)) where
  pub raised : (k x : ℕ) → width ≤ k → over k old width x < COUNT_LIMIT → over k (level2 ++ above2) width x ≡ raised_if (lies_in first end x) (over k old width x)
  raised zero x deep low = absurd (omega arith)
  raised (suc k) x deep low =
      let was = over_cut k old level above width x front back in
      let a = get_or level x 0 in
      let b = over k above (width / 2) (x / 2) in
      let c1 = (first % 2 == 1) && (x == first) in
      let c2 = (end % 2 == 1) && (x == end - 1) in
      let cases = in_range-cases first end x some a b in
      let most : raised_if (lies_in first end x) (a + b) ≤ COUNT_LIMIT = bounded (lies_in first end x) (a + b) COUNT_LIMIT (omega arith) in
      let small : a < COUNT_LIMIT = omega arith in
      let at_first : get_or level1 x 0 ≡ raised_if c1 a = one x (bounded c1 a COUNT_LIMIT small) in
      let less : raised_if c2 (get_or level1 x 0) ≤ COUNT_LIMIT = rw at_first (omega arith) in
      let at_end : get_or level2 x 0 ≡ raised_if c2 (get_or level1 x 0) = two x less in
      over_step k level2 above2 width x long
      ∙ ap (λ n. n + over k above2 (width / 2) (x / 2)) (at_end ∙ ap (raised_if c2) at_first)
      ∙ ap (λ n. raised_if c2 (raised_if c1 a) + n) (up k (x / 2) (omega arith) (omega arith))
      ∙ sym cases
      ∙ ap (raised_if (lies_in first end x)) (sym was)

-- what a read of all levels gives
pub read : (sums level above : List ℕ) (width x here rest total : ℕ) → level ≡ take width sums → above ≡ drop width sums → x < width → here ≡ get_or level x 0 →
    ((k : ℕ) → width / 2 ≤ k → over k above (width / 2) (x / 2) ≤ COUNT_LIMIT → rest ≡ over k above (width / 2) (x / 2)) → total ≡ min (here + rest) COUNT_LIMIT →
    (k : ℕ) → width ≤ k → over k sums width x ≤ COUNT_LIMIT → total ≡ over k sums width x
read sums level above width x here rest total front back within at_x up is zero deep low = absurd (omega arith)
read sums level above width x here rest total front back within at_x up is (suc k) deep low =
    let cut = over_cut k sums level above width x front back in
    let same = up k (omega arith) (omega arith) in
    omega arith
