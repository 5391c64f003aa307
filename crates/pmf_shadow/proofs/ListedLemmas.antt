-- Numbers that are sorted.
use Rattle.std.proofs.{Common.{ℕ, Bool, true, List, ◌∙◌}, lemmas.List.{get_or_default}, lemmas.List.Sorted.{Contains-permutation, IsNonDecreasingBy-from_sort}}
use Rattle.std.specs.{List.{Contains}, List.Sorted.{IsPermutation, IsSorted}, Ordering.{nat_cmp}}
use Rattle.pmf_runs.specs.Ranks.{HasKey}
use Rattle.pmf_shadow.specs.Orders.{NeverFall, AreListed}

from_contained : (numbers : List ℕ) (q : ℕ) → Contains numbers q → HasKey numbers q
from_contained numbers q has = record { place = has.0; within = has.1; is = get_or_default numbers has.0 0 q has.1 ∙ has.2 }

-- sorting keeps what is listed, and lets no number fall
pub sorted_listed : (old new : List ℕ) (passes : ℕ → Bool) → IsPermutation old new → AreListed true old passes → AreListed true new passes
sorted_listed old new passes moved listed = record {
  listed = λ told q some outside. listed.listed told q some (λ was.
      outside (from_contained new q (Contains-permutation old new q moved (was.place, was.within, get_or_default old was.place q 0 was.within ∙ was.is))));
}

pub sorted_rises : (numbers : List ℕ) → IsSorted nat_cmp numbers → NeverFall numbers
sorted_rises numbers sorted = let rising = IsNonDecreasingBy-from_sort (λ n. n) numbers sorted in record { order = λ i j upto within. rising i j 0 upto within }
