-- The first state that passes, where the range ends beyond all keys.
use Rattle.std.proofs.{Common.{◌≡◌, ℕ, ◌-◌, ◌<◌, ◌≤◌, Bool, true, false, List, length, get_or, sym, ◌∙◌, ap, subst, arith, Some, None}, lemmas.List.{get_or_read}}
use Rattle.pmf_event.{specs.Ranges.{first_from}, proofs.RangeLemmas.{first_from-none, first_from-some}}
use Rattle.pmf_runs.{specs.declared.leaf.Leaf.{Leaf}, specs.Ranks.{rank, at_rank, Rises, IsBeyond}, specs.Leaves.{leaf_state}, proofs.RankLemmas.{IsRank, rank-is, rank-unique, rank-above, rises-le}, proofs.LeafLemmas.{leaf-counted, rank-bound}}

-- a key is the first number of the run after it
rank-at : (keys : List ℕ) (i : ℕ) → Rises keys → 0 < i → i ≤ length keys → rank keys (get_or keys (i - 1) 0) ≡ i
rank-at keys i rises some within = rank-unique keys (get_or keys (i - 1) 0) i (grind (arith, rises-le, rises.order))

-- a number below a key has a rank below that of the key
rank-under : (keys : List ℕ) (b i : ℕ) → 0 < i → i ≤ length keys → b < get_or keys (i - 1) 0 → rank keys b < i
rank-under keys b i some within below = grind (arith, rank-is)

module _ {S : Type 0} (test : S → Bool) (leaf : Leaf S) (first index : ℕ) (at : index ≡ rank leaf.keys.items first) where
  -- no state of the runs from index up to i passes
  abbrev pub NoneUpto : ℕ → Type 0
  NoneUpto i = (k : ℕ) (d : S) → index ≤ k → k < i → test (get_or leaf.states.items k d) ≡ false

  -- a number from first on, of a run below i, has a state that fails
  fails-at : (i : ℕ) → NoneUpto i → (d : S) (b : ℕ) → first ≤ b → rank leaf.keys.items b < i → test (leaf_state leaf d b) ≡ false
  unfolding leaf_state at_rank
  fails-at i none d b from below = grind (arith, rank-above, first, IsRank, at, rank-is)

  pub onward-none : (i : ℕ) → length leaf.states.items ≤ i → NoneUpto i → (d : S) (end : ℕ) → None ≡ first_from (λ b. test (leaf_state leaf d b)) first (end - first)
  onward-none i all none d end = grind (arith, first_from-none, rank-bound, fails-at)

  -- a number of a run that passes
  passes-at : (i b : ℕ) → i ≡ rank leaf.keys.items b → ((d : S) → test (get_or leaf.states.items i d) ≡ true) → (d : S) → test (leaf_state leaf d b) ≡ true
  unfolding leaf_state at_rank
  passes-at i b own passes d = sym (ap (λ k. test (get_or leaf.states.items k d)) own) ∙ passes d

  -- the run of first passes
  pub onward-first : (i : ℕ) → i ≡ index → ((d : S) → test (get_or leaf.states.items i d) ≡ true) → (d : S) (end : ℕ) → first < end → Some first ≡ first_from (λ b. test (leaf_state leaf d b)) first (end - first)
  onward-first i same passes d end some = let here = passes-at i first (same ∙ at) passes d in
      sym (first_from-some (λ b. test (leaf_state leaf d b)) first (end - first) first (grind arith))

  -- a later run is the first that passes
  pub onward-later : (i number : ℕ) → index < i → i < length leaf.states.items → NoneUpto i → number ≡ get_or leaf.keys.items (i - 1) number → ((d : S) → test (get_or leaf.states.items i d) ≡ true) →
      (d : S) (end : ℕ) → IsBeyond leaf.keys.items end → Some number ≡ first_from (λ b. test (leaf_state leaf d b)) first (end - first)
  onward-later i number after within none key passes d end beyond =
      let keys = leaf.keys.items in
      let counted = leaf-counted leaf in
      let begins = get_or_read keys (i - 1) number (omega arith) key 0 in
      let here = subst (IsRank keys first) (sym at) (rank-is keys first) in
      let past = here.beyond (omega arith) in
      let order = rises-le keys index (i - 1) leaf.ordered (omega arith) (omega arith) in
      let short = beyond.above (i - 1) (omega arith) in
      let own = rank-at keys i leaf.ordered (omega arith) (omega arith) in
      let own_passes = passes-at i number (sym own ∙ ap (rank keys) (sym begins)) passes d in
      sym (first_from-some (λ b. test (leaf_state leaf d b)) first (end - first) number (grind (arith, fails-at, rank-under)))
