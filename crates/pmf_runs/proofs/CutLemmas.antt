-- A run of a range of its own, cut out of the run in which the range lies.
use Rattle.std.proofs.{Common.{◌≡◌, ℕ, ◌+◌, ◌<◌, ◌≤◌, List, length, get_or, sym, ◌∙◌, subst, arith, inl, inr, insert, Option, None, Some}, lemmas.Bool.{cases_lt}, lemmas.List.Edits.{length-insert, get_or-insert_below, get_or-insert_at, get_or-insert_above}}
use Rattle.pmf_runs.{specs.declared.leaf.Leaf.{Leaf}, specs.Ranks.{rank, HasKey, IsFresh, LiesBefore}, specs.Leaves.{leaf_state, leaf_begins}, specs.Joined.{AreBounds, JoinedBut, ChangesRange}, proofs.RankLemmas.{rank-here, rank-unique, rank-told, insert-has, insert-keeps}, proofs.LeafLemmas.{same-items}, proofs.ChangingLemmas.{changes-after}, proofs.JoinedLemmas.{joined-same}}

-- where a number lies before the key behind another's rank, it has the same rank
pub rank-beyond : (keys : List ℕ) (first end i : ℕ) → i ≡ rank keys first → first < end → LiesBefore keys i (end + 1) → i ≡ rank keys end
rank-beyond keys first end i at order beyond = let at_first = rank-here keys first i at in sym (rank-unique keys end i (grind arith))

pub fresh-beyond : (keys : List ℕ) (first end i : ℕ) → i ≡ rank keys first → first < end → LiesBefore keys i (end + 1) → IsFresh keys end
fresh-beyond keys first end i at order beyond = let at_first = rank-here keys first i at in let same = rank-beyond keys first end i at order beyond in grind arith

-- a key that is put in at its rank is the last of those up to it
pub rank-put : (keys : List ℕ) (p i : ℕ) → i ≡ rank keys p → i + 1 ≡ rank (insert keys i p) p
rank-put keys p i at =
    let at_p = rank-here keys p i at in
    let bound = at_p.bound in
    sym (rank-unique (insert keys i p) p (i + 1) (record {
      bound = let len = length-insert keys i p bound in omega arith;
      upto = λ k below. elim (cases_lt k i) [
        | inl lower ↦ let same = get_or-insert_below keys i p 0 k lower bound in let le = at_p.upto k lower in omega arith
        | inr from ↦ let here = get_or-insert_at keys i p 0 bound in grind arith
      ];
      beyond = λ within.
          let len = length-insert keys i p bound in
          let next = get_or-insert_above keys i p 0 i (omega arith) bound in
          let above = at_p.beyond (omega arith) in
          omega arith;
    }))

-- the key behind the rank is the one behind the key that was put in
pub next-put : (keys : List ℕ) (p i end : ℕ) → i ≡ rank keys p → LiesBefore keys i end → LiesBefore (insert keys i p) (i + 1) end
next-put keys p i end at beyond = λ within.
    let at_p = rank-here keys p i at in
    let bound = at_p.bound in
    let len = length-insert keys i p bound in
    let next = get_or-insert_above keys i p 0 i (omega arith) bound in
    let above = beyond (omega arith) in
    omega arith

-- a number keeps its rank where a key is put in behind it
pub rank-kept : (keys : List ℕ) (first end i : ℕ) → i ≡ rank keys first → first < end → i ≡ rank (insert keys i end) first
rank-kept keys first end i at order =
    let at_first = rank-here keys first i at in
    let bound = at_first.bound in
    sym (rank-unique (insert keys i end) first i (record {
      bound = let len = length-insert keys i end bound in omega arith;
      upto = λ k below. let same = get_or-insert_below keys i end 0 k below bound in let le = at_first.upto k below in omega arith;
      beyond = λ within. let here = get_or-insert_at keys i end 0 bound in omega arith;
    }))

module _ {S : Type 0} where
  -- the run between two keys
  pub cut-none : (leaf : Leaf S) (first end i : ℕ) → i ≡ rank leaf.keys.items first → first < end → leaf_begins leaf first → (i < length leaf.keys.items) × (get_or leaf.keys.items i 0 ≡ end) → AreBounds leaf (Some first) (Some end) i (i + 1)
  unfolding leaf_begins
  cut-none leaf first end i at order begins is =
      let within = is.0 in
      record {
        begins = begins;
        ends = record { place = i; within = within; is = is.1 };
        order = let le : first ≤ end = omega arith in le;
        first = at;
        beyond = rank-told leaf.keys.items end (i + 1) leaf.ordered (omega arith) (λ some. grind arith) (λ more. let lt = leaf.ordered.order i (i + 1) (omega arith) more in grind arith);
      }

  -- the end is put in behind the first number's key
  pub cut-end : (old new : Leaf S) (first end i : ℕ) → i ≡ rank old.keys.items first → first < end → leaf_begins old first → LiesBefore old.keys.items i (end + 1) →
      new.keys.items ≡ insert old.keys.items i end → AreBounds new (Some first) (Some end) i (i + 1)
  unfolding leaf_begins
  cut-end old new first end i at order begins beyond keys =
      let at_first = rank-here old.keys.items first i at in
      let bound = at_first.bound in
      let low = rank-kept old.keys.items first end i at order in
      let high = rank-put old.keys.items end i (rank-beyond old.keys.items first end i at order beyond) in
      record {
        begins = subst (λ ks. HasKey ks first) (sym keys) (insert-keeps old.keys.items end i first bound begins);
        ends = subst (λ ks. HasKey ks end) (sym keys) (insert-has old.keys.items end i bound);
        order = let le : first ≤ end = omega arith in le;
        first = subst (λ ks. i ≡ rank ks first) (sym keys) low;
        beyond = subst (λ ks. i + 1 ≡ rank ks end) (sym keys) high;
      }

  -- the first number is put in before the end's key
  pub cut-first : (old new : Leaf S) (first end i : ℕ) → i ≡ rank old.keys.items first → first < end → (i < length old.keys.items) × (get_or old.keys.items i 0 ≡ end) →
      new.keys.items ≡ insert old.keys.items i first → AreBounds new (Some first) (Some end) (i + 1) (i + 1 + 1)
  unfolding leaf_begins
  cut-first old new first end i at order is keys =
      let within = is.0 in
      let len = length-insert old.keys.items i first (omega arith) in
      let next = get_or-insert_above old.keys.items i first 0 i (omega arith) (omega arith) in
      cut-none new first end (i + 1)
      (subst (λ ks. i + 1 ≡ rank ks first) (sym keys) (rank-put old.keys.items first i at)) order
      (subst (λ ks. HasKey ks first) (sym keys) (insert-has old.keys.items first i (omega arith)))
      (subst (λ ks. (i + 1 < length ks) × (get_or ks (i + 1) 0 ≡ end)) (sym keys) (let more : i + 1 < length (insert old.keys.items i first) = omega arith in more, next ∙ is.1))

  -- where no run was cut, one may have been
  pub joined-more : (leaf : Leaf S) (one : Option ℕ) → JoinedBut leaf None None → JoinedBut leaf one None
  joined-more leaf one joined = grind arith

  pub joined-other : (leaf : Leaf S) (one other : Option ℕ) → JoinedBut leaf one None → JoinedBut leaf one other
  joined-other leaf one other joined = grind arith

  -- the hint bears on no state
  pub hinted : (old hint new : Leaf S) (first end : ℕ) (change : S → S) → hint.keys.items ≡ old.keys.items → hint.states.items ≡ old.states.items → ChangesRange leaf_state JoinedBut first end change hint new → ChangesRange leaf_state JoinedBut first end change old new
  hinted old hint new first end change keys states changes = (
    changes-after (Some first) (Some end) change (leaf_state old) (leaf_state hint) (leaf_state new) (same-items old hint keys states) changes.0,
    λ joined. changes.1 (joined-same old hint None None keys states joined),
  )
