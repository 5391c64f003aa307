-- Two elements that are put in at an index, and two keys of a leaf.
use Rattle.std.proofs.{Common.{◌≡◌, ℕ, ◌+◌, ◌-◌, ◌<◌, ◌≤◌, List, [], ◌∷◌, ◌++◌, length, get_or, set, sym, ◌∙◌, ap, subst, arith, inl, inr, insert, Some, None, length-set, get_or-set_same, get_or-set_other}, lemmas.Bool.{cases_lt, cases_eq}, lemmas.List.{get_or_read, get_or_append_left, length-append, same_lists}, lemmas.List.Edits.{length-insert, get_or-insert_below, get_or-insert_at, get_or-insert_above}}
use Rattle.pmf_runs.{specs.declared.leaf.Leaf.{Leaf}, specs.Ranks.{rank, at_rank, HasKey, IsFresh, LiesBefore, Rises, SameStates, with_two}, specs.Leaves.{leaf_state, leaf_begins}, specs.Joined.{AreBounds, JoinedBut}, proofs.RankLemmas.{rank-here, insert-has, insert-keeps, insert-fresh, at_rank-put}, proofs.LeafLemmas.{leaf-counted}, proofs.JoinedLemmas.{joined-plain}, proofs.CutLemmas.{rank-beyond, fresh-beyond, rank-put, rank-kept, next-put}}

module _ {X : Type 0} where
  pub two-len : (xs : List X) (i : ℕ) (a b : X) → i ≤ length xs → length (with_two xs i a b) ≡ length xs + 2
  two-len xs i a b bound =
      let one = length-insert xs i a bound in
      let two = length-insert (insert xs i a) (i + 1) b (omega arith) in omega arith

  pub two-below : (xs : List X) (i : ℕ) (a b d : X) (k : ℕ) → i ≤ length xs → k < i → get_or (with_two xs i a b) k d ≡ get_or xs k d
  two-below xs i a b d k bound below =
      let one = length-insert xs i a bound in
      get_or-insert_below (insert xs i a) (i + 1) b d k (omega arith) (omega arith) ∙ get_or-insert_below xs i a d k below bound

  pub two-first : (xs : List X) (i : ℕ) (a b d : X) → i ≤ length xs → get_or (with_two xs i a b) i d ≡ a
  two-first xs i a b d bound =
      let one = length-insert xs i a bound in
      get_or-insert_below (insert xs i a) (i + 1) b d i (omega arith) (omega arith) ∙ get_or-insert_at xs i a d bound

  pub two-second : (xs : List X) (i : ℕ) (a b d : X) → i ≤ length xs → get_or (with_two xs i a b) (i + 1) d ≡ b
  two-second xs i a b d bound = let one = length-insert xs i a bound in get_or-insert_at (insert xs i a) (i + 1) b d (omega arith)

  pub two-above : (xs : List X) (i : ℕ) (a b d : X) (k : ℕ) → i ≤ length xs → i ≤ k → get_or (with_two xs i a b) (k + 1 + 1) d ≡ get_or xs k d
  two-above xs i a b d k bound from =
      let one = length-insert xs i a bound in
      get_or-insert_above (insert xs i a) (i + 1) b d (k + 1) (omega arith) (omega arith) ∙ get_or-insert_above xs i a d k from bound

  pub two-later : (xs : List X) (i : ℕ) (a b d : X) (k : ℕ) → i ≤ length xs → i + 2 ≤ k → get_or (with_two xs i a b) k d ≡ get_or xs (k - 2) d
  two-later xs i a b d k bound from =
      let same : k - 2 + 1 + 1 ≡ k = omega arith in
      ap (λ n. get_or (with_two xs i a b) n d) (sym same) ∙ two-above xs i a b d (k - 2) bound (omega arith)

  -- the elements from the index on were moved by two
  pub two-put : (xs full moved ys : List X) (i n : ℕ) (a b : X) → n ≡ length xs → i ≤ n → full ≡ (xs ++ (a ∷ [])) ++ (b ∷ []) → length moved ≡ n + 2 →
      ((k : ℕ) (d : X) → k < i + 2 → get_or moved k d ≡ get_or full k d) → ((k : ℕ) (d : X) → i + 2 ≤ k → k < i + 2 + (n - i) → get_or moved k d ≡ get_or full (i + (k - (i + 2))) d) →
      ys ≡ set (set moved i a) (i + 1) b → ys ≡ with_two xs i a b
  two-put xs full moved ys i n a b is bound made len below above sets =
      let one = length-set moved i a in
      let two = length-set (set moved i a) (i + 1) b in
      let wide = two-len xs i a b (omega arith) in
      let more = length-append xs (a ∷ []) in
      let front : (k : ℕ) (d : X) → k < n → get_or full k d ≡ get_or xs k d = λ k d within.
      ap (λ l. get_or l k d) made ∙ get_or_append_left (xs ++ (a ∷ [])) (b ∷ []) d k (omega arith) ∙ get_or_append_left xs (a ∷ []) d k (omega arith) in
      let beside : (k : ℕ) (d : X) → (k ≡ i → ⊥) → (k ≡ i + 1 → ⊥) → get_or (set (set moved i a) (i + 1) b) k d ≡ get_or moved k d = λ k d first second.
      get_or-set_other (set moved i a) (i + 1) k b d second ∙ get_or-set_other moved i k a d first in
      sets ∙ same_lists (set (set moved i a) (i + 1) b) (with_two xs i a b) (omega arith) (λ k d within. elim (cases_eq k (i + 1)) [
        | inl second ↦ ap (λ m. get_or (set (set moved i a) (i + 1) b) m d) second ∙ get_or-set_same (set moved i a) (i + 1) b d (omega arith)
            ∙ sym (two-second xs i a b d (omega arith)) ∙ ap (λ m. get_or (with_two xs i a b) m d) (sym second)
        | inr other ↦ elim (cases_eq k i) [
          | inl first ↦ ap (λ m. get_or (set (set moved i a) (i + 1) b) m d) first ∙ get_or-set_other (set moved i a) (i + 1) i b d (λ same. omega arith) ∙ get_or-set_same moved i a d (omega arith)
              ∙ sym (two-first xs i a b d (omega arith)) ∙ ap (λ m. get_or (with_two xs i a b) m d) (sym first)
          | inr third ↦ elim (cases_lt k i) [
            | inl lower ↦ beside k d third other ∙ below k d (omega arith) ∙ front k d (omega arith) ∙ sym (two-below xs i a b d k (omega arith) lower)
            | inr from ↦
                let place : i + (k - (i + 2)) ≡ k - 2 = omega arith in
                beside k d third other ∙ above k d (omega arith) (omega arith) ∙ ap (λ m. get_or full m d) place ∙ front (k - 2) d (omega arith) ∙ sym (two-later xs i a b d k (omega arith) (omega arith))
          ]
        ]
      ])

pub two-rises : (keys : List ℕ) (first end i : ℕ) → Rises keys → i ≡ rank keys first → IsFresh keys first → first < end → LiesBefore keys i (end + 1) → Rises (with_two keys i first end)
two-rises keys first end i rises at fresh order beyond =
    let next = next-put keys first i (end + 1) at beyond in
    let put = rank-put keys first i at in
    insert-fresh (insert keys i first) end (i + 1) (insert-fresh keys first i rises at fresh) (rank-beyond (insert keys i first) first end (i + 1) put order next) (fresh-beyond (insert keys i first) first end (i + 1) put order next)

module _ {S : Type 0} where
  pub two-bounds : (old new : Leaf S) (first end i : ℕ) → i ≡ rank old.keys.items first → first < end → LiesBefore old.keys.items i (end + 1) → new.keys.items ≡ with_two old.keys.items i first end →
      AreBounds new (Some first) (Some end) (i + 1) (i + 1 + 1)
  unfolding leaf_begins
  two-bounds old new first end i at order beyond keys =
      let is = rank-here old.keys.items first i at in
      let bound = is.bound in
      let put = rank-put old.keys.items first i at in
      let at_put = rank-here (insert old.keys.items i first) first (i + 1) put in
      let within = at_put.bound in
      let next = next-put old.keys.items first i (end + 1) at beyond in
      record {
        begins = subst (λ ks. HasKey ks first) (sym keys) (insert-keeps (insert old.keys.items i first) end (i + 1) first within (insert-has old.keys.items first i bound));
        ends = subst (λ ks. HasKey ks end) (sym keys) (insert-has (insert old.keys.items i first) end (i + 1) within);
        order = let le : first ≤ end = omega arith in le;
        first = subst (λ ks. i + 1 ≡ rank ks first) (sym keys) (rank-kept (insert old.keys.items i first) first end (i + 1) put order);
        beyond = subst (λ ks. i + 1 + 1 ≡ rank ks end) (sym keys) (rank-put (insert old.keys.items i first) end (i + 1) (rank-beyond (insert old.keys.items i first) first end (i + 1) put order next));
      }

  pub two-same : (old new : Leaf S) (first end i : ℕ) (s : S) → i ≡ rank old.keys.items first → first < end → LiesBefore old.keys.items i (end + 1) → s ≡ get_or old.states.items i s →
      new.keys.items ≡ with_two old.keys.items i first end → new.states.items ≡ with_two old.states.items (i + 1) s s → SameStates (leaf_state old) (leaf_state new)
  unfolding leaf_state
  two-same old new first end i s at order beyond read keys states = record {
    states = λ d b.
        let is = rank-here old.keys.items first i at in
        let bound = is.bound in
        let counted = leaf-counted old in
        let next = next-put old.keys.items first i (end + 1) at beyond in
        let ends = rank-here (insert old.keys.items i first) end (i + 1) (rank-beyond (insert old.keys.items i first) first end (i + 1) (rank-put old.keys.items first i at) order next) in
        let ks = length-insert old.keys.items i first bound in
        let ss = length-insert old.states.items (i + 1) s (omega arith) in
        ap (λ l. at_rank l new.states.items d b) keys
        ∙ ap (λ l. at_rank (with_two old.keys.items i first end) l d b) states
        ∙ at_rank-put (insert old.keys.items i first) (insert old.states.items (i + 1) s) end (i + 1) s d b ends (omega arith) (sym (get_or-insert_at old.states.items (i + 1) s d (omega arith)))
        ∙ at_rank-put old.keys.items old.states.items first i s d b is counted (get_or_read old.states.items i s (omega arith) read d);
  }

  pub two-joined : (old new : Leaf S) (first end i : ℕ) (s : S) → i ≡ rank old.keys.items first → s ≡ get_or old.states.items i s →
      new.keys.items ≡ with_two old.keys.items i first end → new.states.items ≡ with_two old.states.items (i + 1) s s → JoinedBut old None None → JoinedBut new (Some first) (Some end)
  two-joined old new first end i s at read keys states joined = record {
    only = λ k d within same.
        let is = rank-here old.keys.items first i at in
        let bound = is.bound in
        let counted = leaf-counted old in
        let len = two-len old.keys.items i first end bound in
        let plain = joined-plain old joined in
        let inside : k < length (with_two old.keys.items i first end) = subst (λ l. k < length l) keys within in
        let state : (m : ℕ) → get_or new.states.items m d ≡ get_or (with_two old.states.items (i + 1) s s) m d = λ m. ap (λ l. get_or l m d) states in
        let key : (m : ℕ) → get_or new.keys.items m 0 ≡ get_or (with_two old.keys.items i first end) m 0 = λ m. ap (λ l. get_or l m 0) keys in
        elim (cases_eq k i) [
          | inl here ↦ inl (ap (λ n. Some n) (sym (key k ∙ ap (λ m. get_or (with_two old.keys.items i first end) m 0) here ∙ two-first old.keys.items i first end 0 bound)))
          | inr other ↦ elim (cases_eq k (i + 1)) [
            | inl second ↦ inr (ap (λ n. Some n) (sym (key k ∙ ap (λ m. get_or (with_two old.keys.items i first end) m 0) second ∙ two-second old.keys.items i first end 0 bound)))
            | inr third ↦ elim (cases_lt k i) [
              | inl lower ↦
                  let x = state k ∙ two-below old.states.items (i + 1) s s d k (omega arith) (omega arith) in
                  let y = state (k + 1) ∙ two-below old.states.items (i + 1) s s d (k + 1) (omega arith) (omega arith) in
                  absurd (plain.differ k d (omega arith) (sym x ∙ same ∙ y))
              | inr from ↦
                  let x = state k ∙ elim (cases_eq k (i + 1 + 1)) [
                    | inl copied ↦ ap (λ m. get_or (with_two old.states.items (i + 1) s s) m d) copied ∙ two-second old.states.items (i + 1) s s d (omega arith)
                        ∙ get_or_read old.states.items i s (omega arith) read d ∙ ap (λ m. get_or old.states.items m d) (let one : i ≡ k - 2 = omega arith in one)
                    | inr later ↦ two-later old.states.items (i + 1) s s d k (omega arith) (omega arith)
                  ] in
                  let y = state (k + 1) ∙ two-later old.states.items (i + 1) s s d (k + 1) (omega arith) (omega arith) in
                  let after : k + 1 - 2 ≡ k - 2 + 1 = omega arith in
                  absurd (plain.differ (k - 2) d (omega arith) (sym x ∙ same ∙ y ∙ ap (λ m. get_or old.states.items m d) after))
            ]
          ]
        ];
  }
