-- Leaves and levels whose neighbouring runs differ, by what is done to them.
use Rattle.std.proofs.{Common.{◌≡◌, ℕ, ◌+◌, ◌-◌, ◌<◌, ◌≤◌, List, length, get_or, take, drop, sym, subst, arith, inl, inr, ◌⊎◌, Option, None, Some, IfSome, insert, remove, length-take-le, get_or-take, length-drop, get_or-drop}, lemmas.Bool.{cases_lt, cases_eq}, lemmas.List.{get_or_read}, lemmas.List.Edits.{length-insert, get_or-insert_below, get_or-insert_at, get_or-insert_above, length-remove, get_or-remove_below, get_or-remove_above}}
use Rattle.pmf_runs.{specs.declared.leaf.Leaf.{Leaf}, specs.Ranks.{rank, HasKey, Rises, ChangesItems, low_rank, high_rank}, specs.Leaves.{leaf_begins}, specs.Joined.{Joined, JoinedBut, JoinedBeside, InOrder}, proofs.RankLemmas.{rank-is, rank-key, rank-above}, proofs.LeafLemmas.{leaf-counted}}

some-is : (a b : ℕ) → Some a ≡ Some b → a ≡ b
some-is a b is = cc is

none-some : (b : ℕ) → None ≡ Some b → ⊥
none-some b is = absurd (cc is)

-- a key is the one before its rank
pub key-rank : (keys : List ℕ) (p k : ℕ) → Rises keys → HasKey keys p → k < length keys → get_or keys k 0 ≡ p → k + 1 ≡ rank keys p
key-rank keys p k rises has within is = let at_p = rank-is keys p in grind (arith, rank-key, rises.order)

-- an element that is left out of a range keeps its state
outside-range : {S : Type 0} (low high k : ℕ) (change : S → S) (old new : List S) (d : S) → ChangesItems low high change old new → k < length old → (k < low) ⊎ (high ≤ k) → get_or new k d ≡ get_or old k d
outside-range low high k change old new d changes within where_is = grind arith

-- a cut key stands before a bound's rank
cut-place : (keys : List ℕ) (bound : Option ℕ) (k : ℕ) → Rises keys → IfSome bound (HasKey keys) → k < length keys → bound ≡ Some (get_or keys k 0) → (k + 1 ≡ low_rank keys bound) × (k + 1 ≡ high_rank keys bound)
cut-place keys bound k h1 h2 h3 h4 = grind (arith, none-some, key-rank, some-is)

pub rank-order : (keys : List ℕ) (from end : Option ℕ) → InOrder from end → low_rank keys from ≤ high_rank keys end
rank-order keys from end h1 = grind (arith, rank-is, rank-above)

module _ {S : Type 0} where
  pub joined-plain : (leaf : Leaf S) → JoinedBut leaf None None → Joined leaf
  joined-plain leaf joined = grind arith

  pub plain-joined : (leaf : Leaf S) → Joined leaf → JoinedBut leaf None None
  plain-joined leaf joined = grind arith

  pub joined-same : (old new : Leaf S) (one other : Option ℕ) → new.keys.items ≡ old.keys.items → new.states.items ≡ old.states.items → JoinedBut old one other → JoinedBut new one other
  joined-same old new one other keys states joined = grind arith

  pub joined-swap : (leaf : Leaf S) (one other : Option ℕ) → JoinedBut leaf one other → JoinedBut leaf other one
  joined-swap leaf one other joined = grind arith

  -- a key is put in, with the same state on its two sides
  pub joined-put : (old new : Leaf S) (p i : ℕ) (s : S) (other : Option ℕ) → i ≡ rank old.keys.items p → s ≡ get_or old.states.items i s → new.keys.items ≡ insert old.keys.items i p →
      new.states.items ≡ insert old.states.items (i + 1) s → JoinedBut old other None → JoinedBut new (Some p) other
  joined-put old new p i s other at read keys states joined = record {
    only = λ k d inside same_new.
        let at_p = rank-is old.keys.items p in
        let bound = at_p.bound in
        let counted = leaf-counted old in
        let fits : i ≤ length old.keys.items = omega arith in
        let room : i + 1 ≤ length old.states.items = omega arith in
        let len = length-insert old.keys.items i p fits in
        let is = get_or_read old.states.items i s (omega arith) read d in
        elim (cases_lt k i) [
          | inl below ↦
              let x = get_or-insert_below old.states.items (i + 1) s d k (omega arith) room in
              let y = get_or-insert_below old.states.items (i + 1) s d (k + 1) (omega arith) room in
              let key = get_or-insert_below old.keys.items i p 0 k below fits in
              grind (arith, joined.only)
          | inr from ↦ elim (cases_eq k i) [
            | inl here ↦ let key = get_or-insert_at old.keys.items i p 0 fits in grind arith
            | inr other_place ↦
                let x = get_or-insert_at old.states.items (i + 1) s d room in
                let x_past = get_or-insert_above old.states.items (i + 1) s d (k - 1) in
                let y = get_or-insert_above old.states.items (i + 1) s d k (omega arith) room in
                let key = get_or-insert_above old.keys.items i p 0 (k - 1) (omega arith) fits in
                grind (arith, joined.only (k - 1) d, x_past)
          ]
        ];
  }

  -- the states between two bounds are changed
  pub joined-changed : (old new : Leaf S) (from end : Option ℕ) (change : S → S) → IfSome from (leaf_begins old) → IfSome end (leaf_begins old) → InOrder from end → new.keys.items ≡ old.keys.items →
      ChangesItems (low_rank old.keys.items from) (high_rank old.keys.items end) change old.states.items new.states.items → JoinedBut old from end →
      JoinedBeside new (low_rank old.keys.items from) (high_rank old.keys.items end)
  unfolding leaf_begins
  joined-changed old new from end change has_from has_end order keys changes joined = record {
    differ = λ k d inside where_is same.
        let counted = leaf-counted old in
        let upto = rank-order old.keys.items from end order in
        let x = outside-range (low_rank old.keys.items from) (high_rank old.keys.items end) k change old.states.items new.states.items d changes in
        let y = outside-range (low_rank old.keys.items from) (high_rank old.keys.items end) (k + 1) change old.states.items new.states.items d changes in
        let first = cut-place old.keys.items from k old.ordered has_from in
        let last = cut-place old.keys.items end k old.ordered has_end in
        grind (arith, joined.only, x, y, first, last);
  }

  pub joined-rewritten : (old mid new : Leaf S) (low high : ℕ) (from end : Option ℕ) (change : S → S) → (JoinedBeside mid low high → JoinedBut new None None) →
      IfSome from (leaf_begins old) → IfSome end (leaf_begins old) → InOrder from end → low ≡ low_rank old.keys.items from → high ≡ high_rank old.keys.items end → mid.keys.items ≡ old.keys.items →
      ChangesItems (low_rank old.keys.items from) (high_rank old.keys.items end) change old.states.items mid.states.items → JoinedBut old from end → JoinedBut new None None
  joined-rewritten old mid new low high from end change joins has_from has_end order at_low at_high keys changes joined =
      let beside = joined-changed old mid from end change has_from has_end order keys changes joined in
      joins (subst (λ n. JoinedBeside mid n high) (sym at_low) (subst (λ n. JoinedBeside mid (low_rank old.keys.items from) n) (sym at_high) beside))

  -- a key is taken out, and the state after it, which is that before it
  pub beside-taken : (old new : Leaf S) (low key : ℕ) (x y : S) → key < length old.keys.items → x ≡ get_or old.states.items key x → y ≡ get_or old.states.items (key + 1) y → x ≡ y → low ≤ key + 1 →
      new.keys.items ≡ remove old.keys.items key → new.states.items ≡ remove old.states.items (key + 1) → JoinedBeside old low (key + 1) → JoinedBeside new low key
  beside-taken old new low key x y inside read_x read_y is upto keys states beside = grind (arith, leaf-counted, get_or_read, length-remove, get_or-remove_below, get_or-remove_above)

  -- ---- parting a leaf

  pub joined-low : (old low : Leaf S) (m : ℕ) → m < length old.keys.items → low.keys.items ≡ take m old.keys.items → low.states.items ≡ take (m + 1) old.states.items → JoinedBut old None None → JoinedBut low None None
  joined-low old low m inside keys states joined = record { only = λ k d within_new same_new. grind (arith, joined.only, length-take-le, get_or-take) }

  pub joined-high : (old high : Leaf S) (m : ℕ) → m < length old.keys.items → high.keys.items ≡ drop (m + 1) old.keys.items → high.states.items ≡ drop (m + 1) old.states.items → JoinedBut old None None → JoinedBut high None None
  joined-high old high m inside keys states joined = record { only = λ k d within_new same_new. grind (arith, joined.only, length-drop, get_or-drop) }
