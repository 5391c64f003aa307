-- The states of a leaf, by its keys and states.
use Rattle.std.proofs.{Common.{◌≡◌, ℕ, ◌+◌, ◌-◌, ◌/◌, ◌<◌, ◌≤◌, List, [], ◌∷◌, ◌++◌, length, get_or, take, drop, refl, sym, ◌∙◌, ap, subst, arith, true, ◌&&◌, nat_le, nat_lt, Option, IfSome, insert, remove}, lemmas.List.{get_or_read, take_rest}, lemmas.Bool.Decides.{nat_tests}}
use Rattle.pmf_runs.{specs.declared.leaf.Leaf.{Leaf}, specs.Ranks.{rank, at_rank, HasKey, SameStates, ChangesWithin, ChangesItems, low_rank, high_rank, IsTail, parting, is_within}, specs.Leaves.{leaf_state, leaf_begins, leaf_middle}, proofs.RankLemmas.{rank-is, rank-here, at_rank-put, at_rank-remove, at_rank-take, at_rank-drop, insert-has, insert-keeps, le-true, lt-true, last-rank, falls-rank, rank-above, rank-key}}

module _ {S : Type 0} where
  pub state-single : (leaf : Leaf S) (d s : S) (b : ℕ) → leaf.keys.items ≡ [] → leaf.states.items ≡ s ∷ [] → leaf_state leaf d b ≡ s
  unfolding leaf_state at_rank rank
  state-single leaf d s b keys states = grind arith

  pub leaf-counted : (leaf : Leaf S) → length leaf.states.items ≡ length leaf.keys.items + 1
  leaf-counted leaf = let counted = leaf.counted in omega (arith, leaf.states.ok.0, leaf.keys.ok.0)

  pub rank-bound : (leaf : Leaf S) (b : ℕ) → rank leaf.keys.items b < length leaf.states.items
  rank-bound leaf b = let r = rank-is leaf.keys.items b in let bound = r.bound in let counted = leaf-counted leaf in omega arith

  pub state-read : (leaf : Leaf S) (s : S) (b i : ℕ) → i ≡ rank leaf.keys.items b → s ≡ get_or leaf.states.items i s → (d : S) → s ≡ leaf_state leaf d b
  unfolding leaf_state at_rank
  state-read leaf s b i is read d = grind (arith, rank-bound, get_or_read)

  -- ---- the leaf after a step

  pub same-items : (old new : Leaf S) → new.keys.items ≡ old.keys.items → new.states.items ≡ old.states.items → SameStates (leaf_state old) (leaf_state new)
  unfolding leaf_state at_rank
  same-items old new keys states = grind arith

  pub begins-kept : (old new : Leaf S) → new.keys.items ≡ old.keys.items → (b : ℕ) → leaf_begins old b → leaf_begins new b
  unfolding leaf_begins
  begins-kept old new keys b begins = subst (λ ks. HasKey ks b) (sym keys) begins

  pub begins-is : (leaf : Leaf S) (b : ℕ) → HasKey leaf.keys.items b → leaf_begins leaf b
  unfolding leaf_begins
  begins-is leaf b has = has

  pub begins-put : (old new : Leaf S) (p i : ℕ) → i ≡ rank old.keys.items p → new.keys.items ≡ insert old.keys.items i p → leaf_begins new p
  unfolding leaf_begins
  begins-put old new p i at keys =
      let at_p = rank-is old.keys.items p in
      let bound = at_p.bound in
      subst (λ ks. HasKey ks p) (sym keys) (insert-has old.keys.items p i (omega arith))

  pub begins-put_kept : (old new : Leaf S) (p i : ℕ) → i ≡ rank old.keys.items p → new.keys.items ≡ insert old.keys.items i p → (b : ℕ) → leaf_begins old b → leaf_begins new b
  unfolding leaf_begins
  begins-put_kept old new p i at keys b begins =
      let at_p = rank-is old.keys.items p in
      let bound = at_p.bound in
      subst (λ ks. HasKey ks b) (sym keys) (insert-keeps old.keys.items p i b (omega arith) begins)

  pub same-put : (old new : Leaf S) (p i : ℕ) (s : S) → i ≡ rank old.keys.items p → s ≡ get_or old.states.items i s → new.keys.items ≡ insert old.keys.items i p → new.states.items ≡ insert old.states.items (i + 1) s →
      SameStates (leaf_state old) (leaf_state new)
  unfolding leaf_state
  same-put old new p i s at read keys states = record {
    states = λ d b.
        let at_p = rank-here old.keys.items p i at in
        let counted = leaf-counted old in
        let bound = at_p.bound in
        ap (λ ks. at_rank ks new.states.items d b) keys
        ∙ ap (λ ss. at_rank (insert old.keys.items i p) ss d b) states
        ∙ at_rank-put old.keys.items old.states.items p i s d b at_p counted (get_or_read old.states.items i s (omega arith) read d);
  }

  pub same-joined : (old new : Leaf S) (i : ℕ) (x y : S) → i < length old.keys.items → x ≡ get_or old.states.items i x → y ≡ get_or old.states.items (i + 1) y → x ≡ y →
      new.keys.items ≡ remove old.keys.items i → new.states.items ≡ remove old.states.items (i + 1) → SameStates (leaf_state old) (leaf_state new)
  unfolding leaf_state
  same-joined old new i x y within read_x read_y same keys states = grind (arith, leaf-counted, get_or_read, at_rank-remove)

  pub same-both : (a b c : S → ℕ → S) → SameStates a b → SameStates b c → SameStates a c
  same-both a b c one two = record { states = λ d p. two.states d p ∙ one.states d p }

  pub same-none : (a : S → ℕ → S) → SameStates a a
  same-none a = record { states = λ d p. refl }

  pub changes-items : (old new : Leaf S) (from end : Option ℕ) (change : S → S) → IfSome from (leaf_begins old) → IfSome end (leaf_begins old) → new.keys.items ≡ old.keys.items →
      ChangesItems (low_rank old.keys.items from) (high_rank old.keys.items end) change old.states.items new.states.items → ChangesWithin from end change (leaf_state old) (leaf_state new)
  unfolding leaf_state leaf_begins at_rank is_within
  changes-items old new from end change has_from has_end keys changes = grind (arith, rank-is, le-true, rank-above, rank-key, nat_tests, falls-rank, leaf-counted)

  pub changes-same : (from end : Option ℕ) (change : S → S) (a b c : S → ℕ → S) → ChangesWithin from end change a b → SameStates b c → ChangesWithin from end change a c
  changes-same from end change a b c one two = record { states = λ d p. two.states d p ∙ one.states d p }

  -- ---- changing the states in place

  pub changes-rewritten : (old mid new : Leaf S) (from end : Option ℕ) (change : S → S) → SameStates (leaf_state mid) (leaf_state new) → IfSome from (leaf_begins old) → IfSome end (leaf_begins old) →
      mid.keys.items ≡ old.keys.items → ChangesItems (low_rank old.keys.items from) (high_rank old.keys.items end) change old.states.items mid.states.items → ChangesWithin from end change (leaf_state old) (leaf_state new)
  changes-rewritten old mid new from end change same has_from has_end keys changes =
      changes-same from end change (leaf_state old) (leaf_state mid) (leaf_state new) (changes-items old mid from end change has_from has_end keys changes) same

  -- ---- parting a leaf

  pub parts-low : (old low : Leaf S) (m : ℕ) → m < length old.keys.items → low.keys.items ≡ take m old.keys.items → low.states.items ≡ take (m + 1) old.states.items →
      (d : S) (b : ℕ) → b < get_or old.keys.items m 0 → leaf_state low d b ≡ leaf_state old d b
  unfolding leaf_state
  parts-low old low m within keys states d b below = grind (arith, at_rank-take)

  pub parts-high : (old high : Leaf S) (m : ℕ) → m < length old.keys.items → high.keys.items ≡ drop (m + 1) old.keys.items → high.states.items ≡ drop (m + 1) old.states.items →
      (d : S) (b : ℕ) → get_or old.keys.items m 0 ≤ b → leaf_state high d b ≡ leaf_state old d b
  unfolding leaf_state
  parts-high old high m within keys states d b from = grind (arith, at_rank-drop)

-- a copy of the end of a list
pub rest-copied : (keys now before after : List ℕ) (n : ℕ) → now ≡ keys → before ≡ [] → after ≡ before ++ take (length now - n) (drop n now) → after ≡ drop n keys
rest-copied keys now before after n is none copied = grind (arith, take_rest)

pub middle-is : {S : Type 0} (leaf : Leaf S) (m place : ℕ) → m ≡ parting leaf.keys.items place → get_or leaf.keys.items m 0 ≡ leaf_middle leaf place
unfolding leaf_middle
middle-is leaf m place is = ap (λ k. get_or leaf.keys.items k 0) is

pub parted-last : (keys : List ℕ) (place last key : ℕ) → last ≡ length keys - 1 → key ≡ get_or keys last 0 → key ≤ place → last ≡ parting keys place
unfolding parting
parted-last keys place last key is at le = grind arith

pub parted-middle : (keys : List ℕ) (place last key half : ℕ) → last ≡ length keys - 1 → half ≡ length keys / 2 → key ≡ get_or keys last 0 → place < key → half ≡ parting keys place
unfolding parting
parted-middle keys place last key half is halves at lt = grind arith

pub all-within : (low high k : ℕ) → low ≤ k → k < high → (nat_le low k && nat_lt k high) ≡ true
all-within low high k le lt = ap (λ t. t && nat_lt k high) (le-true low k le) ∙ lt-true k high lt

pub leaf-tail : {S : Type 0} (leaf : Leaf S) (s : S) (place last : ℕ) → last ≡ length leaf.keys.items → last ≡ rank leaf.keys.items place → s ≡ get_or leaf.states.items last s → IsTail (leaf_state leaf) place s
leaf-tail leaf s place last is at read = λ d b from. sym (state-read leaf s b last (last-rank leaf.keys.items place b last is at from) read d)
