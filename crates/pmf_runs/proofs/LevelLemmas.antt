-- The states of a level, by its keys and parts.
use Rattle.std.proofs.{Common.{◌≡◌, ℕ, zero, suc, ◌+◌, ◌<◌, ◌≤◌, Bool, true, List, [], ◌∷◌, length, get_or, set, take, drop, map, refl, sym, ◌∙◌, ap, arith, inl, nat_le, nat_lt, ◌&&◌, if◌then◌else◌, Option, IfSome, insert, remove, get_or-set_same, get_or-set_other, length-set}, lemmas.Bool.{cases_eq}, lemmas.List.{get_or-map, set-get_or, map-set, length-map, take-map, drop-map}}
use Rattle.pmf_runs.{specs.declared.level.Level.{Level}, specs.Ranks.{rank, at_rank, HasKey, SameStates, ChangesWithin, Splits, IsInner, reaches, falls_short, is_within, bound_at, IsTail, parting}, specs.Levels.{part_states, level_state, level_begins, level_middle, Rewrites, BeginsAt, GoesOn}, proofs.LeafLemmas.{all-within}, proofs.RankLemmas.{rank-is, rank-key, bound_at-same, bound_at-other, at_rank-insert, at_rank-remove, at_rank-take, at_rank-drop, last-rank}}

map-insert : {X Y : Type 0} (f : X → Y) (xs : List X) (i : ℕ) (x : X) → map f (insert xs i x) ≡ insert (map f xs) i (f x)
map-insert f xs zero x = refl
map-insert f [] (suc i) x = refl
map-insert f (y ∷ ys) (suc i) x = ap (λ zs. f y ∷ zs) (map-insert f ys i x)

module _ {P : Type 0} where
  pub level-counted : (level : Level P) → length level.parts.items ≡ length level.keys.items + 1
  level-counted level = let counted = level.counted in omega (arith, level.parts.ok.0, level.keys.ok.0)

  pub level-bound : (level : Level P) (b : ℕ) → rank level.keys.items b < length level.parts.items
  level-bound level b = let r = rank-is level.keys.items b in let bound = r.bound in let counted = level-counted level in omega arith

  module _ {S : Type 0} (state : P → S → ℕ → S) where
    pub level-single : (level : Level P) (part : P) → level.keys.items ≡ [] → level.parts.items ≡ part ∷ [] → SameStates (state part) (level_state state level)
    unfolding level_state at_rank rank
    level-single level part keys parts = grind arith

    pub level-read : (level : Level P) (part : P) (b i : ℕ) → i ≡ rank level.keys.items b → part ≡ get_or level.parts.items i part → (d : S) → state part d b ≡ level_state state level d b
    unfolding level_state at_rank
    level-read level part b i is read d = grind (arith, level-bound, get_or-map)

    pub states-set : (parts : List P) (part new : P) (i : ℕ) (d : S) (b : ℕ) → i < length parts → part ≡ get_or parts i part → state new d b ≡ state part d b →
        part_states state (set parts i new) d b ≡ part_states state parts d b
    states-set parts part new i d b within read same =
        map-set (λ p. state p d b) parts i new
        ∙ ap (set (part_states state parts d b) i) (same ∙ ap (λ p. state p d b) read ∙ sym (get_or-map (λ p. state p d b) parts i part d within))
        ∙ set-get_or (part_states state parts d b) i d

    -- a part takes a new value that has the same states
    pub level-set : (old new : Level P) (part next : P) (i : ℕ) → i < length old.parts.items → part ≡ get_or old.parts.items i part → SameStates (state part) (state next) →
        new.keys.items ≡ old.keys.items → new.parts.items ≡ set old.parts.items i next → SameStates (level_state state old) (level_state state new)
    unfolding level_state
    level-set old new part next i within read same keys parts = grind (arith, states-set)

    pub level-same : (old new : Level P) → new.keys.items ≡ old.keys.items → new.parts.items ≡ old.parts.items → SameStates (level_state state old) (level_state state new)
    unfolding level_state
    level-same old new keys parts = grind arith

    -- a part is split in two at a new key
    pub level-split : (old new : Level P) (part low high : P) (p i : ℕ) → i ≡ rank old.keys.items p → part ≡ get_or old.parts.items i part →
        Splits p (state part) (state low) (state high) → new.keys.items ≡ insert old.keys.items i p → new.parts.items ≡ insert (set old.parts.items i low) (i + 1) high →
        SameStates (level_state state old) (level_state state new)
    unfolding level_state
    level-split old new part low high p i at read splits keys parts = grind (arith, rank-is, level-counted, get_or-map, map-insert, map-set, at_rank-insert, length-map)

    pub level-low : (old low : Level P) (m : ℕ) → m < length old.keys.items → low.keys.items ≡ take m old.keys.items → low.parts.items ≡ take (m + 1) old.parts.items →
        (d : S) (b : ℕ) → b < get_or old.keys.items m 0 → level_state state low d b ≡ level_state state old d b
    unfolding level_state
    level-low old low m within keys parts d b below =
        ap (λ ks. at_rank ks (part_states state low.parts.items d b) d b) keys
        ∙ ap (λ ps. at_rank (take m old.keys.items) (part_states state ps d b) d b) parts
        ∙ ap (λ ss. at_rank (take m old.keys.items) ss d b) (sym (take-map (λ q. state q d b) (m + 1) old.parts.items))
        ∙ at_rank-take old.keys.items (part_states state old.parts.items d b) m d b within below

    pub level-high : (old high : Level P) (m : ℕ) → m < length old.keys.items → high.keys.items ≡ drop (m + 1) old.keys.items → high.parts.items ≡ drop (m + 1) old.parts.items →
        (d : S) (b : ℕ) → get_or old.keys.items m 0 ≤ b → level_state state high d b ≡ level_state state old d b
    unfolding level_state
    level-high old high m within keys parts d b from =
        ap (λ ks. at_rank ks (part_states state high.parts.items d b) d b) keys
        ∙ ap (λ ps. at_rank (drop (m + 1) old.keys.items) (part_states state ps d b) d b) parts
        ∙ ap (λ ss. at_rank (drop (m + 1) old.keys.items) ss d b) (sym (drop-map (λ q. state q d b) (m + 1) old.parts.items))
        ∙ at_rank-drop old.keys.items (part_states state old.parts.items d b) m d b old.ordered within from

  -- ---- where runs begin

  module _ (begins : P → ℕ → Type 0) where
    pub level-has : (level : Level P) (b : ℕ) → HasKey level.keys.items b → level_begins begins level b
    unfolding level_begins
    level-has level b has = inl has

    pub level-begun : (old new : Level P) (next : P) (p i : ℕ) → i ≡ rank old.keys.items p → new.keys.items ≡ old.keys.items → new.parts.items ≡ set old.parts.items i next → begins next p → level_begins begins new p
    unfolding level_begins
    level-begun old new next p i at keys parts begun = let bound = level-bound old p in let same = get_or-set_same old.parts.items i next in grind (arith, same)

    pub level-kept : (old new : Level P) (part next : P) (i : ℕ) → i < length old.parts.items → part ≡ get_or old.parts.items i part → ((b : ℕ) → begins part b → begins next b) →
        new.keys.items ≡ old.keys.items → new.parts.items ≡ set old.parts.items i next → (b : ℕ) → level_begins begins old b → level_begins begins new b
    unfolding level_begins
    level-kept old new part next i within read kept keys parts b begun =
        let same = get_or-set_same old.parts.items i next in
        let other = get_or-set_other old.parts.items i (rank old.keys.items b) next in
        grind (arith, kept, same, other)

pub level-middle-is : {P : Type 0} (level : Level P) (m place : ℕ) → m ≡ parting level.keys.items place → get_or level.keys.items m 0 ≡ level_middle level place
unfolding level_middle
level-middle-is level m place is = ap (λ k. get_or level.keys.items k 0) is

-- ---- rewriting the parts one after another

if-true : {X : Type 0} (t : Bool) (x y : X) → t ≡ true → (if t then x else y) ≡ x
if-true t x y is = ap (λ u. if u then x else y) is

module _ {P S : Type 0} (state : P → S → ℕ → S) (change : S → S) (low last : ℕ) (from end : Option ℕ) where
  pub rewrites-more : (old now new : List P) (part next : P) (i : ℕ) → low ≤ i → i < length now → part ≡ get_or now i part →
      ChangesWithin (bound_at low i from) (bound_at last i end) change (state part) (state next) → new ≡ set now i next →
      ((d : P) (k : ℕ) → i ≤ k → get_or now k d ≡ get_or old k d) → Rewrites state change low last from end i old now → Rewrites state change low last from end (i + 1) old new
  rewrites-more old now new part next i after within read changes is rest so_far = grind (arith, length-set, map-set, cases_eq, get_or-set_same, length-map, get_or-map, if-true, all-within, get_or-set_other)

  pub rest-more : (old now new : List P) (next : P) (i : ℕ) → new ≡ set now i next → ((d : P) (k : ℕ) → i ≤ k → get_or now k d ≡ get_or old k d) → (d : P) (k : ℕ) → i + 1 ≤ k → get_or new k d ≡ get_or old k d
  rest-more old now new next i is rest d k past = ap (λ ps. get_or ps k d) is ∙ get_or-set_other now i k next d (λ same. omega arith) ∙ rest d k (omega arith)

-- a run begins where a bound is handed down
pub begins-bound : {P : Type 0} (begins : P → ℕ → Type 0) (level : Level P) (part : P) (index i : ℕ) (bound r : Option ℕ) → r ≡ bound_at index i bound → IfSome bound (λ b. BeginsAt begins level index b) →
    part ≡ get_or level.parts.items i part → IfSome r (λ b. begins part b)
begins-bound begins level part index i bound r h1 h2 h3 = grind (arith, cases_eq, bound_at-same, bound_at-other)

-- what is handed down begins a run in the part that it is handed to
pub inner-begins : {P : Type 0} (begins : P → ℕ → Type 0) (level : Level P) (bound inner : Option ℕ) (i : ℕ) → IsInner level.keys.items bound inner → IfSome bound (λ b. i ≡ rank level.keys.items b) → IfSome bound (level_begins begins level) → IfSome inner (λ b. BeginsAt begins level i b)
unfolding level_begins
inner-begins begins level bound inner i is at has = grind (arith, rank-key, rank-is)

-- the bounds that are handed down and the parts that they are handed to say what the bounds say
pub level-rewritten : {P S : Type 0} (state : P → S → ℕ → S) (change : S → S) (old new : Level P) (low high : ℕ) (from end first last : Option ℕ) →
    ((b : ℕ) → reaches from b ≡ (nat_le low (rank old.keys.items b) && reaches (bound_at low (rank old.keys.items b) first) b)) →
    ((b : ℕ) → falls_short end b ≡ (nat_lt (rank old.keys.items b) (high + 1) && falls_short (bound_at high (rank old.keys.items b) last) b)) →
    new.keys ≡ old.keys → Rewrites state change low high first last (high + 1) old.parts.items new.parts.items → ChangesWithin from end change (level_state state old) (level_state state new)
unfolding level_state at_rank is_within
level-rewritten state change old new low high from end first last low_law high_law keys changes = grind (arith, level-bound)

map-remove : {X Y : Type 0} (f : X → Y) (xs : List X) (i : ℕ) → map f (remove xs i) ≡ remove (map f xs) i
map-remove f [] zero = refl
map-remove f [] (suc i) = refl
map-remove f (x ∷ xs) zero = refl
map-remove f (x ∷ xs) (suc i) = ap (λ ys. f x ∷ ys) (map-remove f xs i)

-- a part is taken out that the one before it stands for as well
pub level-joined : {P S : Type 0} (state : P → S → ℕ → S) (old new : Level P) (part : P) (key : ℕ) → key < length old.keys.items → GoesOn state old key →
    new.keys.items ≡ remove old.keys.items key → new.parts.items ≡ remove old.parts.items (key + 1) → SameStates (level_state state old) (level_state state new)
unfolding level_state
level-joined state old new part key within goes_on keys parts = record {
  states = λ d b.
      let f : _ → _ = λ p. state p d b in
      let counted = level-counted old in
      ap (λ ks. at_rank ks (map f new.parts.items) d b) keys
      ∙ ap (λ ps. at_rank (remove old.keys.items key) (map f ps) d b) parts
      ∙ ap (λ ss. at_rank (remove old.keys.items key) ss d b) (map-remove f old.parts.items (key + 1))
      ∙ at_rank-remove old.keys.items (map f old.parts.items) key d b old.ordered within (length-map old.parts.items f ∙ counted)
      (λ from. get_or-map f old.parts.items key part d (omega arith) ∙ goes_on.same part d b from ∙ sym (get_or-map f old.parts.items (key + 1) part d (omega arith)));
}

-- the last part's tail is the level's
pub level-tail : {P S : Type 0} (state : P → S → ℕ → S) (level : Level P) (part : P) (place last : ℕ) (tail : Option S) → last ≡ length level.keys.items → last ≡ rank level.keys.items place →
    part ≡ get_or level.parts.items last part → IfSome tail (IsTail (state part) place) → IfSome tail (IsTail (level_state state level) place)
level-tail state level part place last tail h1 h2 h3 h4 = grind (arith, level-read, last-rank)
