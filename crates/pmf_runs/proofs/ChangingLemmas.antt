-- Where a change alters states, run by run, and what a change of those alone comes to.
use Rattle.std.proofs.{Common.{◌≡◌, ℕ, suc, ◌+◌, ◌<◌, ◌≤◌, Bool, true, false, List, [], ◌∷◌, zero, set, map, length, get_or, sym, ◌∙◌, ap, arith, if◌then◌else◌, Option, Some, Result, OnOk, OnErr, get_or-set_same, get_or-set_other}, lemmas.Bool.{cases_lt}, lemmas.List.{get_or-map, map-set, length-map}}
use Rattle.pmf_runs.{specs.declared.leaf.Leaf.{Leaf}, specs.declared.level.Level.{Level}, specs.Levels.{level_state}, proofs.LevelLemmas.{level-bound}, specs.Ranks.{rank, at_rank, Rises, SameStates, ChangesWithin, AltersWithin, Sees, IsStop, CoversAll, Splits, is_within}, specs.Leaves.{leaf_state}, proofs.RankLemmas.{rank-here, IsRank, rank-is, rank-unique, rises-le, le-true, le-false, lt-false}, proofs.LeafLemmas.{rank-bound, state-read}}

-- the run of an index goes on to where it stops, and the next one begins there
pub record Runs (keys : List ℕ) (start end index stop : ℕ) : Type 0 where
  pub up : start < stop
  pub upto : stop ≤ end
  pub here : (b : ℕ) → start ≤ b → b < stop → index ≡ rank keys b
  pub next : stop < end → index + 1 ≡ rank keys stop

run-here : (keys : List ℕ) (start index stop b : ℕ) → IsRank keys start index → (index < length keys → stop ≤ get_or keys index 0) → start ≤ b → b < stop → index ≡ rank keys b
run-here keys start index stop b is beyond from below = sym (rank-unique keys b index (grind arith))

run-next : (keys : List ℕ) (start index : ℕ) → Rises keys → IsRank keys start index → index < length keys → index + 1 ≡ rank keys (get_or keys index 0)
run-next keys start index rises is within = sym (rank-unique keys (get_or keys index 0) (index + 1) (grind (arith, rises-le, rises.order)))

pub run-is : (keys : List ℕ) (start end index stop : ℕ) → Rises keys → index ≡ rank keys start → start < end → IsStop keys index end stop → Runs keys start end index stop
run-is keys start end index stop rises at below stops =
    let is = rank-here keys start index at in
    let past = is.beyond in
    record {
      up = grind arith;
      upto = grind arith;
      here = λ b from lt. run-here keys start index stop b is (grind arith) from lt;
      next = λ short. let on = run-next keys start index rises is in grind arith;
    }

pub sees-low : {S : Type 0} (first start stop : ℕ) (s : S) (change : S → S) (low high next last : ℕ) → first ≤ low → first ≤ start → Sees start stop s change low high next last → first ≤ next
sees-low first start stop s change low high next last order after seen = grind arith

pub sees-upto : {S : Type 0} (start stop end : ℕ) (s : S) (change : S → S) (low high next last : ℕ) → stop ≤ end → (low < high → high ≤ end) → Sees start stop s change low high next last → next < last → last ≤ end
sees-upto start stop end s change low high next last upto so_far seen lt = grind arith

module _ {S : Type 0} (state : S → ℕ → S) (change : S → S) where
  pub alters-none : (first low high : ℕ) → low ≡ high → AltersWithin first first low high change state
  alters-none first low high same = grind arith

  pub alters-more : (first end start stop low high next last : ℕ) (s : S) → first ≤ start → first ≤ low → start < stop →
      ((d : S) (b : ℕ) → start ≤ b → b < stop → state d b ≡ s) → AltersWithin first start low high change state →
      Sees start stop s change low high next last → AltersWithin first stop next last change state
  alters-more first end start stop low high next last s after order up run so_far seen = grind arith

  -- nothing is altered
  pub changes-none : (new : S → ℕ → S) (first end low high : ℕ) → high ≤ low → AltersWithin first end low high change state → SameStates state new → ChangesWithin (Some first) (Some end) change state new
  unfolding is_within
  changes-none new first end low high none found same = grind arith

  -- what is altered is changed, and nothing else
  pub changes-altered : (new : S → ℕ → S) (first end low high : ℕ) → low < high → AltersWithin first end low high change state → ChangesWithin (Some low) (Some high) change state new → ChangesWithin (Some first) (Some end) change state new
  unfolding is_within
  changes-altered new first end low high some found changed = grind arith

pub leaf-run : {S : Type 0} (leaf : Leaf S) (s : S) (start end index stop : ℕ) → Runs leaf.keys.items start end index stop → s ≡ get_or leaf.states.items index s → (d : S) (b : ℕ) → start ≤ b → b < stop → leaf_state leaf d b ≡ s
leaf-run leaf s start end index stop runs read d b from below = sym (state-read leaf s b index (runs.here b from below) read d)

-- what holds of each state of a list holds of each number's
pub all-states : {S : Type 0} (good : S → Bool) (t : Bool) (leaf : Leaf S) → ((k : ℕ) (d : S) → k < length leaf.states.items → good (get_or leaf.states.items k d) ≡ t) → (d : S) (b : ℕ) → good (leaf_state leaf d b) ≡ t
unfolding leaf_state at_rank
all-states good t leaf each d b = each (rank leaf.keys.items b) d (rank-bound leaf b)

pub changes-after : {S : Type 0} (from end : Option ℕ) (change : S → S) (a b c : S → ℕ → S) → SameStates a b → ChangesWithin from end change b c → ChangesWithin from end change a c
changes-after from end change a b c one two = record { states = λ d p. two.states d p ∙ ap (λ s. if is_within from end p then change s else s) (one.states d p) }

pub covers-same : {S M : Type 0} (covers : M → S → Bool) (summary : M) (a b : S → ℕ → S) → CoversAll covers summary a → SameStates a b → CoversAll covers summary b
covers-same covers summary a b all same d p = ap (covers summary) (same.states d p) ∙ all d p

-- what is covered before a change is covered after it by the widened summary
pub covers-changed : {S M : Type 0} (covers : M → S → Bool) (summary wide : M) (from end : Option ℕ) (change : S → S) (a b : S → ℕ → S) → CoversAll covers summary a →
    ((s : S) → covers summary s ≡ true → covers wide s ≡ true) → ((s : S) → covers summary s ≡ true → covers wide (change s) ≡ true) → ChangesWithin from end change a b → CoversAll covers wide b
covers-changed covers summary wide from end change a b all before after changes d p = grind arith

-- what holds of a part's value holds of it among the values of all
mapped : {A B : Type 0} (good : B → Bool) (t : Bool) (f : A → B) (parts : List A) (k : ℕ) (d : B) → k < length parts → ((p : A) → good (f (get_or parts k p)) ≡ t) → good (get_or (map f parts) k d) ≡ t
mapped good t f [] k d within each = absurd (omega arith)
mapped good t f (p ∷ parts) zero d within each = each p
mapped good t f (p ∷ parts) (suc k) d within each = mapped good t f parts k d (omega arith) each

pub all-parts : {P S : Type 0} (state : P → S → ℕ → S) (good : S → Bool) (t : Bool) (level : Level P) →
    ((k : ℕ) (p : P) (d : S) (b : ℕ) → k < length level.parts.items → good (state (get_or level.parts.items k p) d b) ≡ t) → (d : S) (b : ℕ) → good (level_state state level d b) ≡ t
unfolding level_state at_rank
all-parts state good t level each d b =
    mapped good t (λ p. state p d b) level.parts.items (rank level.keys.items b) d (level-bound level b) (λ p. each (rank level.keys.items b) p d b (level-bound level b))

-- a number of the parts that are passed over fails
pub parts-past : {P S : Type 0} (state : P → S → ℕ → S) (test : S → Bool) (level : Level P) (index next : ℕ) →
    ((k : ℕ) (p : P) (d : S) (b : ℕ) → index ≤ k → k < next → test (state (get_or level.parts.items k p) d b) ≡ false) →
    (d : S) (b : ℕ) → (index ≤ rank level.keys.items b) × (rank level.keys.items b < next) → test (level_state state level d b) ≡ false
unfolding level_state at_rank
parts-past state test level index next none d b within =
    mapped test false (λ p. state p d b) level.parts.items (rank level.keys.items b) d (level-bound level b) (λ p. none (rank level.keys.items b) p d b within.0 within.1)

-- a number that is not the part's lies out of the range
outside-part : (keys : List ℕ) (first end i b : ℕ) → i ≡ rank keys first → (i < length keys → end ≤ get_or keys i 0) → (rank keys b ≡ i → ⊥) → is_within (Some first) (Some end) b ≡ false
unfolding is_within
outside-part keys first end i b at before other = grind (arith, cases_lt, le-false, run-here, rank-is, le-true, lt-false)

-- a range of one part is changed there
pub level-changed : {P S : Type 0} (state : P → S → ℕ → S) (change : S → S) (old new : Level P) (part next : P) (first end i : ℕ) → i ≡ rank old.keys.items first →
    (i < length old.keys.items → end ≤ get_or old.keys.items i 0) → part ≡ get_or old.parts.items i part → ChangesWithin (Some first) (Some end) change (state part) (state next) →
    new.keys.items ≡ old.keys.items → new.parts.items ≡ set old.parts.items i next → ChangesWithin (Some first) (Some end) change (level_state state old) (level_state state new)
unfolding level_state at_rank
level-changed state change old new part next first end i at before read changes keys parts = grind (arith, level-bound, map-set, length-map, get_or-map, outside-part, get_or-set_same, get_or-set_other)

pub on-ok : {A E : Type 0} {P Q : Type 0} (r : Result A E) → (P → Q) → OnOk r P → OnOk r Q
on-ok r more holds = grind arith

pub on-error : {A E : Type 0} {P Q : Type 0} (r : Result A E) → (P → Q) → OnErr r P → OnErr r Q
on-error r more holds = grind arith

pub splits-same : {S : Type 0} (middle : ℕ) (old low high next : S → ℕ → S) → Splits middle old low high → SameStates high next → Splits middle old low next
splits-same middle old low high next splits same = record { below = splits.below; above = λ d b from. same.states d b ∙ splits.above d b from }
