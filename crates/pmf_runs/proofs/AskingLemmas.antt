-- Walks over the elements of a range, and what a question has found so far.
use Rattle.std.proofs.lemmas.Bool.Decides.{nat_tests}
use Rattle.std.proofs.Common.{◌≡◌, ℕ, zero, suc, ◌+◌, ◌-◌, ◌<◌, ◌≤◌, min, max, Bool, true, false, if◌then◌else◌, List, length, get_or, refl, sym, ◌∙◌, ap, arith, Option, Some, None, is_some}
use Rattle.pmf_event.{specs.Ranges.{first_from, lesser, least_from}, proofs.RangeLemmas.{first_from-none, first_from-some, first_from-same, least_from-same, least_from-split, least_from-alike, lesser-none, lesser-assoc}}
use Rattle.pmf_runs.{specs.declared.leaf.Leaf.{Leaf}, specs.declared.walk.Counted.{Counted}, specs.Ranks.{rank, at_rank, Rises}, specs.Walks.{end_of}, specs.Leaves.{leaf_state}, proofs.RankLemmas.{IsRank, rank-is, rank-unique, rank-above, rises-le, lt-true, lt-false}, proofs.LeafLemmas.{state-read}, specs.Lines.{counted_from}, proofs.LineCountLemmas.{counted-same, counted-split, counted-none}}

-- ---- where a walk begins, and where an element ends

-- the first element has the numbers below the first key
pub rank-front : (keys : List ℕ) (b : ℕ) → (0 < length keys → b < get_or keys 0 0) → 0 ≡ rank keys b
rank-front keys b before = sym (rank-unique keys b 0 (grind arith))

pub end-key : (keys : List ℕ) (index end : ℕ) → index < length keys → end_of keys index end ≡ min end (get_or keys index 0)
unfolding end_of
end-key keys index end within = ap (λ t. if t then min end (get_or keys index 0) else end) (lt-true index (length keys) within)

pub end-last : (keys : List ℕ) (index end : ℕ) → length keys ≤ index → end_of keys index end ≡ end
unfolding end_of
end-last keys index end past = ap (λ t. if t then min end (get_or keys index 0) else end) (lt-false index (length keys) past)

-- ---- the walk

-- the walk through a range has come to start, where the element at the index has numbers left
pub record Walks (keys : List ℕ) (first end start index : ℕ) : Type 0 where
  pub from : first ≤ start
  pub upto : start ≤ max first end
  pub at : start < end → IsRank keys start index

pub walks-start : (keys : List ℕ) (first end index : ℕ) → index ≡ rank keys first → Walks keys first end first index
walks-start keys first end index at = grind (arith, rank-is)

-- the walk passes over the elements from the index up to next, and comes to the end of the last of them
record Past (keys : List ℕ) (first end start index next until : ℕ) : Type 0 where
  more : start < until
  within : until ≤ end
  at : (b : ℕ) → start ≤ b → b < until → (index ≤ rank keys b) × (rank keys b < next)
  on : Walks keys first end until next

past : (keys : List ℕ) (first end start index next until : ℕ) → Rises keys → start < end → index < next → next ≤ length keys + 1 → until ≡ end_of keys (next - 1) end → Walks keys first end start index →
    Past keys first end start index next until
past keys first end start index next until rises some after bounded is walk = grind (arith, end-key, end-last, rises-le, rank-above, rank-is)

-- the walk goes on to the next element
piece : (keys : List ℕ) (first end start index until : ℕ) → Rises keys → start < end → until ≡ end_of keys index end → Walks keys first end start index → Past keys first end start index (index + 1) until
piece keys first end start index until rises some is walk =
    let here = walk.at some in
    let bound = here.bound in
    let last : index + 1 - 1 ≡ index = omega arith in
    past keys first end start index (index + 1) until rises some (omega arith) (omega arith) (rw last is) walk

pub walks-at : (keys : List ℕ) (first end start index until : ℕ) → Rises keys → start < end → until ≡ end_of keys index end → Walks keys first end start index → (b : ℕ) → start ≤ b → b < until → index ≡ rank keys b
walks-at keys first end start index until rises some is walk b low high =
    let p = piece keys first end start index until rises some is walk in
    let at = p.at b low high in omega arith

-- ---- questions

-- a question about a range is answered by joining the answers of its pieces
pub record Question {V A X : Type 0} (ask : (ℕ → V) → ℕ → ℕ → A) (join : X → A → X) : Type 0 where
  pub none : (x : X) (value : ℕ → V) (b : ℕ) → join x (ask value b 0) ≡ x
  pub same : (v w : ℕ → V) (b n : ℕ) → ((k : ℕ) → b ≤ k → k < b + n → v k ≡ w k) → ask v b n ≡ ask w b n
  pub split : (x : X) (value : ℕ → V) (b m n whole middle : ℕ) → whole ≡ m + n → middle ≡ b + m → join x (ask value b whole) ≡ join (join x (ask value b m)) (ask value middle n)

-- the walk has come to start, and knows the answer up to there, joined to what was known before
pub record Asked {S A X : Type 0} (ask : S → ℕ → ℕ → A) (join : X → A → X) (before : X) (keys : List ℕ) (first end start index : ℕ) (so_far : X) : Type 0 where
  pub walk : Walks keys first end start index
  pub is : (d : S) → so_far ≡ join before (ask d first (start - first))

module _ {V A X : Type 0} {ask : (ℕ → V) → ℕ → ℕ → A} {join : X → A → X} (law : Question ask join) {S : Type 0} (value : S → ℕ → V) (before : X) (keys : List ℕ) (first end : ℕ) where
  pub asked-start : (index : ℕ) → index ≡ rank keys first → Asked (λ d. ask (value d)) join before keys first end first index before
  asked-start index at = record {
    walk = walks-start keys first end index at;
    is = λ d. let none : first - first ≡ 0 = omega arith in sym (ap (λ n. join before (ask (value d) first n)) none ∙ law.none before (value d) first);
  }

  -- the elements up to the next have the answer
  asked-on : (start index next until : ℕ) (so_far new : X) → Past keys first end start index next until → ((d : S) → new ≡ join so_far (ask (value d) start (until - start))) →
      Asked (λ d. ask (value d)) join before keys first end start index so_far → Asked (λ d. ask (value d)) join before keys first end until next new
  asked-on start index next until so_far new p more asked = grind arith

  pub asked-more : (start index until : ℕ) (so_far new : X) → Rises keys → start < end → until ≡ end_of keys index end →
      ((d : S) → new ≡ join so_far (ask (value d) start (until - start))) →
      Asked (λ d. ask (value d)) join before keys first end start index so_far → Asked (λ d. ask (value d)) join before keys first end until (index + 1) new
  asked-more start index until so_far new rises some is_end more asked =
      asked-on start index (index + 1) until so_far new (piece keys first end start index until rises some is_end asked.walk) more asked

  -- the elements that are passed over add nothing
  pub asked-past : (start index next until : ℕ) (so_far : X) → Rises keys → start < end → index < next → next ≤ length keys + 1 → until ≡ end_of keys (next - 1) end →
      ((d : S) → ((b : ℕ) → start ≤ b → b < until → (index ≤ rank keys b) × (rank keys b < next)) → join so_far (ask (value d) start (until - start)) ≡ so_far) →
      Asked (λ d. ask (value d)) join before keys first end start index so_far → Asked (λ d. ask (value d)) join before keys first end until next so_far
  asked-past start index next until so_far rises some after bounded is_end adds asked =
      let p = past keys first end start index next until rises some after bounded is_end asked.walk in
      asked-on start index next until so_far so_far p (λ d. sym (adds d p.at)) asked

  pub asked-end : (start index : ℕ) (so_far : X) → end ≤ start → Asked (λ d. ask (value d)) join before keys first end start index so_far → (d : S) → so_far ≡ join before (ask (value d) first (end - first))
  asked-end start index so_far past asked d = grind arith

  -- a range without numbers adds nothing
  pub asked-none : end ≤ first → (d : S) → before ≡ join before (ask (value d) first (end - first))
  asked-none empty d = let none : end - first ≡ 0 = omega arith in sym (ap (λ n. join before (ask (value d) first n)) none ∙ law.none before (value d) first)

  -- the numbers behind the walk are asked by another one
  pub asked-rest : (start index : ℕ) (so_far result : X) → ((d : S) → result ≡ join so_far (ask (value d) start (end - start))) →
      Asked (λ d. ask (value d)) join before keys first end start index so_far → (d : S) → result ≡ join before (ask (value d) first (end - first))
  asked-rest start index so_far result rest asked d =
      let from = asked.walk.from in
      let upto = asked.walk.upto in
      rest d ∙ ap (λ x. join x (ask (value d) start (end - start))) (asked.is d)
      ∙ sym (law.split before (value d) first (start - first) (end - start) (end - first) start (omega arith) (omega arith))

-- what a run of a leaf answers is what the leaf answers for its numbers
pub run-asked : {V A X : Type 0} {ask : (ℕ → V) → ℕ → ℕ → A} {join : X → A → X} (law : Question ask join) {S : Type 0} (value : S → V) (leaf : Leaf S) (state : S) (v : V) (first end start index until : ℕ) →
    state ≡ get_or leaf.states.items index state → v ≡ value state → start < end → until ≡ end_of leaf.keys.items index end → Walks leaf.keys.items first end start index →
    (d : S) → ask (λ b. v) start (until - start) ≡ ask (λ b. value (leaf_state leaf d b)) start (until - start)
run-asked law value leaf state v first end start index until read at some is walk d =
    law.same (λ b. v) (λ b. value (leaf_state leaf d b)) start (until - start) (λ k low high.
    at ∙ ap value (state-read leaf state k index (walks-at leaf.keys.items first end start index until leaf.ordered some is walk k low (omega arith)) read d))

-- a number of the runs that are passed over fails
pub fails-past : {S : Type 0} (test : S → Bool) (leaf : Leaf S) (index next : ℕ) → ((k : ℕ) (d : S) → index ≤ k → k < next → test (get_or leaf.states.items k d) ≡ false) →
    (d : S) (b : ℕ) → (index ≤ rank leaf.keys.items b) × (rank leaf.keys.items b < next) → test (leaf_state leaf d b) ≡ false
unfolding leaf_state at_rank
fails-past test leaf index next none d b within = none (rank leaf.keys.items b) d within.0 within.1

-- ---- the first that passes

-- what was found first, or else what was found then
abbrev pub first_found : Option ℕ → Option ℕ → Option ℕ
first_found None y = y
first_found (Some x) y = Some x

module _ (test : ℕ → Bool) where
  first_from-split : (b m n : ℕ) (whole middle : ℕ) → whole ≡ m + n → middle ≡ b + m → first_from test b whole ≡ first_found (first_from test b m) (first_from test middle n)
  unfolding first_from
  first_from-split b zero n whole middle all at = grind arith
  first_from-split b (suc m) n zero middle all at = absurd (omega arith)
  first_from-split b (suc m) n (suc whole) middle all at = let rest = first_from-split (b + 1) m n whole middle (omega arith) (omega arith) in grind arith

pub first-law : Question first_from first_found
unfolding first_from
first-law = grind (arith, first_from-same, first_from-split)

found-some : (o rest : Option ℕ) → is_some o ≡ true → first_found o rest ≡ o
found-some o rest some = grind arith

-- what a piece has found first is the first of the range, where those before it have none
pub asked-found : {S : Type 0} (value : S → ℕ → Bool) (keys : List ℕ) (first end start index until : ℕ) (found : Option ℕ) → Rises keys → start < end → until ≡ end_of keys index end →
    ((d : S) → found ≡ first_from (value d) start (until - start)) → is_some found ≡ true →
    Asked (λ d. first_from (value d)) first_found None keys first end start index None → (d : S) → found ≡ first_from (value d) first (end - first)
asked-found value keys first end start index until found rises some is_end more has asked d =
    let p = piece keys first end start index until rises some is_end asked.walk in
    let from = asked.walk.from in
    let after = p.more in
    let within = p.within in
    let next = asked-more first-law value None keys first end start index until None found rises some is_end more asked in
    let rest = first_from (value d) until (end - until) in
    sym (found-some found rest has) ∙ ap (λ o. first_found o rest) (next.is d)
    ∙ sym (first_from-split (value d) first (until - first) (end - until) (end - first) until (omega arith) (omega arith))

-- ---- how many lines

pub lines-law : Question counted_from (λ so_far count. count so_far)
unfolding counted_from
lines-law = grind (arith, counted-same, counted-split)

-- numbers that fail add no line
pub lines-past : (test : ℕ → Bool) (start until : ℕ) (so_far : Counted) → ((b : ℕ) → start ≤ b → b < until → test b ≡ false) → counted_from test start (until - start) so_far ≡ so_far
lines-past test start until so_far fails =
    ap (λ count. count so_far) (counted-same test (λ b. false) start (until - start) (λ k low high. fails k low (omega arith)))
    ∙ counted-none (λ b. false) start (until - start) so_far (λ k. refl)

-- ---- the least key

pub least-law : Question least_from lesser
unfolding least_from
least-law = grind (arith, lesser-none, least_from-same, least_from-split, lesser-assoc)

-- what two values have least lowers neither
lesser-behind : (x y : Option ℕ) → lesser y (lesser x y) ≡ lesser x y
lesser-behind x y = grind (arith, nat_tests)

-- an element that is asked before the whole range changes nothing of what the range answers
pub asked-before : {S : Type 0} (value : S → ℕ → Option ℕ) (keys : List ℕ) (first end at index until : ℕ) (least found : Option ℕ) → Rises keys → first ≤ at → at < end → index ≡ rank keys at → until ≡ end_of keys index end →
    ((d : S) → found ≡ lesser least (least_from (value d) at (until - at))) →
    (d : S) → lesser found (least_from (value d) first (end - first)) ≡ lesser least (least_from (value d) first (end - first))
asked-before value keys first end at index until least found rises from some here is more d =
    let p = piece keys at end at index until rises some is (walks-start keys at end index here) in
    let after = p.more in
    let within = p.within in
    let before = least_from (value d) first (at - first) in
    let own = least_from (value d) at (until - at) in
    let behind = least_from (value d) until (end - until) in
    let upto = least_from-split (value d) first (at - first) (until - at) (until - first) at (omega arith) (omega arith) in
    let whole : least_from (value d) first (end - first) ≡ lesser (lesser before own) behind =
    least_from-split (value d) first (until - first) (end - until) (end - first) until (omega arith) (omega arith) ∙ ap (λ x. lesser x behind) upto in
    let lowers : lesser own (lesser (lesser before own) behind) ≡ lesser (lesser before own) behind =
    sym (lesser-assoc own (lesser before own) behind) ∙ ap (λ x. lesser x behind) (lesser-behind before own) in
    ap (lesser found) whole ∙ ap (λ x. lesser x (lesser (lesser before own) behind)) (more d)
    ∙ lesser-assoc least own (lesser (lesser before own) behind) ∙ ap (lesser least) lowers ∙ ap (lesser least) (sym whole)

-- ---- a run whose states all answer alike

pub run-none : {V A X : Type 0} {ask : (ℕ → V) → ℕ → ℕ → A} {join : X → A → X} (law : Question ask join) (x : X) (v : V) (first end : ℕ) → end ≤ first → x ≡ join x (ask (λ b. v) first (end - first))
run-none {ask = ask} {join = join} law x v first end empty = grind arith

pub run-first : (v : Bool) (first end : ℕ) → first < end → v ≡ true → Some first ≡ first_from (λ b. v) first (end - first)
run-first v first end some is = sym (first_from-some (λ b. v) first (end - first) first (grind arith))

pub run-first_none : (v : Bool) (first end : ℕ) → v ≡ false → None ≡ first_from (λ b. v) first (end - first)
run-first_none v first end is = sym (first_from-none (λ b. v) first (end - first) (λ k low high. is))

pub run-least : (v : Option ℕ) (first end : ℕ) → first < end → v ≡ least_from (λ b. v) first (end - first)
run-least v first end some = sym (least_from-alike (λ b. v) first (end - first) v (omega arith) (λ k low high. refl))
