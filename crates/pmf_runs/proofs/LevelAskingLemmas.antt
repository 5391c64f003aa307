-- What the parts of a level answer about their numbers.
use Rattle.std.proofs.Common.{◌≡◌, ℕ, ◌+◌, ◌-◌, ◌<◌, ◌≤◌, min, max, Bool, false, List, length, get_or, refl, sym, ◌∙◌, ap, subst, arith, Option, None}
use Rattle.pmf_event.specs.Ranges.{first_from, least_from, lesser}
use Rattle.pmf_runs.{specs.declared.level.Level.{Level}, specs.Ranks.{rank, Rises}, specs.Walks.{end_of}, specs.Levels.{level_state}, proofs.LevelLemmas.{level-read}, proofs.AskingLemmas.{Question, Walks, Asked, walks-start, walks-at, first-law, first_found, least-law, asked-before, asked-start, asked-more, asked-end, end-key, end-last}, proofs.RankLemmas.{rank-unique}, proofs.SkipLemmas.{first-none}}

-- what a part answers is what the level answers for the numbers of the part
pub part-asked : {V A X : Type 0} {ask : (ℕ → V) → ℕ → ℕ → A} {join : X → A → X} (law : Question ask join) {P S : Type 0} (state : P → S → ℕ → S) (value : S → V) (level : Level P) (part : P) (first end start index until : ℕ) →
    part ≡ get_or level.parts.items index part → start < end → until ≡ end_of level.keys.items index end → Walks level.keys.items first end start index →
    (d : S) → ask (λ b. value (state part d b)) start (until - start) ≡ ask (λ b. value (level_state state level d b)) start (until - start)
part-asked law state value level part first end start index until read some is walk d =
    law.same (λ b. value (state part d b)) (λ b. value (level_state state level d b)) start (until - start) (λ k low high.
    ap value (level-read state level part k index (walks-at level.keys.items first end start index until level.ordered some is walk k low (omega arith)) read d))

-- the first part of a range was asked
pub part-begun : {V A X : Type 0} {ask : (ℕ → V) → ℕ → ℕ → A} {join : X → A → X} (law : Question ask join) {P S : Type 0} (state : P → S → ℕ → S) (value : S → V) (level : Level P) (part : P) (first end index until : ℕ) (before new : X) →
    part ≡ get_or level.parts.items index part → first < end → index ≡ rank level.keys.items first → until ≡ end_of level.keys.items index end →
    ((d : S) → new ≡ join before (ask (λ b. value (state part d b)) first (until - first))) →
    Asked (λ d. ask (λ b. value (level_state state level d b))) join before level.keys.items first end until (index + 1) new
part-begun {ask = ask} {join = join} law state value level part first end index until before new read some at is more =
    let value_at : _ → ℕ → _ = λ d b. value (level_state state level d b) in
    let began = asked-start law value_at before level.keys.items first end index at in
    asked-more law value_at before level.keys.items first end first index until before new level.ordered some is
    (λ d. more d ∙ ap (join before) (part-asked law state value level part first end first index until read some is began.walk d)) began

-- a part that is asked before the whole range changes nothing of what the range answers
pub part-before : {P S : Type 0} (state : P → S → ℕ → S) (value : S → Option ℕ) (level : Level P) (part : P) (first end at index until : ℕ) (least found : Option ℕ) →
    part ≡ get_or level.parts.items index part → first ≤ at → at < end → index ≡ rank level.keys.items at → until ≡ end_of level.keys.items index end →
    ((d : S) → found ≡ lesser least (least_from (λ b. value (state part d b)) at (until - at))) →
    (d : S) → lesser found (least_from (λ b. value (level_state state level d b)) first (end - first)) ≡ lesser least (least_from (λ b. value (level_state state level d b)) first (end - first))
part-before state value level part first end at index until least found read from some here is more =
    asked-before (λ d b. value (level_state state level d b)) level.keys.items first end at index until least found level.ordered from some here is
    (λ d. more d ∙ ap (lesser least) (part-asked least-law state value level part at end at index until read some is (walks-start level.keys.items at end index here) d))

-- the part of the start answers for its own numbers, as the walk that begins there has it
pub start-asked : {P S : Type 0} (state : P → S → ℕ → S) (value : S → Bool) (level : Level P) (part : P) (end start index : ℕ) →
    part ≡ get_or level.parts.items index part → start < end → index ≡ rank level.keys.items start →
    (d : S) → first_from (λ b. value (state part d b)) start (end_of level.keys.items index end - start) ≡ first_from (λ b. value (level_state state level d b)) start (end_of level.keys.items index end - start)
start-asked state value level part end start index read some at d =
    part-asked first-law state value level part start end start index (end_of level.keys.items index end) read some refl (walks-start level.keys.items start end index at) d

-- a part of whose states none passes has no answer
pub start-none : {P S : Type 0} (state : P → S → ℕ → S) (value : S → Bool) (level : Level P) (part : P) (end start index : ℕ) →
    part ≡ get_or level.parts.items index part → start < end → index ≡ rank level.keys.items start → ((d : S) (b : ℕ) → value (state part d b) ≡ false) →
    (d : S) → None ≡ first_from (λ b. value (level_state state level d b)) start (end_of level.keys.items index end - start)
start-none state value level part end start index read some at fails d =
    sym (first-none (λ b. value (state part d b)) start (end_of level.keys.items index end - start) (fails d)) ∙ start-asked state value level part end start index read some at d

-- ---- a walk that goes on at the next key, which may lie beyond the end

-- the walk has come to start, or to the end if that is less, and has found none
abbrev pub Sought : {S : Type 0} → (S → ℕ → Bool) → List ℕ → ℕ → ℕ → ℕ → ℕ → Type 0
Sought value keys first end start index = Asked (λ d. first_from (value d)) first_found None keys first end (min start (max first end)) index None

module _ {S : Type 0} (value : S → ℕ → Bool) (keys : List ℕ) (first end : ℕ) where
  pub sought-start : (index : ℕ) → index ≡ rank keys first → Sought value keys first end first index
  sought-start index at =
      let here : first ≡ min first (max first end) = omega arith in
      subst (λ n. Asked (λ d. first_from (value d)) first_found None keys first end n index None) here (asked-start first-law value None keys first end index at)

  pub sought-asked : (start index : ℕ) → start < end → Sought value keys first end start index → Asked (λ d. first_from (value d)) first_found None keys first end start index None
  sought-asked start index some sought = grind arith

  pub sought-rank : (start index : ℕ) → start < end → Sought value keys first end start index → index ≡ rank keys start
  sought-rank start index some sought =
      let asked = sought-asked start index some sought in
      sym (rank-unique keys start index (asked.walk.at some))

  -- the element at the index has found none
  pub sought-more : (start index next : ℕ) → Rises keys → start < end → index < length keys → next ≡ get_or keys index 0 →
      ((d : S) → None ≡ first_from (value d) start (end_of keys index end - start)) → Sought value keys first end start index → Sought value keys first end next (index + 1)
  sought-more start index next rises some within is none sought =
      let asked = sought-asked start index some sought in
      let from = asked.walk.from in
      let until = end-key keys index end within in
      let here : end_of keys index end ≡ min next (max first end) = omega arith in
      subst (λ n. Asked (λ d. first_from (value d)) first_found None keys first end n (index + 1) None) here
      (asked-more first-law value None keys first end start index (end_of keys index end) None None rises some refl none asked)

  -- the last element has found none
  pub sought-last : (start index : ℕ) → Rises keys → start < end → length keys ≤ index →
      ((d : S) → None ≡ first_from (value d) start (end_of keys index end - start)) → Sought value keys first end start index → (d : S) → None ≡ first_from (value d) first (end - first)
  sought-last start index rises some past none sought =
      let asked = sought-asked start index some sought in
      let until = end-last keys index end past in
      asked-end first-law value None keys first end (end_of keys index end) (index + 1) None (omega arith)
      (asked-more first-law value None keys first end start index (end_of keys index end) None None rises some refl none asked)

  pub sought-end : (start index : ℕ) → end ≤ start → Sought value keys first end start index → (d : S) → None ≡ first_from (value d) first (end - first)
  sought-end start index past sought = asked-end first-law value None keys first end (min start (max first end)) index None (omega arith) sought
