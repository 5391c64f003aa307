-- A worker's turns, one after another.
use Rattle.std.{proofs.Common.{◌≡◌, ℕ, zero, suc, ◌+◌, ◌-◌, ◌<◌, ◌≤◌, List, [], ◌∷◌, ◌++◌, sym, ◌∙◌, subst, arith, inl, inr, eqb, count_by, cond, eq-eqb, Ok, append-nil}, proofs.lemmas.List.{nil_from_length}, proofs.lemmas.Bool.{cases_order}, proofs.lemmas.List.Sums.{sum_by-append, sum_by-cons}, specs.declared.alloc.AllocError.{AllocError}, proofs.lemmas.Grind.{common_steps}}
use Rattle.pmf_event.specs.{declared.profile.Profile.{Profile}, Section.{Trace}}
use Rattle.pmf_verdict.specs.Checked.{Checked}
use Rattle.pmf_board.{specs.Calls.{Stays, Takes}, specs.declared.task.Task.{Task}, specs.declared.view.View.{View}, proofs.lemmas.CallLemmas.{Stays-both}}
use Rattle.pmf_farm.specs.{declared.working.Ended.{Ended}, declared.working.Ended.TheVariants.{All}, Working.{HasWorked, Serves, most_left}}

-- for what stays in two steps
pub ruleset stays = (Stays-both)

module _ (sections : List Trace) (profile : Profile) where
  -- who did nothing has worked
  pub HasWorked_none : (v : View) (xs : List Checked) → HasWorked sections profile v v xs xs 0
  HasWorked_none v xs = record {
    tasks = [];
    rest = [];
    took = sym (append-nil v.took) ∙ sym (append-nil (v.took ++ []));
    marked = sym (append-nil v.marked);
    put = sym (append-nil xs);
    few = omega arith;
  }

  -- who ended with all left nothing
  pub HasWorked_all : (old new : View) (before after : List Checked) (e : Ended) → e ≡ All → HasWorked sections profile old new before after (most_left {E = AllocError} (Ok e)) → HasWorked sections profile old new before after 0
  HasWorked_all old new before after e is worked = subst (λ x. HasWorked sections profile old new before after (most_left {E = AllocError} (Ok x))) is worked

  took_all : (old new : View) (before after : List Checked) (worked : HasWorked sections profile old new before after 0) → new.took ≡ old.took ++ worked.tasks
  took_all old new before after worked = let none = nil_from_length worked.rest (omega (arith, worked.few)) in grind (arith, common_steps)

  -- a pass that stayed as it was has worked no more
  pub HasWorked-stays : (old mid new : View) (before after : List Checked) → HasWorked sections profile old mid before after 0 → Stays mid new → HasWorked sections profile old new before after 0
  HasWorked-stays old mid new before after worked stays = grind (arith, common_steps)

  -- a task that was taken and served is one more
  pub HasWorked-served : (old mid taken new : View) (before sent after : List Checked) (limit : ℕ) (t : Task) → HasWorked sections profile old mid before sent 0 → Takes limit mid t taken → Serves sections profile t taken new sent after → HasWorked sections profile old new before after 0
  HasWorked-served old mid taken new before sent after limit t worked takes serves = record {
    tasks = worked.tasks ++ t ∷ [];
    rest = [];
    took = grind (arith, common_steps, took_all);
    marked = grind (arith, common_steps);
    put = grind (arith, common_steps);
    few = omega arith;
  }

  -- a task that was taken and not served is left
  pub HasWorked-left : (old mid taken new : View) (before sent after : List Checked) (limit : ℕ) (t : Task) → HasWorked sections profile old mid before sent 0 → Takes limit mid t taken → new.took ≡ taken.took → new.marked ≡ taken.marked → after ≡ sent → HasWorked sections profile old new before after 1
  HasWorked-left old mid taken new before sent after limit t worked takes took marked put = grind (arith, common_steps, took_all)

  -- two stretches of work are one
  pub HasWorked_then : (old mid new : View) (before sent after : List Checked) (most : ℕ) → HasWorked sections profile old mid before sent 0 → HasWorked sections profile mid new sent after most → HasWorked sections profile old new before after most
  HasWorked_then old mid new before sent after most first second = grind (arith, common_steps, took_all)

-- how many of the sections below n stand not among the marked ones
abbrev pub unmarked : ℕ → List ℕ → ℕ
unmarked zero marked = 0
unmarked (suc n) marked = (1 - count_by (λ m. eqb m n) marked) + unmarked n marked

counted : (n s : ℕ) (marked : List ℕ) → count_by (λ m. eqb m n) (marked ++ s ∷ []) ≡ count_by (λ m. eqb m n) marked + cond (eqb s n) 1 0
counted n s marked = omega (arith, sum_by-append (λ m. cond (eqb m n) 1 0) marked (s ∷ []), sum_by-cons (λ m. cond (eqb m n) 1 0) s [])

head-more : (n s : ℕ) (marked : List ℕ) → 1 - count_by (λ m. eqb m n) (marked ++ s ∷ []) ≤ 1 - count_by (λ m. eqb m n) marked
head-more n s marked = let is = counted n s marked in omega (arith, is)

-- with one more marked there are no more unmarked
unmarked-more : (n s : ℕ) (marked : List ℕ) → unmarked n (marked ++ s ∷ []) ≤ unmarked n marked
unmarked-more zero s marked = omega arith
unmarked-more (suc n) s marked = let head = head-more n s marked in let rest = unmarked-more n s marked in omega (arith, head, rest)

head-falls : (n : ℕ) (marked : List ℕ) → (0 < count_by (λ m. eqb m n) marked → ⊥) → 1 - count_by (λ m. eqb m n) (marked ++ n ∷ []) < 1 - count_by (λ m. eqb m n) marked
head-falls n marked new = grind (arith, common_steps, counted, eq-eqb)

-- and one less where it was below n and not marked
pub unmarked-falls : (n s : ℕ) (marked : List ℕ) → s < n → (0 < count_by (λ m. eqb m s) marked → ⊥) → unmarked n (marked ++ s ∷ []) < unmarked n marked
unmarked-falls zero s marked below new = omega (arith, below)
unmarked-falls (suc n) s marked below new = elim (cases_order s n) [
  | inl same ↦ subst (λ k. unmarked (suc n) (marked ++ k ∷ []) < unmarked (suc n) marked) (sym same)
      (let head = head-falls n marked (subst (λ k. 0 < count_by (λ m. eqb m k) marked → ⊥) same new) in let rest = unmarked-more n n marked in omega (arith, head, rest))
  | inr other ↦
      let low : s < n = elim other [ inl less ↦ less | inr more ↦ omega (arith, more, below) ] in
      let head = head-more n s marked in
      let rest = unmarked-falls n s marked low new in
      omega (arith, head, rest)
]
