-- In which order a worker takes sections.
use Rattle.std.{proofs.Common.{◌≡◌, ℕ, ◌+◌, ◌%◌, ◌<◌, ◌≤◌, ◌⊎◌, inl, inr, ⊎_elim, List, [], ◌∷◌, ◌++◌, All, sym, ◌∙◌, ap, subst, arith, append_assoc, append-nil}, proofs.lemmas.Bool.{cases_lt}, proofs.lemmas.Bool.Decides.{nat_tests}, proofs.Math.Nat.{mod-lt, mod-eq_of_lt, mod_self, zero-mod}, proofs.lemmas.List.Elements.{All-append, All-push}, proofs.lemmas.List.Quantifiers.{all_pairs_push}, proofs.lemmas.Grind.{common_steps}}
use Rattle.pmf_board.{specs.Calls.{PassesOver, PassesOverAll, Takes, round_from}, specs.declared.task.Task.{Task}, specs.declared.view.View.{View}, specs.Views.{HasSeenClosed, NeverFalls}, proofs.lemmas.CallLemmas.{NeverFalls-both, closed-later}}
use Rattle.pmf_farm.specs.{Working.{AreInTurn, TakesAgain, TakesFresh, TakesInTurn, TakesLater, Took}}

-- p lies so far behind w, upwards and round
abbrev Lies : ℕ → ℕ → ℕ → ℕ → Type 0
Lies n w p far = (p ≡ w + far) ⊎ (p + n ≡ w + far)

-- what lies behind p lies behind w, by as much more as p does
apart : (n w p s far : ℕ) → w < n → p < n → s < n → Lies n w p far → far ≤ round_from n w s → round_from n p s + far ≡ round_from n w s
apart n w p s far lw lp ls at le = grind (arith, nat_tests)

-- no two lie as far behind w
round-once : (n w s t : ℕ) → w < n → s < n → t < n → round_from n w s ≡ round_from n w t → s ≡ t
round-once n w s t lw ls lt same = grind (arith, nat_tests)

-- the next one lies one further
lies-next : (n w t : ℕ) → w < n → t < n → Lies n w ((t + 1) % n % n) (round_from n w t + 1)
lies-next n w t lw lt = grind (arith, common_steps, cases_lt, mod-eq_of_lt, nat_tests, mod_self, zero-mod)

-- the worker took sections in turn, and the next one lies so far from the start that each nearer one was seen handed out or done
pub record TakesTo (n start next : ℕ) (old new : View) : Type 0 where
  pub tasks : List Task
  pub took : Took old tasks new
  pub in_turn : AreInTurn n start tasks new
  pub far : ℕ
  pub at : Lies n (start % n) (next % n) far
  pub below : All (λ (t : Task). round_from n (start % n) t.section < far) tasks
  pub closed : (s : ℕ) → s < n → round_from n (start % n) s < far → HasSeenClosed 1 new s

pub TakesTo_none : (n start : ℕ) (v : View) → TakesTo n start start v v
TakesTo_none n start v = record {
  tasks = [];
  took = sym (append-nil v.took);
  in_turn = record { first = λ k d lt. absurd (omega (arith, lt)); rise = λ i j d lt within. absurd (omega (arith, within)); passed = λ k d lt. absurd (omega (arith, lt)) };
  far = 0;
  at = inl (omega arith);
  below = λ k d lt. absurd (omega (arith, lt));
  closed = λ s there less. absurd (omega (arith, less));
}

-- what was passed over stays so
passed-later : (n start : ℕ) (tasks : List Task) (v w : View) → NeverFalls v w → All (λ (t : Task). PassesOver 1 n start t.section v) tasks → All (λ (t : Task). PassesOver 1 n start t.section w) tasks
passed-later n start tasks v w falls passed = λ k d lt s there before. closed-later 1 v w s falls (passed k d lt s there before)

-- one that took nothing more has taken the same
pub TakesTo-later : (n start next : ℕ) (old mid new : View) → new.took ≡ mid.took → NeverFalls mid new → TakesTo n start next old mid → TakesTo n start next old new
TakesTo-later n start next old mid new same falls takes = record {
  tasks = takes.tasks;
  took = same ∙ takes.took;
  in_turn = record { first = takes.in_turn.first; rise = takes.in_turn.rise; passed = passed-later n start takes.tasks mid new falls takes.in_turn.passed };
  far = takes.far;
  at = takes.at;
  below = takes.below;
  closed = λ s there less. closed-later 1 mid new s falls (takes.closed s there less);
}

-- the next one in turn is one more
pub TakesTo-taken : (n limit start next : ℕ) (old mid new : View) (t : Task) → limit ≡ 1 → t.section < n → Takes limit mid t new → PassesOver limit n next t.section new → TakesTo n start next old mid →
    TakesTo n start ((t.section + 1) % n) old new
TakesTo-taken n limit start next old mid new t one there taken passes takes =
    let w = start % n in
    let lw : w < n = mod-lt start (omega (arith, there)) in
    let lp : next % n < n = mod-lt next (omega (arith, there)) in
    let reach : takes.far ≤ round_from n w t.section = grind (arith, takes.closed t.section there, taken.open_before.0, taken.above, taken.number.1) in
    let nearer : (s : ℕ) → s < n → round_from n w s < round_from n w t.section → HasSeenClosed 1 new s = λ s less before. ⊎_elim (λ near. closed-later 1 mid new s taken.never_falls (takes.closed s less near))
    (λ on. subst (λ k. HasSeenClosed k new s) one (passes s less (omega (arith, before, apart n w (next % n) s takes.far lw lp less takes.at on, apart n w (next % n) t.section takes.far lw lp there takes.at reach))))
    (cases_lt (round_from n w s) takes.far) in
    record {
      tasks = takes.tasks ++ t ∷ [];
      took = taken.took ∙ ap (λ ts. ts ++ t ∷ []) takes.took ∙ append_assoc old.took takes.tasks (t ∷ []);
      in_turn = record {
        first = All-push (λ (x : Task). x.number ≡ 1) takes.tasks t takes.in_turn.first (omega (arith, taken.number.0, taken.number.1));
        rise = all_pairs_push (λ (x : Task) (y : Task). round_from n w x.section < round_from n w y.section) takes.tasks t takes.in_turn.rise (λ k d lt. omega (arith, takes.below k d lt, reach));
        passed = All-push (λ (x : Task). PassesOver 1 n start x.section new) takes.tasks t (passed-later n start takes.tasks mid new taken.never_falls takes.in_turn.passed) nearer;
      };
      far = round_from n w t.section + 1;
      at = lies-next n w t.section lw there;
      below = All-push (λ (x : Task). round_from n w x.section < round_from n w t.section + 1) takes.tasks t (λ k d lt. omega (arith, takes.below k d lt, reach)) (omega arith);
      closed = λ s less before. ⊎_elim (nearer s less)
          (λ on. subst (HasSeenClosed 1 new) (sym (round-once n w s t.section lw less there (omega (arith, on, before)))) (inr (omega (arith, taken.seen.0, taken.number.0))))
          (cases_lt (round_from n w s) (round_from n w t.section));
    }

-- so it is where the task is in its hand
pub TakesFresh-left : (n limit start next : ℕ) (old mid new seen : View) (t : Task) → seen ≡ new → limit ≡ 1 → t.section < n → Takes limit mid t new → PassesOver limit n next t.section new → TakesTo n start next old mid →
    TakesFresh n start old seen
TakesFresh-left n limit start next old mid new seen t same one there taken passes before =
    let takes = TakesTo-taken n limit start next old mid new t one there taken passes before in
    subst (TakesFresh n start old) (sym same) (record { tasks = takes.tasks; took = takes.took; in_turn = takes.in_turn })

pub TakesAgain_none : (n : ℕ) (v : View) → TakesAgain n v v
TakesAgain_none n v all = grind (arith, common_steps, append-nil)

pub TakesAgain-later : (n : ℕ) (old mid new : View) → new.took ≡ mid.took → NeverFalls mid new → TakesAgain n old mid → TakesAgain n old new
TakesAgain-later n old mid new same falls takes all = grind (arith, common_steps, NeverFalls-both)

-- what was seen handed out is handed out again
pub TakesAgain-taken : (n limit : ℕ) (old mid new seen : View) (t : Task) → seen ≡ new → t.section < n → Takes limit mid t new → TakesAgain n old mid → TakesAgain n old seen
TakesAgain-taken n limit old mid new seen t same there taken takes all = let before = takes all in subst (TakesLater old) (sym same) (record {
  tasks = before.tasks ++ t ∷ [];
  took = taken.took ∙ ap (λ ts. ts ++ t ∷ []) before.took ∙ append_assoc old.took before.tasks (t ∷ []);
  later = All-push (λ (x : Task). 2 ≤ x.number) before.tasks t before.later
      (⊎_elim (λ done. absurd (taken.open_before.0 done)) (λ most. omega (arith, most, taken.above)) (closed-later 1 old mid t.section before.never_falls (all t.section there)));
  never_falls = NeverFalls-both old mid new before.never_falls taken.never_falls;
})

-- first in turn, and then twice what was handed out before
pub TakesInTurn-from : (n start : ℕ) (old mid next new : View) → TakesFresh n start old mid → PassesOverAll 1 n mid → TakesAgain n mid next → TakesAgain n next new → TakesInTurn n start old new
TakesInTurn-from n start old mid next new fresh all first second =
    let one = first all in
    let two = second (λ s there. closed-later 1 mid next s one.never_falls (all s there)) in
    let falls = NeverFalls-both mid next new one.never_falls two.never_falls in
    record {
      fresh = fresh.tasks;
      again = one.tasks ++ two.tasks;
      took = grind (arith, common_steps);
      in_turn = record { first = fresh.in_turn.first; rise = fresh.in_turn.rise; passed = passed-later n start fresh.tasks mid new falls fresh.in_turn.passed };
      later = All-append (λ (x : Task). 2 ≤ x.number) one.tasks two.tasks one.later two.later;
    }
