-- The last run of some sections, as sections come behind them, and the parts of sections.
use Rattle.std.{proofs.{Common.{◌≡◌, ◌≢◌, ℕ, Bool, true, false, ◌&&◌, List, [], ◌∷◌, ◌++◌, flat_map, Option, None, Some, refl, sym, ◌∙◌, ap, subst, append_assoc, append-nil}, lemmas.Bool.{ne_eqb}, lemmas.Bool.Decides.{Decides-eqb}, lemmas.List.Folds.{list_all-append}}, specs.List.{list_all}}
use Rattle.pmf_verdict.specs.Checked.{Checked}
use Rattle.pmf_ledger.specs.{declared.form.Form.{Form}, declared.form.Form.TheVariants.{Report, Ledger}, declared.last_run.LastRun.{LastRun}, declared.totals.Totals.{Totals}, LedgerText.{text_of_block}, Report.{both, text_of_section, totals_of}, Summary.{is_of_run, line_of_run}, Telling.{IsLastRun, last_run, part_of, parts_after, run_named, text_behind_run, text_between}}
use Rattle.pmf_ledger.proofs.lemmas.CountLemmas.{totals_more}

-- ---- whether a section is of a run

pub is_of : (run : ℕ) (s : Checked) → s.section.name.run ≡ run → is_of_run run s ≡ true
unfolding is_of_run
is_of run s one = (Decides-eqb s.section.name.run run).1 one

pub of_from : (run : ℕ) (s : Checked) → is_of_run run s ≡ true → s.section.name.run ≡ run
unfolding is_of_run
of_from run s is = (Decides-eqb s.section.name.run run).0 is

pub is_other : (run : ℕ) (s : Checked) → s.section.name.run ≢ run → is_of_run run s ≡ false
unfolding is_of_run
is_other run s other = ne_eqb s.section.name.run run other

pub some-same : (a b : ℕ) → ◌≡◌ {A = Option ℕ} (Some a) (Some b) → a ≡ b
some-same a b is = cc

-- ---- the line of a run

pub behind_none : (xs : List Checked) → run_named xs ≡ None → text_behind_run xs ≡ []
behind_none [] none = refl
behind_none (s ∷ more) none = let some : Some s.section.name.run ≡ None = none in cc

pub behind_some : (xs : List Checked) (run : ℕ) → run_named xs ≡ Some run → text_behind_run xs ≡ line_of_run run (totals_of xs)
behind_some [] run some = let none : None ≡ Some run = some in cc
behind_some (s ∷ more) run some = ap (λ r. line_of_run r (totals_of (s ∷ more))) (some-same s.section.name.run run some)

pub between_same : (xs : List Checked) (v : Checked) → run_named xs ≡ Some v.section.name.run → text_between xs v ≡ []
between_same [] v same = refl
between_same (s ∷ more) v same = rw (is_of s.section.name.run v (sym (some-same s.section.name.run v.section.name.run same))) refl

pub between_other : (xs : List Checked) (v : Checked) → run_named xs ≢ Some v.section.name.run → text_between xs v ≡ text_behind_run xs
between_other [] v other = refl
between_other (s ∷ more) v other = rw (is_other s.section.name.run v (λ one. other (ap Some (sym one)))) refl

-- ---- the last run, with a section more

-- of a section and others, by whether all of these are of its run
last_whole : (s : Checked) (more : List Checked) → list_all (is_of_run s.section.name.run) more ≡ true → last_run (s ∷ more) ≡ s ∷ more
unfolding last_run
last_whole s more all = rw all refl

last_later : (s : Checked) (more : List Checked) → list_all (is_of_run s.section.name.run) more ≡ false → last_run (s ∷ more) ≡ last_run more
unfolding last_run
last_later s more some = rw some refl

all_and : (run : ℕ) (xs : List Checked) (v : Checked) (b c : Bool) → list_all (is_of_run run) xs ≡ b → is_of_run run v ≡ c → list_all (is_of_run run) (xs ++ v ∷ []) ≡ (b && (c && true))
all_and run xs v b c first last = list_all-append (is_of_run run) xs (v ∷ []) ∙ rw (first, last) refl

and_first : (a b : Bool) → (a && b) ≡ true → a ≡ true
and_first true b both = refl
and_first false b both = both

and_second : (a b : Bool) → (a && b) ≡ true → b ≡ true
and_second true b both = both
and_second false b both = let wrong : false ≡ true = both in cc

module _ (s : Checked) (more : List Checked) (v : Checked) where
  same_by : (b : Bool) → list_all (is_of_run s.section.name.run) more ≡ b → (run_named (last_run more) ≡ Some v.section.name.run → last_run (more ++ v ∷ []) ≡ last_run more ++ v ∷ []) →
      run_named (last_run (s ∷ more)) ≡ Some v.section.name.run → last_run (s ∷ (more ++ v ∷ [])) ≡ last_run (s ∷ more) ++ v ∷ []
  same_by true all later same =
      let one = some-same s.section.name.run v.section.name.run (ap run_named (sym (last_whole s more all)) ∙ same) in
      last_whole s (more ++ v ∷ []) (all_and s.section.name.run more v true true all (is_of s.section.name.run v (sym one))) ∙ ap (λ xs. xs ++ v ∷ []) (sym (last_whole s more all))
  same_by false some later same =
      last_later s (more ++ v ∷ []) (all_and s.section.name.run more v false (is_of_run s.section.name.run v) some refl)
      ∙ later (ap run_named (sym (last_later s more some)) ∙ same) ∙ ap (λ xs. xs ++ v ∷ []) (sym (last_later s more some))

pub last_run-same : (xs : List Checked) (v : Checked) → run_named (last_run xs) ≡ Some v.section.name.run → last_run (xs ++ v ∷ []) ≡ last_run xs ++ v ∷ []
unfolding last_run
last_run-same [] v same = let none : None ≡ Some v.section.name.run = same in cc
last_run-same (s ∷ more) v same = same_by s more v (list_all (is_of_run s.section.name.run) more) refl (last_run-same more v) same

-- the last run of sections that are all of a run is of that run
all_named : (run k : ℕ) (xs : List Checked) → list_all (is_of_run run) xs ≡ true → run_named (last_run xs) ≡ Some k → k ≡ run
unfolding last_run
all_named run k [] all named = let none : None ≡ Some k = named in cc
all_named run k (s ∷ more) all named =
    let one : s.section.name.run ≡ run = of_from run s (and_first (is_of_run run s) (list_all (is_of_run run) more) all) in
    let rest : list_all (is_of_run s.section.name.run) more ≡ true = subst (λ r. list_all (is_of_run r) more ≡ true) (sym one) (and_second (is_of_run run s) (list_all (is_of_run run) more) all) in
    sym (some-same s.section.name.run k (ap run_named (sym (last_whole s more rest)) ∙ named)) ∙ one

module _ (s : Checked) (more : List Checked) (v : Checked) where
  other_by : (b : Bool) → list_all (is_of_run s.section.name.run) more ≡ b → (run_named (last_run more) ≢ Some v.section.name.run → last_run (more ++ v ∷ []) ≡ v ∷ []) →
      run_named (last_run (s ∷ more)) ≢ Some v.section.name.run → last_run (s ∷ (more ++ v ∷ [])) ≡ v ∷ []
  other_by true all later other =
      let differ : s.section.name.run ≢ v.section.name.run = λ one. other (ap run_named (last_whole s more all) ∙ ap Some one) in
      last_later s (more ++ v ∷ []) (all_and s.section.name.run more v true false all (is_other s.section.name.run v (λ one. differ (sym one))))
      ∙ later (λ named. differ (sym (all_named s.section.name.run v.section.name.run more all named)))
  other_by false some later other =
      last_later s (more ++ v ∷ []) (all_and s.section.name.run more v false (is_of_run s.section.name.run v) some refl)
      ∙ later (λ named. other (ap run_named (last_later s more some) ∙ named))

pub last_run-other : (xs : List Checked) (v : Checked) → run_named (last_run xs) ≢ Some v.section.name.run → last_run (xs ++ v ∷ []) ≡ v ∷ []
unfolding last_run
last_run-other [] v other = refl
last_run-other (s ∷ more) v other = other_by s more v (list_all (is_of_run s.section.name.run) more) refl (last_run-other more v) other

pub named_push : (xs : List Checked) (v : Checked) (run : ℕ) → run_named xs ≡ Some run → run_named (xs ++ v ∷ []) ≡ Some run
named_push [] v run named = let none : None ≡ Some run = named in cc
named_push (s ∷ more) v run named = named

module _ (xs : List Checked) (v : Checked) (counts : Totals) (are : counts ≡ totals_of (v ∷ [])) where
  pub told_same : (old new : LastRun) → IsLastRun xs old → old.run ≡ Some v.section.name.run → new.run ≡ old.run → new.totals ≡ both old.totals counts → IsLastRun (xs ++ v ∷ []) new
  told_same old new is named run sums =
      let more = last_run-same xs v (sym is.run ∙ named) in record {
        run = run ∙ named ∙ sym (ap run_named more ∙ named_push (last_run xs) v v.section.name.run (sym is.run ∙ named));
        totals = sums ∙ ap (λ t. both t counts) is.totals ∙ ap (both (totals_of (last_run xs))) are ∙ totals_more (last_run xs) v ∙ ap totals_of (sym more);
      }

  pub told_other : (old new : LastRun) → IsLastRun xs old → old.run ≢ Some v.section.name.run → new.run ≡ Some v.section.name.run → new.totals ≡ counts → IsLastRun (xs ++ v ∷ []) new
  told_other old new is other run sums =
      let alone = last_run-other xs v (λ named. other (is.run ∙ named)) in record {
        run = run ∙ ap run_named (sym alone);
        totals = sums ∙ are ∙ ap totals_of (sym alone);
      }

-- ---- parts

pub parts_push : (form : Form) (before more : List Checked) (v : Checked) → parts_after form before (more ++ v ∷ []) ≡ parts_after form before more ++ part_of form (before ++ more) v
parts_push form before [] v = append-nil (part_of form before v) ∙ ap (λ xs. part_of form xs v) (sym (append-nil before))
parts_push form before (s ∷ more) v =
    ap (λ text. part_of form before s ++ text) (parts_push form (before ++ s ∷ []) more v)
    ∙ sym (append_assoc (part_of form before s) (parts_after form (before ++ s ∷ []) more) (part_of form ((before ++ s ∷ []) ++ more) v))
    ∙ ap (λ xs. (part_of form before s ++ parts_after form (before ++ s ∷ []) more) ++ part_of form xs v) (append_assoc before (s ∷ []) more)

-- those of a report, and of a ledger text, look at no section but their own
pub parts_of_report : (before xs : List Checked) → parts_after Report before xs ≡ flat_map text_of_section xs
parts_of_report before [] = refl
parts_of_report before (s ∷ more) = ap (λ text. text_of_section s ++ text) (parts_of_report (before ++ s ∷ []) more)

pub parts_of_ledger : (before xs : List Checked) → parts_after Ledger before xs ≡ flat_map text_of_block xs
parts_of_ledger before [] = refl
parts_of_ledger before (s ∷ more) = ap (λ text. text_of_block s ++ text) (parts_of_ledger (before ++ s ∷ []) more)
