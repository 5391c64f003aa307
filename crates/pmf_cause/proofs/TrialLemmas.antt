-- Sets of places, and what rises in a list of changes.
use Rattle.std.proofs.{Common.{◌≡◌, ℕ, ◌+◌, ◌<◌, ◌≤◌, Bool, true, false, ◌||◌, ◌&&◌, ◌==◌, List, ◌∷◌, drop, take, length, refl, subst, sym, ap, ◌∙◌, get_or, arith}, lemmas.Bool.{and_parts}, lemmas.Grind.{common_steps}, lemmas.List.{drop_more, drop_all}, lemmas.List.Folds.{list_any_more}}
use Rattle.std.specs.List.{list_any}
use Rattle.pmf_event.specs.{declared.row.Row.{Row}, Section.{Trace}}
use Rattle.pmf_verdict.specs.Checked.{Checked, rows_in}
use Rattle.pmf_runs.specs.{declared.members.Members.{Members}, declared.runs.RunMap.{RunMap}, contracts.members.BoolState.TheImpl.{ghosts}, Runs.{state_at, is_between, ChangesBetween}}
use Rattle.pmf_cause.specs.{declared.edit.Edit.{Edit}, declared.trial.Trial.{Trial}, Changed.{changed, old_place, old_places, place_of, RisesFrom}, Cure.{bad_at, cured, excludes_anew, fails, fails_at, is_bad, is_new, passes_at, IsTrial}}
use Rattle.pmf_verdict.specs.{Outcome.{is_same, outcome_of}, declared.outcome.Outcome.TheVariants.{Pass}}

pub put_there : (old new : RunMap Bool Members ghosts) (place end : ℕ) → end ≡ place + 1 → ChangesBetween place end (λ member. true) old new →
    (p : ℕ) → state_at new p ≡ (state_at old p || (place == p))
unfolding is_between
put_there old new place end at_end changes p = grind (arith, common_steps)

-- ---- one row more

pub any_more : (test : Row → Bool) (rows : List Row) (i : ℕ) (d : Row) (old new here : Bool) → i < length rows → old ≡ list_any test (take i rows) →
    here ≡ test (get_or rows i d) → new ≡ (old || here) → new ≡ list_any test (take (i + 1) rows)
any_more test rows i d old new here less so at grown =
    grown ∙ ap (λ b. b || here) so ∙ ap (λ b. list_any test (take i rows) || b) at ∙ sym (list_any_more test rows i d less)

pub fails_here : (p : ℕ) (row : Row) (b : Bool) → b ≡ fails row → (b && (row.place == p)) ≡ fails_at p row
unfolding fails_at
fails_here p row b is = ap (λ b. b && (row.place == p)) is

pub bad_here : (places : List ℕ) (p q : ℕ) (row : Row) (b : Bool) → b ≡ is_bad row → q ≡ old_place places row.place → (b && (q == p)) ≡ bad_at places p row
unfolding bad_at
bad_here places p q row b is at = ap (λ b. b && (q == p)) is ∙ ap (λ q. is_bad row && (q == p)) at

either : (a b x y : Bool) → (a ≡ true → x ≡ true) → (b ≡ true → y ≡ true) → (a || b) ≡ true → (x || y) ≡ true
either true b x y first second is = ap (λ v. v || y) (first refl)
either false b true y first second is = refl
either false b false y first second is = second is

pub some_more : (test : Row → Bool) (rows : List Row) (i : ℕ) (d : Row) (old new here : Bool) → i < length rows → (old ≡ true → list_any test (take i rows) ≡ true) →
    (here ≡ true → test (get_or rows i d) ≡ true) → new ≡ (old || here) → new ≡ true → list_any test (take (i + 1) rows) ≡ true
some_more test rows i d old new here less so at grown is =
    list_any_more test rows i d less ∙ either old here (list_any test (take i rows)) (test (get_or rows i d)) so at (sym grown ∙ is)

pub good_here : (places : List ℕ) (p q : ℕ) (row : Row) (b f : Bool) → b ≡ (is_same Pass (outcome_of row.finding) && f) → q ≡ old_place places row.place → (b && (q == p)) ≡ true → passes_at places p row ≡ true
unfolding passes_at
good_here places p q row b f is at so =
    let both = and_parts b (q == p) so in
    ap (λ v. v && (old_place places row.place == p)) (and_parts (is_same Pass (outcome_of row.finding)) f (sym is ∙ both.0)).0 ∙ ap (λ n. n == p) (sym at) ∙ both.1

-- ---- rising changes

pub rises_more : (edits : List Edit) (i least place : ℕ) (item : Edit) → i < length edits → item ≡ get_or edits i item → place ≡ place_of item → (place < least → ⊥) →
    RisesFrom place (drop (i + 1) edits) → RisesFrom least (drop i edits)
unfolding RisesFrom
rises_more edits i least place item less is at below rises =
    let step : drop i edits ≡ item ∷ drop (i + 1) edits = drop_more edits i item less ∙ ap (λ e. e ∷ drop (i + 1) edits) (sym is) in
    subst (RisesFrom least) (sym step) (omega (arith, at, below), subst (λ k. RisesFrom k (drop (i + 1) edits)) at rises)

pub rises_end : (edits : List Edit) (i least : ℕ) → length edits ≤ i → RisesFrom least (drop i edits)
unfolding RisesFrom
rises_end edits i least past = subst (RisesFrom least) (sym (drop_all i edits past)) (tt {0})

-- ---- what is kept of a trial

pub trial_made : (checked : Checked) (edits : List Edit) (trial : Trial) (places : List ℕ) → trial.verdict ≡ cured checked edits → places ≡ old_places edits checked.section.events →
    ((p : ℕ) → state_at trial.bad p ≡ list_any (bad_at places p) (rows_in trial.verdict)) → false ≡ list_any (is_new places (rows_in checked)) (rows_in trial.verdict) →
    ((p : ℕ) → state_at trial.good p ≡ true → list_any (passes_at places p) (rows_in trial.verdict) ≡ true) → (trial.checks_alike ≡ true → list_any (excludes_anew checked.section.events) edits ≡ false) →
    IsTrial checked edits trial
trial_made checked edits trial places same at bad none good alike = record {
  verdict = same;
  bad = λ p. bad p ∙ ap (λ ps. list_any (bad_at ps p) (rows_in trial.verdict)) at ∙ ap (λ v. list_any (bad_at (old_places edits checked.section.events) p) (rows_in v)) same;
  good = λ p is. sym (ap (λ ps. list_any (passes_at ps p) (rows_in trial.verdict)) at ∙ ap (λ v. list_any (passes_at (old_places edits checked.section.events) p) (rows_in v)) same) ∙ good p is;
  checks_alike = alike;
  spoils_nothing = sym (none ∙ ap (λ ps. list_any (is_new ps (rows_in checked)) (rows_in trial.verdict)) at ∙ ap (λ v. list_any (is_new (old_places edits checked.section.events) (rows_in checked)) (rows_in v)) same);
}

pub cured_is : (checked : Checked) (edits : List Edit) (v : Checked) (made section : Trace) → made ≡ record { name = checked.section.name; events = changed edits checked.section.events } → section ≡ made →
    v ≡ record { section = section; profile = checked.profile } → v ≡ cured checked edits
unfolding cured
cured_is checked edits v made section is same at = at ∙ ap (λ s. record { section = s; profile = checked.profile }) (same ∙ is)
