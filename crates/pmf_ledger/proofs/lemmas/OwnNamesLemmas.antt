-- The sections of a log are few enough for a board, and have names of their own.
use Rattle.std.proofs.{Common.{◌≡◌, ℕ, ◌+◌, ◌≤◌, Bool, true, List, [], ◌∷◌, length, map, refl, ap, arith, Ok, eqb-true, ◌&&◌, count_by, cond, rules}, lemmas.Bool.{true≢false}, lemmas.List.{length-map}, lemmas.List.Sums.{sum_by-cons}, lemmas.Grind.{common_steps}}
use Rattle.pmf_event.specs.declared.name.Name.{Name}
use Rattle.pmf_storelog.{specs.LogText.{log_of}, specs.LogValue.{LogValue}, specs.Rising.{IsBelow, Rises}, proofs.RisingLemmas.{name_in, numbers_rise}}
use Rattle.pmf_ledger.specs.Repeats.{StandsTwice, is_name}

both_right : (x y : Bool) → (x && y) ≡ true → y ≡ true
both_right x y is = search (rules, true≢false)

module _ (run : ℕ) (name : Name) where
  counted : (n : ℕ) (ns : List ℕ) → count_by (is_name name) (map (name_in run) (n ∷ ns)) ≡ cond (is_name name (name_in run n)) 1 0 + count_by (is_name name) (map (name_in run) ns)
  counted n ns = sum_by-cons (λ x. cond (is_name name x) 1 0) (name_in run n) (map (name_in run) ns)

  -- a name with a number below all of them is none of them
  none-above : (ns : List ℕ) → IsBelow name.number ns → count_by (is_name name) (map (name_in run) ns) ≡ 0
  none-above [] below = refl
  none-above (n ∷ ns) below = grind (arith, common_steps, name_in, eqb-true, both_right, counted, none-above ns below.1)

  -- of rising numbers each name is one at most
  once : (ns : List ℕ) → Rises ns → count_by (is_name name) (map (name_in run) ns) ≤ 1
  once [] rising = omega arith
  once (n ∷ ns) rising = grind (arith, common_steps, name_in, eqb-true, both_right, counted, none-above, once ns rising.1)

pub own_names : (run : ℕ) (bytes : List ℕ) (log : LogValue) → log_of run bytes ≡ Ok log → (name : Name) → StandsTwice log.sections name → ⊥
own_names run bytes log is name twice =
    let found = numbers_rise run bytes log is in let same = ap (count_by (is_name name)) found.3 in let most = once run name found.0 found.1 in omega (arith, same, most, twice)

pub few_sections : (run : ℕ) (bytes : List ℕ) (log : LogValue) → log_of run bytes ≡ Ok log → length log.sections ≤ 65536
few_sections run bytes log is = grind (arith, common_steps, numbers_rise, length-map, name_in)
