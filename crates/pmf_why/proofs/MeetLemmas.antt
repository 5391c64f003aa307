-- A row that is met, asked for or not, with a cause or without one.
use Rattle.std.{proofs.Common.{◌≡◌, Bool, true, false, cond, List, [], ◌∷◌, ◌++◌, Option, None, Some, Result, Ok, Err, refl, sym, ap, subst, ◌∙◌, append-nil, append_assoc, arith, ℕ, ◌+◌, ◌<◌, length, take, get_or, flat_map}, proofs.lemmas.List.{take_more}, proofs.lemmas.Grind.{common_steps}, specs.Result.{OnOk}}
use Rattle.pmf_event.specs.declared.row.Row.{Row}
use Rattle.pmf_request.specs.declared.settings.Reasons.{Reasons}
use Rattle.pmf_cause.specs.{declared.cause.Cause.{Cause}, Cause.{cause_of}}
use Rattle.pmf_why.specs.{declared.taking.Telling.{Telling}, Reasons.{Bad, Part, asked_row, is_asked, with_cause}, Telling.{HasRows}}

module _ (asked : Reasons) (before : List Bad) (t : Telling) (part : Part) (row : Row) (has : HasRows asked before t) where
  same : is_asked t.asked.event row.place ≡ is_asked asked.event row.place
  same = ap (λ (a : Reasons). is_asked a.event row.place) has.asked_is

  so : (more : List Bad) (new : Telling) → asked_row asked part row ≡ more → HasRows asked (before ++ more) new → HasRows asked (before ++ asked_row asked part row) new
  so more new is rows = subst (λ (bads : List Bad). HasRows asked (before ++ bads) new) (sym is) rows

  nothing : asked_row asked part row ≡ [] → HasRows asked (before ++ asked_row asked part row) t
  nothing none = so [] t none (subst (λ (bads : List Bad). HasRows asked bads t) (sym (append-nil before)) has)

  -- its event is not asked for
  pub not_met : is_asked t.asked.event row.place ≡ false → HasRows asked (before ++ asked_row asked part row) t
  unfolding asked_row
  not_met apart = nothing (ap (λ (b : Bool). cond b (with_cause part row (cause_of part.checked.section.events row)) []) (sym same ∙ apart))

  either : (b : Bool) (xs : List Bad) → xs ≡ [] → cond b xs [] ≡ []
  either true xs none = none
  either false xs none = refl

  -- it has no cause
  pub met_without : None ≡ cause_of part.checked.section.events row → HasRows asked (before ++ asked_row asked part row) t
  unfolding asked_row
  met_without none = nothing (ap (λ (o : Option Cause). cond (is_asked asked.event row.place) (with_cause part row o) []) (sym none) ∙ either (is_asked asked.event row.place) [] refl)

  one : is_asked t.asked.event row.place ≡ true → (cause : Cause) → Some cause ≡ cause_of part.checked.section.events row → asked_row asked part row ≡ record { part = part; row = row; cause = cause } ∷ []
  unfolding asked_row
  one is cause at = ap (λ (b : Bool). cond b (with_cause part row (cause_of part.checked.section.events row)) []) (sym same ∙ is) ∙ ap (λ (o : Option Cause). with_cause part row o) (sym at)

  -- it is asked for, and has a cause
  pub met_one : is_asked t.asked.event row.place ≡ true → (cause : Cause) → Some cause ≡ cause_of part.checked.section.events row →
      {E : Type 0} (r : Result (Unit {0}) E) (new : Telling) → OnOk r (HasRows asked (before ++ record { part = part; row = row; cause = cause } ∷ []) new) → OnOk r (HasRows asked (before ++ asked_row asked part row) new)
  met_one is cause at (Ok u) new rows = so _ new (one is cause at) rows
  met_one is cause at (Err e) new rows = rows

flat_map_push : (f : Row → List Bad) (rows : List Row) (row : Row) → flat_map f (rows ++ row ∷ []) ≡ flat_map f rows ++ f row
flat_map_push f [] row = append-nil (f row)
flat_map_push f (r ∷ rows) row = ap (λ (bads : List Bad). f r ++ bads) (flat_map_push f rows row) ∙ sym (append_assoc (f r) (flat_map f rows) (f row))

-- one row more of some
pub row_more : (before : List Bad) (f : Row → List Bad) (rows : List Row) (i : ℕ) (d : Row) → i < length rows → (before ++ flat_map f (take i rows)) ++ f (get_or rows i d) ≡ before ++ flat_map f (take (i + 1) rows)
row_more before f rows i d within = grind (arith, common_steps, take_more, append_assoc, flat_map_push)
