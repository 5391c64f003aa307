-- The transactions and scopes of one more event.
use Rattle.std.proofs.{Common.{◌≡◌, ℕ, suc, ◌+◌, ◌-◌, ◌<◌, ◌≤◌, true, false, ◌==◌, ◌&&◌, nat_lt, if◌then◌else◌, List, Some, sym, ap, ◌∙◌, arith}, lemmas.Grind.{common_steps}}
use Rattle.pmf_event.{specs.declared.event.Event.{Event}, specs.Places.{greatest}, specs.Store.{event_at}, specs.Transactions.{begins, ends, opens_scope, closes_scope, depth_at, in_scope, in_transaction, is_outside, scope_at}, proofs.PlacesLemmas.{greatest-step, greatest-zero}, proofs.TransactionLemmas.{depth-start, scope-start, depth-begun, depth-ended, depth-kept, scope-stays, scope-opened, scope-kept, scope-closed}}
use Rattle.pmf_cause.specs.{declared.marks.Marks.{Marks}, Cause.{closes_last, ends_last}, Past.{AreMarks}}

-- what begins a transaction ends none
begins_alone : (e : Event) → begins e ≡ true → ends e ≡ false
unfolding begins ends
begins_alone e is = grind (arith, common_steps)

pub none : (es : List Event) → AreMarks (record { depth = 0; outside = 0; ended = 0; scope = 0; closed = 0 }) es 0
none es = record {
  depth = sym (depth-start es);
  outside = sym (greatest-zero (is_outside es));
  ended = sym (greatest-zero (ends_last es));
  scope = sym (scope-start es);
  closed = sym (greatest-zero (closes_last es));
}

module _ (es : List Event) (p : ℕ) (e : Event) (here : event_at es (suc p) ≡ Some e) where
  pub depth_begun : (d : ℕ) → begins e ≡ true → d ≡ depth_at es p → d + 1 ≡ depth_at es (suc p)
  depth_begun d is same = let more = depth-begun es p e here is (begins_alone e is) in omega arith

  pub depth_ended : (d : ℕ) → begins e ≡ false → ends e ≡ true → d ≡ depth_at es p → d - 1 ≡ depth_at es (suc p)
  depth_ended d other is same = let less = depth-ended es p e here other is in omega arith

  pub depth_same : (d : ℕ) → begins e ≡ false → ends e ≡ false → d ≡ depth_at es p → d ≡ depth_at es (suc p)
  depth_same d other neither same = same ∙ sym (depth-kept es p e here other neither)

  pub scope_ended : closes_scope e ≡ true → 0 ≡ scope_at es (suc p)
  scope_ended is = sym (scope-closed es p e here is)

  pub scope_same : (scope : ℕ) → closes_scope e ≡ false → 0 < scope → scope ≡ scope_at es p → scope ≡ scope_at es (suc p)
  scope_same scope other some same = let kept = scope-stays es p e here other in let first = kept (omega arith) in omega arith

  pub scope_begun : (scope place : ℕ) → closes_scope e ≡ false → scope ≤ 0 → opens_scope e ≡ true → scope ≡ scope_at es p → place ≡ suc p → place ≡ scope_at es (suc p)
  scope_begun scope place other none_yet is same next = next ∙ sym (scope-opened es p e here other is (omega arith))

  pub scope_none : (scope : ℕ) → closes_scope e ≡ false → scope ≤ 0 → opens_scope e ≡ false → scope ≡ scope_at es p → 0 ≡ scope_at es (suc p)
  scope_none scope other none_yet no_start same = let kept = scope-kept es p e here other no_start in omega arith

outside_step : (es : List Event) (p : ℕ) → greatest (is_outside es) (suc p) ≡ (if depth_at es (suc p) == 0 then suc p else greatest (is_outside es) p)
unfolding is_outside in_transaction
outside_step es p = grind (arith, common_steps, greatest-step)

ended_step : (es : List Event) (p : ℕ) → greatest (ends_last es) (suc p) ≡ (if nat_lt 0 (depth_at es p) && (depth_at es (suc p) == 0) then suc p else greatest (ends_last es) p)
unfolding ends_last is_outside in_transaction
ended_step es p = grind (arith, common_steps, greatest-step)

closed_step : (es : List Event) (p : ℕ) → greatest (closes_last es) (suc p) ≡ (if nat_lt 0 (scope_at es p) && (scope_at es (suc p) == 0) then suc p else greatest (closes_last es) p)
unfolding closes_last in_scope
closed_step es p = grind (arith, common_steps, greatest-step)

pub next : (old new : Marks) (es : List Event) (p : ℕ) → AreMarks old es p →
    new.depth ≡ depth_at es (suc p) → new.outside ≡ (if new.depth == 0 then suc p else old.outside) → new.ended ≡ (if nat_lt 0 old.depth && (new.depth == 0) then suc p else old.ended) →
    new.scope ≡ scope_at es (suc p) → new.closed ≡ (if nat_lt 0 old.scope && (new.scope == 0) then suc p else old.closed) → AreMarks new es (suc p)
next old new es p marks depth outside ended scope closed = record {
  depth = depth;
  outside = outside ∙ ap (λ d. if d == 0 then suc p else old.outside) depth ∙ ap (λ g. if depth_at es (suc p) == 0 then suc p else g) marks.outside ∙ sym (outside_step es p);
  ended = ended ∙ ap (λ d. if nat_lt 0 d && (new.depth == 0) then suc p else old.ended) marks.depth ∙ ap (λ d. if nat_lt 0 (depth_at es p) && (d == 0) then suc p else old.ended) depth
      ∙ ap (λ g. if nat_lt 0 (depth_at es p) && (depth_at es (suc p) == 0) then suc p else g) marks.ended ∙ sym (ended_step es p);
  scope = scope;
  closed = closed ∙ ap (λ n. if nat_lt 0 n && (new.scope == 0) then suc p else old.closed) marks.scope ∙ ap (λ n. if nat_lt 0 (scope_at es p) && (n == 0) then suc p else old.closed) scope
      ∙ ap (λ g. if nat_lt 0 (scope_at es p) && (scope_at es (suc p) == 0) then suc p else g) marks.closed ∙ sym (closed_step es p);
}
