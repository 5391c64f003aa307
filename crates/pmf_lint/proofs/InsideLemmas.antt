-- Depth and scope after one more event.
use Rattle.std.proofs.{Common.{◌≡◌, ℕ, suc, ◌+◌, ◌-◌, Bool, true, false, ◌&&◌, List, Some, refl, sym, ◌∙◌, arith, nat_lt}, lemmas.Grind.{common_steps}}
use Rattle.pmf_event.{specs.declared.event.Event.{Event}, specs.Store.{event_at}, specs.Transactions.{begins, ends, opens_scope, closes_scope, depth_at, in_scope, in_transaction}, proofs.TransactionLemmas.{depth-start, scope-start, depth-begun, depth-ended, depth-kept, scope-stays, scope-opened, scope-kept, scope-closed, scoped-from, unscoped-from, in_scope-same}}
use Rattle.pmf_lint.specs.Covering.{is_inside}

-- what begins a transaction ends none
begins_alone : (e : Event) → begins e ≡ true → ends e ≡ false
unfolding begins ends
begins_alone e is = grind (arith, common_steps)

module _ (es : List Event) (p : ℕ) (e : Event) (here : event_at es (suc p) ≡ Some e) where
  pub depth_begun : (d : ℕ) → begins e ≡ true → d ≡ depth_at es p → d + 1 ≡ depth_at es (suc p)
  depth_begun d is same = let more = depth-begun es p e here is (begins_alone e is) in omega arith

  pub depth_ended : (d : ℕ) → begins e ≡ false → ends e ≡ true → d ≡ depth_at es p → d - 1 ≡ depth_at es (suc p)
  depth_ended d other is same = let less = depth-ended es p e here other is in omega arith

  pub depth_kept : (d : ℕ) → begins e ≡ false → ends e ≡ false → d ≡ depth_at es p → d ≡ depth_at es (suc p)
  depth_kept d other neither same = same ∙ sym (depth-kept es p e here other neither)

  pub scope_ended : closes_scope e ≡ true → false ≡ in_scope es (suc p)
  scope_ended is = sym (unscoped-from es (suc p) (scope-closed es p e here is))

  pub scope_begun : closes_scope e ≡ false → opens_scope e ≡ true → true ≡ in_scope es (suc p)
  scope_begun other is = grind (arith, common_steps, scope-opened, scoped-from, scope-stays)

  pub scope_same : (scope : Bool) → closes_scope e ≡ false → opens_scope e ≡ false → scope ≡ in_scope es p → scope ≡ in_scope es (suc p)
  scope_same scope other neither same = same ∙ sym (in_scope-same es p (suc p) (scope-kept es p e here other neither))

pub starts_outside : (es : List Event) → 0 ≡ depth_at es 0
starts_outside es = sym (depth-start es)

pub starts_unscoped : (es : List Event) → false ≡ in_scope es 0
starts_unscoped es = sym (unscoped-from es 0 (scope-start es))

pub inside_from : (es : List Event) (k depth : ℕ) (scope : Bool) → depth ≡ depth_at es (suc k) → scope ≡ in_scope es (suc k) → (nat_lt 0 depth && scope) ≡ is_inside es (suc k)
unfolding is_inside in_transaction
inside_from es k depth scope same scoped = rw (same, scoped) refl
