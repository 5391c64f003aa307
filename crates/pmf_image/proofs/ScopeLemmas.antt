-- Passes over the events, for what they say of transactions, of the scope and of one byte.
use Rattle.std.proofs.{Common.{add-one, ◌≡◌, ℕ, suc, ◌-◌, Bool, true, false, not, ◌&&◌, ◌||◌, nat_lt, if◌then◌else◌, List, refl, sym, ◌∙◌, ap, arith, Some}, lemmas.Grind.{common_steps}}
use Rattle.pmf_event.{specs.declared.event.Event.{Event}, specs.declared.event.Event.TheVariants.{Store, TxBegin, TxEnd, CheckStart, CheckEnd}, specs.Store.{event_at, at, stores, last}, specs.Exclusion.{excludes, marks, is_excluded, is_included}, specs.Transactions.{begins, ends, depth_at, in_transaction, opens_scope, closes_scope, scope_at, in_scope, is_scoped}, proofs.EventLemmas.{at-is, last-step, last-none}, proofs.TransactionLemmas.{depth-start, depth-begun, depth-ended, depth-kept, scope-start, scope-none, scope-some, scoped-from, unscoped-from, in_scope-same, scope-stays, scope-opened, scope-kept, scope-closed, scoped-opened, scoped-kept, scoped-stored, not_scoped}}
use Rattle.pmf_image.{specs.declared.transactions.Scope.{Scope}}

-- ---- whether a byte is included

pub included-start : (es : List Event) (b : ℕ) → is_included es 0 b ≡ true
unfolding is_included is_excluded at event_at
included-start es b = ap (λ k. not (at (excludes b) es k)) (last-none (marks b) es)

pub included-step : (es : List Event) (b i : ℕ) (e : Event) → event_at es (suc i) ≡ Some e →
    is_included es (suc i) b ≡ (if marks b e then not (excludes b e) else is_included es i b)
unfolding is_included is_excluded
included-step es b i e here =
    ap (λ k. not (at (excludes b) es k)) (last-step (marks b) es i e here)
    ∙ elim (marks b e) as (λ v. not (at (excludes b) es (if v then suc i else last (marks b) es i)) ≡ (if v then not (excludes b e) else not (at (excludes b) es (last (marks b) es i)))) [
      | true ↦ ap not (at-is (excludes b) es (suc i) (Some e) here)
      | false ↦ refl
    ]

-- ---- the transactions, the scope, and whether a byte is one of its

-- what a pass keeps is what the definitions say of the first i events
pub record Tracked (es : List Event) (b i : ℕ) (scope : Scope) : Type 0 where
  pub depth_is : scope.depth ≡ depth_at es i
  pub opened_is : scope.is_open ≡ in_scope es i
  pub has_is : scope.has_byte ≡ is_scoped es i b

pub tracked-none : (es : List Event) (b : ℕ) → Tracked es b 0 (record { depth = 0; is_open = false; has_byte = false })
tracked-none es b = grind (arith, common_steps, unscoped-from, scope-start, depth-start, not_scoped)

-- a store in a transaction and in the scope makes the byte one of its; any other leaves it as it is
scoped-store : (es : List Event) (b i : ℕ) (e : Event) → event_at es (suc i) ≡ Some e → scope_at es (suc i) ≡ scope_at es i → (u w : Bool) →
    (stores b e && in_transaction es (suc i)) ≡ u → in_scope es i ≡ w → ((u && w) || is_scoped es i b) ≡ is_scoped es (suc i) b
scoped-store es b i e here same u w stored scoped = grind (arith, common_steps, scoped-kept, scoped-stored, not_scoped, in_scope-same)

-- one more event, by its kind
module _ (es : List Event) (b i : ℕ) (old new : Scope) (before : Tracked es b i old) where
  -- one that leaves the scope and its bytes as they are
  kept : (e : Event) → event_at es (suc i) ≡ Some e → closes_scope e ≡ false → opens_scope e ≡ false → stores b e ≡ false →
      new.depth ≡ depth_at es (suc i) → new.is_open ≡ old.is_open → new.has_byte ≡ old.has_byte → Tracked es b (suc i) new
  kept e here no_end no_start no_store depth opened has =
      let same = scope-kept es i e here no_end no_start in record {
        depth_is = depth;
        opened_is = opened ∙ before.opened_is ∙ sym (in_scope-same es i (suc i) same);
        has_is = has ∙ before.has_is ∙ sym (scoped-kept es i e here b same (ap (λ v. v && in_transaction es (suc i)) no_store));
      }

  pub tracked-step : (e : Event) → event_at es (suc i) ≡ Some e →
      new.depth ≡ (if begins e then suc old.depth else (if ends e then old.depth - 1 else old.depth)) →
      new.is_open ≡ (if closes_scope e then false else (opens_scope e || old.is_open)) →
      new.has_byte ≡ (if closes_scope e then false else (((stores b e && nat_lt 0 old.depth) && old.is_open) || old.has_byte)) → Tracked es b (suc i) new
  unfolding begins ends opens_scope closes_scope stores in_transaction
  tracked-step (Store s) here depth opened has =
      let same = scope-kept es i (Store s) here refl refl in
      let deep = depth-kept es i (Store s) here refl refl in record {
        depth_is = depth ∙ before.depth_is ∙ sym deep;
        opened_is = opened ∙ before.opened_is ∙ sym (in_scope-same es i (suc i) same);
        has_is = has ∙ rw (before.depth_is, before.opened_is, before.has_is, ← deep) (scoped-store es b i (Store s) here same _ _ refl refl);
      }
  tracked-step TxBegin here depth opened has =
      kept TxBegin here refl refl refl (depth ∙ ap (λ k. suc k) before.depth_is ∙ sym (depth-begun es i TxBegin here refl refl)) opened has
  tracked-step TxEnd here depth opened has =
      kept TxEnd here refl refl refl (depth ∙ ap (λ k. k - 1) before.depth_is ∙ sym (depth-ended es i TxEnd here refl refl)) opened has
  tracked-step CheckStart here depth opened has =
      let deep = depth ∙ before.depth_is ∙ sym (depth-kept es i CheckStart here refl refl) in
      elim (in_scope es i) as (λ v. in_scope es i ≡ v → Tracked es b (suc i) new) [
        | true ↦ λ some.
            let same = scope-stays es i CheckStart here refl (scope-some es i some) in record {
              depth_is = deep;
              opened_is = opened ∙ sym (in_scope-same es i (suc i) same ∙ some);
              has_is = has ∙ before.has_is ∙ sym (scoped-kept es i CheckStart here b same refl);
            }
        | false ↦ λ none.
            let starts = scope-opened es i CheckStart here refl refl (scope-none es i none) in record {
              depth_is = deep;
              opened_is = opened ∙ sym (scoped-from es (suc i) (omega arith));
              has_is = has ∙ before.has_is ∙ not_scoped es i b none ∙ sym (scoped-opened es (suc i) b starts);
            }
      ] refl
  tracked-step CheckEnd here depth opened has =
      let none = unscoped-from es (suc i) (scope-closed es i CheckEnd here refl) in record {
        depth_is = depth ∙ before.depth_is ∙ sym (depth-kept es i CheckEnd here refl refl);
        opened_is = opened ∙ sym none;
        has_is = has ∙ sym (not_scoped es (suc i) b none);
      }
  tracked-step e here depth opened has =
      kept e here refl refl refl (depth ∙ before.depth_is ∙ sym (depth-kept es i e here refl refl)) opened has

pub ruleset inclusion = (add-one, included-start, included-step)
