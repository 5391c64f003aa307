-- What the definitions of transactions say at p looks only at the events up to p.
use Rattle.std.proofs.Common.{◌≡◌, ℕ, zero, suc, ◌-◌, ◌≤◌, not, ◌&&◌, nat_lt, max, List, ◌∙◌, ap, ap₂, arith}
use Rattle.pmf_event.{specs.declared.event.Event.{Event}, specs.Places.{least, highest}, specs.Store.{stores, last}, specs.Transactions.{rise, depth_at, in_transaction, is_outside, adds, is_backed, opens_scope, closes_scope, opens_after, scope_at, in_scope, stores_inside, is_scoped}, proofs.PlacesLemmas.{SameUpTo, least-bound}}
use Rattle.pmf_shadow.{specs.Laws.{SameEvents}, proofs.SameLemmas.{greatest-same, least-same, same-before, at-same, last-same, count_at-same}}

highest-same : (f g : ℕ → ℕ) (n : ℕ) → ((k : ℕ) → k ≤ n → f k ≡ g k) → highest f n ≡ highest g n
unfolding highest
highest-same f g zero same = same zero (omega arith)
highest-same f g (suc n) same = ap₂ max (same (suc n) (omega arith)) (highest-same f g n (λ k within. same k (omega arith)))

module _ (es fs : List Event) (p : ℕ) (same : SameEvents es fs p) where
  rise-same : (q : ℕ) → q ≤ p → rise es p q ≡ rise fs p q
  unfolding rise
  rise-same q within = grind (arith, ap₂, count_at-same, same-before)

  pub depth-alike : depth_at es p ≡ depth_at fs p
  unfolding depth_at
  depth-alike = highest-same (rise es p) (rise fs p) p rise-same

  pub inside-alike : in_transaction es p ≡ in_transaction fs p
  unfolding in_transaction
  inside-alike = ap (nat_lt 0) depth-alike

  scope_start-alike : (k : ℕ) → least (opens_after es k) p ≡ least (opens_after fs k) p
  unfolding opens_after
  scope_start-alike k = least-same (opens_after es k) (opens_after fs k) p (λ j some within. ap (λ v. nat_lt k j && v) (at-same es fs p same opens_scope j within))

  pub scope-alike : scope_at es p ≡ scope_at fs p
  unfolding scope_at
  scope-alike = scope_start-alike (last closes_scope es p) ∙ ap (λ k. least (opens_after fs k) p) (last-same es fs p same closes_scope)

  pub scope-within : scope_at es p ≤ p
  unfolding scope_at
  scope-within = least-bound (opens_after es (last closes_scope es p)) p

  pub in_scope-alike : in_scope es p ≡ in_scope fs p
  unfolding in_scope
  in_scope-alike = ap (nat_lt 0) scope-alike

module _ (es fs : List Event) (p : ℕ) (same : SameEvents es fs p) where
  inside_at-alike : (k : ℕ) → k ≤ p → in_transaction es k ≡ in_transaction fs k
  inside_at-alike k within = inside-alike es fs k (same-before es fs p k within same)

  outside_at-alike : SameUpTo (is_outside es) (is_outside fs) p
  unfolding is_outside
  outside_at-alike k some within = ap not (inside_at-alike k within)

  pub backed-alike : (b : ℕ) → is_backed es p b ≡ is_backed fs p b
  unfolding is_backed
  backed-alike b = ap₂ (λ o l. nat_lt o (l - 1)) (greatest-same (is_outside es) (is_outside fs) p outside_at-alike) (last-same es fs p same (adds b))

  inside_stores-alike : (b : ℕ) → SameUpTo (stores_inside es b) (stores_inside fs b) p
  unfolding stores_inside
  inside_stores-alike b k some within = ap₂ (λ s t. s && t) (at-same es fs p same (stores b) k within) (inside_at-alike k within)

  pub scoped-alike : (b : ℕ) → is_scoped es p b ≡ is_scoped fs p b
  unfolding is_scoped
  scoped-alike b = grind (arith, ap₂, nat_lt, in_scope-alike, scope-alike, ap, greatest-same, inside_stores-alike)
