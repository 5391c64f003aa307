-- A part takes one event more.
use mathlib.Core.Logic.{∥∥₁_elim, ∥∥₁_map}
use Rattle.std.proofs.{Props.{props}, Common.{length-append, ◌≡◌, ℕ, suc, ◌+◌, ◌-◌, ◌<◌, ◌≤◌, true, false, if◌then◌else◌, List, [], ◌∷◌, ◌++◌, length, refl, sym, ◌∙◌, ap, subst, arith, inl, inr, Some}, lemmas.Bool.{cases_lt}}
use Rattle.pmf_event.{specs.declared.event.Event.{Event}, specs.declared.event.Event.TheVariants.{TxBegin, TxEnd, CheckStart, CheckEnd}, specs.declared.section.TheConstants.{EVENT_LIMIT}, specs.declared.span.TheConstants.{ADDRESS_LIMIT}, specs.Section.{IsValidEvent}, specs.Line.{line_of_byte}, specs.Store.{event_at, at, stores, last_store}, specs.Interval.{first_write_back, closing_fence}, specs.LineBytes.{is_undurable, is_unwritten}, specs.Exclusion.{excludes, marks, is_excluded}, specs.Transactions.{begins, ends, opens_scope, closes_scope, depth_at, in_scope}, proofs.EventLemmas.{last-none, last-other}, proofs.LineBytesLemmas.{lacks-not}, proofs.TransactionLemmas.{outside-from, depth-start, scope-start as first-scope, depth-begun, depth-ended, depth-kept, scope-some, scope-none, scoped-from, unscoped-from, scope-stays, scope-opened, scope-kept, scope-closed, in_scope-same, begins-other, ends-other, opens-other, closes-other}}
use Rattle.pmf_shadow.{specs.declared.shadow.Shadow.{Shadow}, specs.Shadow.{FollowsAt, StandsFor, Keeps}, proofs.StandsLemmas.{follows-within, stands-fences}}
use Rattle.pmf_cut.{specs.declared.part.Part.{Part}, specs.Alike.{IsAlike}, specs.Comparing.{IsAlikeBelow}, specs.Parts.{LiesLow, Stands, Follows, BeginsWith, Renews}, proofs.StepLemmas.{excluded-step}}

high-unstored : (e : Event) (b : ℕ) → IsValidEvent e → ADDRESS_LIMIT ≤ b → stores b e ≡ false
unfolding stores
high-unstored v0 b valid high = grind arith

high-unmarked : (e : Event) (b : ℕ) → IsValidEvent e → ADDRESS_LIMIT ≤ b → marks b e ≡ false
unfolding marks
high-unmarked v0 b valid high = grind arith

low-step : (fs : List Event) (m : ℕ) (e : Event) → event_at fs (suc m) ≡ Some e → IsValidEvent e → LiesLow fs m → LiesLow fs (suc m)
low-step fs m e here valid low b high = (
  last-other (stores b) fs m e here (high-unstored e b valid high) ∙ (low b high).0,
  excluded-step fs m b e here ∙ ap (λ v. if v then excludes b e else is_excluded fs m b) (high-unmarked e b valid high) ∙ (low b high).1,
)

pub follows-part : (old new : Part) (e : Event) → IsValidEvent e → FollowsAt new.events old.shadow new.shadow e → new.events ≡ old.events + 1 →
    ((fs : List Event) (m : ℕ) → event_at fs (suc m) ≡ Some e → old.depth ≡ depth_at fs m → new.depth ≡ depth_at fs (suc m)) →
    ((fs : List Event) (m : ℕ) → event_at fs (suc m) ≡ Some e → old.is_scoped ≡ in_scope fs m → new.is_scoped ≡ in_scope fs (suc m)) → Follows old new e
follows-part old new e valid follows longer depth scope = λ fs m here stands.
    let count = stands.events in record {
      shadow = follows-within new.events old.shadow new.shadow e follows (λ k. k) fs m here (omega arith) stands.shadow;
      events = omega arith;
      depth = depth fs m here stands.depth;
      scope = scope fs m here stands.scope;
      low = low-step fs m e here valid stands.low;
    }

pub stands-none : (part : Part) (fs : List Event) → part.events ≡ 0 → part.depth ≡ 0 → part.is_scoped ≡ false → StandsFor part.shadow (λ k. k) fs 0 → Stands part fs 0
unfolding is_excluded at event_at
stands-none part fs events depth scope shadow = grind (arith, depth-start, unscoped-from, first-scope, last-none)

-- ---- depth and scope

module _ (fs : List Event) (m : ℕ) where
  pub depth_begin : event_at fs (suc m) ≡ Some TxBegin → depth_at fs (suc m) ≡ suc (depth_at fs m)
  unfolding begins ends
  depth_begin here = depth-begun fs m TxBegin here refl refl

  pub depth_end : event_at fs (suc m) ≡ Some TxEnd → depth_at fs (suc m) ≡ depth_at fs m - 1
  unfolding begins ends
  depth_end here = depth-ended fs m TxEnd here refl refl

  pub depth_other : (e : Event) → event_at fs (suc m) ≡ Some e → (e ≡ TxBegin → ⊥) → (e ≡ TxEnd → ⊥) → depth_at fs (suc m) ≡ depth_at fs m
  depth_other e here no_begin no_end = depth-kept fs m e here (begins-other e no_begin) (ends-other e no_end)

  pub scope_start : event_at fs (suc m) ≡ Some CheckStart → in_scope fs (suc m) ≡ true
  unfolding opens_scope closes_scope
  scope_start here = grind (arith, in_scope-same, scope-stays, scope-some, scoped-from, scope-opened, scope-none)

  pub scope_end : event_at fs (suc m) ≡ Some CheckEnd → in_scope fs (suc m) ≡ false
  unfolding closes_scope
  scope_end here = unscoped-from fs (suc m) (scope-closed fs m CheckEnd here refl)

  pub scope_other : (e : Event) → event_at fs (suc m) ≡ Some e → (e ≡ CheckStart → ⊥) → (e ≡ CheckEnd → ⊥) → in_scope fs (suc m) ≡ in_scope fs m
  scope_other e here no_start no_end = in_scope-same fs m (suc m) (scope-kept fs m e here (closes-other e no_end) (opens-other e no_start))

-- ---- some list is there

-- the shadow stands for a list of so many events
abbrev pub HasList : Shadow → ℕ → Type 0
HasList shadow events = (fs : List Event) × (length fs ≡ events) × StandsFor shadow (λ k. k) fs events

pub list_none : (shadow : Shadow) → ((told : ℕ → ℕ) (es : List Event) → StandsFor shadow told es 0) → ∥ HasList shadow 0 ∥₁
list_none shadow stands = ∣ ([], refl, stands (λ k. k) []) ∣₁

pub room_from : (shadow : Shadow) (events : ℕ) → ∥ HasList shadow events ∥₁ → events < EVENT_LIMIT → shadow.fences < EVENT_LIMIT
room_from shadow events some below = ∥∥₁_elim some (hlevel props) (λ it. let few = stands-fences shadow (λ k. k) it.0 events it.2 in omega arith)

pub list_kept : (old new : Shadow) (events : ℕ) → Keeps old new → ∥ HasList old events ∥₁ → ∥ HasList new events ∥₁
list_kept old new events keeps some = ∥∥₁_map some (λ it. (it.0, it.1, keeps (λ k. k) it.0 events it.2))

pub list-next : (old new : Shadow) (events place : ℕ) (e : Event) → FollowsAt place old new e → place ≡ events + 1 → ∥ HasList old events ∥₁ → ∥ HasList new (events + 1) ∥₁
list-next old new events place e follows next some = ∥∥₁_map some (λ it.
    let size : length it.0 ≡ events = it.1 in
    let after = follows (λ k. k) it.0 (omega arith) (subst (StandsFor old (λ k. k) it.0) (sym size) it.2) in
    (it.0 ++ e ∷ [], length-append it.0 (e ∷ []) ∙ omega arith, subst (StandsFor new (λ k. k) (it.0 ++ e ∷ [])) (omega arith) after))

-- ---- a part renewed

low-undurable : (fs : List Event) (m b : ℕ) → last_store fs m b ≡ 0 → is_undurable fs m b ≡ false
unfolding is_undurable
low-undurable fs m b none = lacks-not (last_store fs m b) (closing_fence (stores b) (line_of_byte b) fs m) (λ some. absurd (omega arith))

low-unwritten : (fs : List Event) (m b : ℕ) → last_store fs m b ≡ 0 → is_unwritten fs m b ≡ false
unfolding is_unwritten
low-unwritten fs m b none = lacks-not (last_store fs m b) (first_write_back (stores b) (line_of_byte b) fs m) (λ some. absurd (omega arith))

alike-everywhere : (fs : List Event) (m : ℕ) (gs : List Event) (q : ℕ) → LiesLow fs m → LiesLow gs q → IsAlikeBelow fs m gs q ADDRESS_LIMIT → IsAlike fs m gs q
alike-everywhere fs m gs q low low_too below = grind (arith, cases_lt, low-undurable, low-unwritten)

pub renews-by : (old new : Part) (head : List Event) → ((gs : List Event) → BeginsWith gs head → Stands new gs (length head)) → new.depth ≡ 0 → new.is_scoped ≡ false →
    ((fs : List Event) (m : ℕ) (gs : List Event) (q : ℕ) → StandsFor old.shadow (λ k. k) fs m → StandsFor new.shadow (λ k. k) gs q → IsAlikeBelow fs m gs q ADDRESS_LIMIT) → Renews old new head
renews-by old new head stands flat unscoped alike = record {
  stands = stands;
  alike = λ fs m gs one begins.
      let other = stands gs begins in
      alike-everywhere fs m gs (length head) one.low other.low (alike fs m gs (length head) one.shadow other.shadow);
  fresh = λ fs m gs one begins b some.
      let other = stands gs begins in
      elim (cases_lt b ADDRESS_LIMIT) [
        | inl inside ↦ ((alike fs m gs (length head) one.shadow other.shadow).bytes b inside).fresh some
        | inr high ↦ let none = (other.low b high).0 in absurd (omega arith)
      ];
  outside = grind (arith, outside-from);
}
