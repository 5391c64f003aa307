-- A walk over the events of a section, one event further.
use Rattle.std.proofs.{Common.{◌≡◌, ℕ, suc, ◌+◌, ◌-◌, ◌≤◌, Bool, true, false, not, cond, ◌&&◌, List, Some, refl, sym, ap, ◌∙◌, arith, nat_lt, lt-ltb, le-ltb}, lemmas.Grind.{common_steps}}
use Rattle.pmf_event.{specs.declared.event.Event.{Event}, specs.Places.{count}, specs.Store.{at, event_at, is_fence, last}, proofs.PlacesLemmas.{count-le, count-step, count-zero, greatest-bound, greatest-step, greatest-zero}, proofs.EventLemmas.{at-is}}
use Rattle.pmf_shadow.{specs.Shadow.{FollowsAt, StandsFor}, proofs.StandsLemmas.{follows-within}}
use Rattle.pmf_lint.specs.{declared.upkeep.Walk.{Walk}, Misread.{is_misread, is_unmet, misreads}, Upkeep.{HasWalkedOver, flushed_after, is_flush, is_flushed, is_idle, is_overwriting, overwrites}}

pub count_more : (test : ℕ → Bool) (n so_far : ℕ) (b : Bool) → so_far ≡ count test n → test (suc n) ≡ b → so_far + cond b 1 0 ≡ count test (suc n)
count_more test n so_far b same is = grind (arith, common_steps, count-step)

unflushed : (es : List Event) → false ≡ is_flushed es 0
unfolding is_flushed last
unflushed es = grind (arith, common_steps, greatest-zero)

pub walked_none : (walk : Walk) → ((told : ℕ → ℕ) (es : List Event) → StandsFor walk.shadow told es 0) → walk.flushed ≡ false → walk.fences ≡ 0 → walk.idle ≡ 0 → walk.overwriting ≡ 0 → walk.empty ≡ 0 → (es : List Event) → HasWalkedOver walk es 0
walked_none walk stands flushed fences idle overwriting empty es = record {
  shadow = stands (λ k. k) es;
  flushed = flushed ∙ unflushed es;
  fences = fences ∙ sym (count-zero (at is_fence es));
  idle = idle ∙ sym (count-zero (is_idle es));
  overwriting = overwriting ∙ sym (count-zero (is_overwriting es));
  empty = empty ∙ sym (count-zero (is_unmet es));
}

-- none of what a walk has counted is above the number of events
pub record IsFew (walk : Walk) (p : ℕ) : Type 0 where
  pub shadowed : walk.shadow.fences ≤ p
  pub fences : walk.fences ≤ p
  pub idle : walk.idle ≤ p
  pub overwriting : walk.overwriting ≤ p
  pub empty : walk.empty ≤ p

pub walked_few : (walk : Walk) (es : List Event) (p : ℕ) → HasWalkedOver walk es p → IsFew walk p
walked_few walk es p walked = record {
  shadowed = omega (arith, walked.shadow.fences, count-le (at is_fence es) p);
  fences = omega (arith, walked.fences, count-le (at is_fence es) p);
  idle = omega (arith, walked.idle, count-le (is_idle es) p);
  overwriting = omega (arith, walked.overwriting, count-le (is_overwriting es) p);
  empty = omega (arith, walked.empty, count-le (is_unmet es) p);
}

pub one_few : (b : Bool) (n : ℕ) → n ≡ cond b 1 0 → n ≤ 1
one_few b n is = grind arith

one_alone : (e : Event) → is_fence e ≡ true → is_flush e ≡ false
unfolding is_fence is_flush
one_alone e is = grind (arith, common_steps)

flushed_by : (p f w : ℕ) (a b : Bool) → f ≤ p → w ≤ p → (a ≡ true → b ≡ false) → nat_lt (cond a (suc p) f) (cond b (suc p) w) ≡ cond a false (cond b true (nat_lt f w))
flushed_by p f w true b few less alone = grind (arith, common_steps, le-ltb)
flushed_by p f w false true few less alone = grind (arith, common_steps, lt-ltb)
flushed_by p f w false false few less alone = refl

module _ (es : List Event) (p : ℕ) (e : Event) (here : event_at es (suc p) ≡ Some e) where
  before : suc p - 1 ≡ p
  before = omega arith

  pub fence_here : at is_fence es (suc p) ≡ is_fence e
  fence_here = at-is is_fence es (suc p) (Some e) here

  pub idle_here : is_idle es (suc p) ≡ (is_fence e && not (is_flushed es p))
  unfolding is_idle
  idle_here = ap (λ f. f && not (is_flushed es (suc p - 1))) fence_here ∙ ap (λ q. is_fence e && not (is_flushed es q)) before

  pub overwriting_here : is_overwriting es (suc p) ≡ overwrites es p (Some e)
  unfolding is_overwriting
  overwriting_here = ap (overwrites es (suc p - 1)) here ∙ ap (λ q. overwrites es q (Some e)) before

  pub misread_here : is_misread es (suc p) ≡ misreads es p (Some e)
  unfolding is_misread
  misread_here = ap (misreads es (suc p - 1)) here ∙ ap (λ q. misreads es q (Some e)) before

  pub flushed_here : is_flushed es (suc p) ≡ flushed_after (is_flushed es p) e
  unfolding is_flushed last
  flushed_here =
      ap (λ f. nat_lt f (last is_flush es (suc p))) (greatest-step (at is_fence es) p) ∙ ap (λ w. nat_lt (cond (at is_fence es (suc p)) (suc p) (last is_fence es p)) w) (greatest-step (at is_flush es) p)
      ∙ ap (λ f. nat_lt (cond f (suc p) (last is_fence es p)) (cond (at is_flush es (suc p)) (suc p) (last is_flush es p))) fence_here
      ∙ ap (λ w. nat_lt (cond (is_fence e) (suc p) (last is_fence es p)) (cond w (suc p) (last is_flush es p))) (at-is is_flush es (suc p) (Some e) here)
      ∙ flushed_by p (last is_fence es p) (last is_flush es p) (is_fence e) (is_flush e) (greatest-bound (at is_fence es) p) (greatest-bound (at is_flush es) p) (one_alone e)

  -- the walk with this event more
  pub walked_more : (old new : Walk) (unmet overwritten fence idle : Bool) → HasWalkedOver old es p → is_unmet es (suc p) ≡ unmet → overwritten ≡ overwrites es p (Some e) → fence ≡ is_fence e →
      idle ≡ (fence && not old.flushed) → FollowsAt (suc p) old.shadow new.shadow e → new.flushed ≡ flushed_after old.flushed e → new.empty ≡ old.empty + cond unmet 1 0 →
      new.overwriting ≡ old.overwriting + cond overwritten 1 0 → new.fences ≡ old.fences + cond fence 1 0 → new.idle ≡ old.idle + cond idle 1 0 → HasWalkedOver new es (suc p)
  walked_more old new unmet overwritten fence idle walked u o f i follows flushed empty_is overwriting_is fences_is idle_is = record {
    shadow = follows-within (suc p) old.shadow new.shadow e follows (λ k. k) es p here refl walked.shadow;
    flushed = flushed ∙ ap (λ b. flushed_after b e) walked.flushed ∙ sym flushed_here;
    fences = fences_is ∙ count_more (at is_fence es) p old.fences fence walked.fences (fence_here ∙ sym f);
    idle = idle_is ∙ count_more (is_idle es) p old.idle idle walked.idle (idle_here ∙ ap (λ b. b && not (is_flushed es p)) (sym f) ∙ ap (λ b. fence && not b) (sym walked.flushed) ∙ sym i);
    overwriting = overwriting_is ∙ count_more (is_overwriting es) p old.overwriting overwritten walked.overwriting (overwriting_here ∙ sym o);
    empty = empty_is ∙ count_more (is_unmet es) p old.empty unmet walked.empty u;
  }
