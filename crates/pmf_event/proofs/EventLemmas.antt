-- Laws of tests at a place of a list of events.
use Rattle.std.proofs.{Common.{◌≡◌, ℕ, suc, Bool, true, false, List, if◌then◌else◌, refl, ◌∙◌, ap, Option, Some, None}, Math.Numerals.{sub-one}}
use Rattle.pmf_event.{specs.declared.event.Event.{Event}, specs.declared.event.Event.TheVariants.{Fence}, specs.Places.{greatest, count}, specs.Store.{event_at, passes, at, stores, flushes, is_fence, last, epoch_of}, proofs.PlacesLemmas.{greatest-step, greatest-zero, count-step}}

-- what a test says at a place whose event is known
pub at-is : (test : Event → Bool) (es : List Event) (k : ℕ) (o : Option Event) → event_at es k ≡ o → at test es k ≡ passes test o
unfolding at
at-is test es k o here = ap (passes test) here

pub last-step : (test : Event → Bool) (es : List Event) (p : ℕ) (e : Event) → event_at es (suc p) ≡ Some e →
    last test es (suc p) ≡ (if test e then suc p else last test es p)
unfolding last
last-step test es p e here = greatest-step (at test es) p ∙ ap (λ v. if v then suc p else greatest (at test es) p) (at-is test es (suc p) (Some e) here)

pub last-none : (test : Event → Bool) (es : List Event) → last test es 0 ≡ 0
unfolding last
last-none test es = greatest-zero (at test es)

pub last-other : (test : Event → Bool) (es : List Event) (p : ℕ) (e : Event) → event_at es (suc p) ≡ Some e → test e ≡ false →
    last test es (suc p) ≡ last test es p
last-other test es p e here other = last-step test es p e here ∙ ap (λ v. if v then suc p else last test es p) other

pub last-here : (test : Event → Bool) (es : List Event) (p : ℕ) (e : Event) → event_at es (suc p) ≡ Some e → test e ≡ true →
    last test es (suc p) ≡ suc p
last-here test es p e here is = last-step test es p e here ∙ ap (λ v. if v then suc p else last test es p) is

-- the epoch of the next place is the number of fences so far
pub epoch_of-next : (es : List Event) (p : ℕ) → epoch_of es (suc p) ≡ count (at is_fence es) p
unfolding epoch_of
epoch_of-next es p = rw sub-one refl

-- the number of fences after one more event
pub fences-step : (es : List Event) (p : ℕ) (e : Event) → event_at es (suc p) ≡ Some e →
    count (at is_fence es) (suc p) ≡ (if is_fence e then suc (count (at is_fence es) p) else count (at is_fence es) p)
fences-step es p e here = count-step (at is_fence es) p ∙ ap (λ v. if v then suc (count (at is_fence es) p) else count (at is_fence es) p) (at-is is_fence es (suc p) (Some e) here)

-- no event is both a fence and a write-back
fence_or_flush : (l : ℕ) (e : Event) → is_fence e ≡ true → flushes l e ≡ true → ⊥
unfolding is_fence flushes
fence_or_flush l Fence fence flush = let bad : false ≡ true = flush in cc
fence_or_flush l _ fence flush = let bad : false ≡ true = fence in cc

-- no event is both a fence and a store
fence_or_store : (b : ℕ) (e : Event) → is_fence e ≡ true → stores b e ≡ true → ⊥
unfolding is_fence stores
fence_or_store b Fence fence store = let bad : false ≡ true = store in cc
fence_or_store b _ fence store = let bad : false ≡ true = fence in cc

passes_both : (s t : Event → Bool) (o : Option Event) → ((e : Event) → s e ≡ true → t e ≡ true → ⊥) → passes s o ≡ true → passes t o ≡ true → ⊥
passes_both s t None never one other = let bad : false ≡ true = one in cc
passes_both s t (Some e) never one other = never e one other

pub not_fence_and_flush : (es : List Event) (l k : ℕ) → at is_fence es k ≡ true → at (flushes l) es k ≡ true → ⊥
unfolding at
not_fence_and_flush es l k fence flush = passes_both is_fence (flushes l) (event_at es k) (fence_or_flush l) fence flush

pub not_fence_and_store : (es : List Event) (b k : ℕ) → at is_fence es k ≡ true → at (stores b) es k ≡ true → ⊥
unfolding at
not_fence_and_store es b k fence store = passes_both is_fence (stores b) (event_at es k) (fence_or_store b) fence store
