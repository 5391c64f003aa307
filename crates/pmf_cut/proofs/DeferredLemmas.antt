-- A part catches up with the events that wait.
use Rattle.std.proofs.{Common.{◌≡◌, ℕ, suc, ◌+◌, ◌<◌, List, [], ◌∷◌, ◌++◌, length, slice_get, Some, refl, sym, ◌∙◌, ap, subst, arith, inl, inr}, lemmas.Bool.{cases_lt}, lemmas.List.{length_push}}
use Rattle.pmf_event.specs.{declared.event.Event.{Event}, Store.{event_at}}
use Rattle.pmf_shadow.proofs.SameLemmas.{slice_get-front}
use Rattle.pmf_cut.specs.{declared.deferred.Deferred.{Deferred}, declared.part.Part.{Part}, Parts.{IsPartOf, GoesOnWith, BeginsAt}, Deferred.{Begins, GoesOnUpTo, CatchesUp, TakesFirst, BeginsBehind}}

pub last-is : {X : Type 0} (xs : List X) (e : X) → slice_get (xs ++ e ∷ []) (length xs) ≡ Some e
last-is [] e = refl
last-is (x ∷ xs) e = last-is xs e

-- a part for which nothing waits
pub begins : (part : Part) (new : Deferred) → new.part ≡ part → new.waiting.items ≡ [] → Begins part new
begins part new same none es p head n is = grind arith

-- one event more waits
pub waits_more : (old new : Deferred) (e : Event) → new.part ≡ old.part → new.waiting.items ≡ old.waiting.items ++ e ∷ [] → GoesOnUpTo old new e
waits_more old new e same more es p head n here is =
    let count : length new.waiting.items ≡ length old.waiting.items + 1 = ap length more ∙ length_push old.waiting.items e in
    let all = is.all in record {
      had = is.had;
      all = omega (arith, count);
      part = subst (λ (q : Part). IsPartOf q es p head is.had) (sym same) is.part;
      next = λ k below. elim (cases_lt k (length old.waiting.items)) [
        | inl early ↦ is.next k early ∙ sym (ap (λ events. slice_get events k) more ∙ slice_get-front old.waiting.items (e ∷ []) k early)
        | inr late ↦
            let last : k ≡ length old.waiting.items = omega (arith, count, below) in
            let at : suc (is.had + k) ≡ suc n = omega arith in
            ap (event_at es) at ∙ here ∙ sym (ap (λ events. slice_get events k) more ∙ ap (slice_get (old.waiting.items ++ e ∷ [])) last ∙ last-is old.waiting.items e)
      ];
    }

-- all that waited were taken
pub caught_up : (old new : Deferred) → TakesFirst old.part new.part old.waiting.items (length old.waiting.items) → new.waiting.items ≡ [] → CatchesUp old new
caught_up old new takes none = grind arith

-- what begins behind a part that has caught up
pub begins_behind : (deferred : Deferred) (part : Part) (head : List Event) → deferred.waiting.items ≡ [] → BeginsAt deferred.part part head → BeginsBehind deferred part head
begins_behind deferred part head none begins es p before n is = search arith

pub goes-on-next : (old mid new : Part) (events : List Event) (i : ℕ) (e : Event) → i < length events → slice_get events i ≡ Some e → TakesFirst old mid events i → GoesOnWith mid new e → TakesFirst old new events (i + 1)
goes-on-next old mid new events i e within at takes on es p head n next is =
    let after : suc (n + i) ≡ n + (i + 1) = omega arith in
    subst (IsPartOf new es p head) after (on es p head (n + i) (next i within ∙ at) (takes es p head n next is))
