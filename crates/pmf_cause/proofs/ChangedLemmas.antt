-- A section with changes whose places rise: what is done place by place.
use Rattle.std.proofs.{Common.{◌≡◌, ℕ, suc, ◌+◌, ◌<◌, ◌≤◌, Bool, true, false, ◌||◌, if◌then◌else◌, List, [], ◌∷◌, ◌++◌, length, drop, map, refl, sym, ap, subst, ◌∙◌, append_assoc, append-nil, arith}, lemmas.Grind.{common_steps}}
use Rattle.std.specs.List.{list_any}
use Rattle.pmf_event.specs.declared.{event.Event.{Event}, name.Name.{Name}}
use Rattle.pmf_cause.specs.{declared.edit.{Edit.{Edit}, Edit.TheVariants.{Put, LeaveOut}}, Changed.{changed, changed_from, kept_at, leaves_out, no_places, old_places, place_of, places_from, put_at, put_by, RisesFrom}, Changing.{Grows, Puts}, declared.changing.Changed.{Changed}}

put_by-other : (x : Edit) (k : ℕ) → k < place_of x → put_by k x ≡ []
unfolding put_by
put_by-other (Put before event) k less = grind (arith, common_steps)
put_by-other (LeaveOut place) k less = refl

leaves-other : (x : Edit) (k : ℕ) → k < place_of x → leaves_out k x ≡ false
unfolding leaves_out
leaves-other (Put before event) k less = refl
leaves-other (LeaveOut place) k less = grind (arith, common_steps)

put_at-cons : (x : Edit) (xs : List Edit) (k : ℕ) → put_at (x ∷ xs) k ≡ put_by k x ++ put_at xs k
unfolding put_at
put_at-cons x xs k = refl

pub put_at-none : (xs : List Edit) (m k : ℕ) → RisesFrom m xs → k < m → put_at xs k ≡ []
unfolding put_at RisesFrom
put_at-none [] m k rises less = refl
put_at-none (x ∷ xs) m k rises less =
    let past : k < place_of x = let at = rises.0 in omega (arith, at, less) in
    let rest = put_at-none xs (place_of x) k rises.1 past in
    let here = put_by-other x k past in grind (arith, common_steps)

pub left-none : (xs : List Edit) (m k : ℕ) → RisesFrom m xs → k < m → list_any (leaves_out k) xs ≡ false
unfolding RisesFrom
left-none [] m k rises less = refl
left-none (x ∷ xs) m k rises less =
    let past : k < place_of x = let at = rises.0 in omega (arith, at, less) in
    let rest = left-none xs (place_of x) k rises.1 past in
    let here = leaves-other x k past in grind (arith, common_steps)

-- changes that begin behind a place do so from the next one on
pub rises_behind : (x : Edit) (xs : List Edit) (k : ℕ) → (place_of x ≡ k → ⊥) → RisesFrom k (x ∷ xs) → RisesFrom (suc k) (x ∷ xs)
unfolding RisesFrom
rises_behind x xs k other rises = (let at = rises.0 in omega (arith, at, other), rises.1)

pub rises_none : (xs : List Edit) (k m : ℕ) → length xs ≡ 0 → RisesFrom k xs → RisesFrom m xs
unfolding RisesFrom
rises_none [] k m none rises = rises
rises_none (x ∷ xs) k m none rises = absurd (omega arith)

-- ---- the changes of one place

-- so far so many of the changes are made
pub record Putting (place : ℕ) (old new : Changed) (edits rest : List Edit) (left_out : Bool) : Type 0 where
  pub name : new.section.name ≡ old.section.name
  pub events : new.section.events ++ put_at rest place ≡ old.section.events ++ put_at edits place
  pub places : new.places.items ++ no_places rest place ≡ old.places.items ++ no_places edits place
  pub left : (left_out || list_any (leaves_out place) rest) ≡ list_any (leaves_out place) edits
  pub rises : RisesFrom place rest
  pub put : (k : ℕ) → place < k → put_at edits k ≡ put_at rest k
  pub leaves : (k : ℕ) → place < k → list_any (leaves_out k) edits ≡ list_any (leaves_out k) rest

pub putting_begun : (place : ℕ) (old : Changed) (edits : List Edit) → RisesFrom place edits → Putting place old old edits edits false
putting_begun place old edits rises = record { name = refl; events = refl; places = refl; left = refl; rises = rises; put = λ k past. refl; leaves = λ k past. refl }

put_by-here : (k : ℕ) (e : Event) → put_by k (Put k e) ≡ e ∷ []
unfolding put_by
put_by-here k e = grind (arith, common_steps)

left-here : (k : ℕ) → leaves_out k (LeaveOut k) ≡ true
unfolding leaves_out
left-here k = grind (arith, common_steps)

put_at-here : (k : ℕ) (e : Event) (rest more : List Edit) → rest ≡ Put k e ∷ more → put_at rest k ≡ e ∷ put_at more k
put_at-here k e rest more is = ap (λ r. put_at r k) is ∙ put_at-cons (Put k e) more k ∙ ap (λ here. here ++ put_at more k) (put_by-here k e)

put_at-behind : (x : Edit) (rest more : List Edit) (k : ℕ) → rest ≡ x ∷ more → place_of x < k → put_at rest k ≡ put_at more k
unfolding put_by
put_at-behind (Put before event) rest more k is less = let put = ap (λ r. put_at r k) is ∙ put_at-cons (Put before event) more k in grind (arith, common_steps)
put_at-behind (LeaveOut place) rest more k is less = ap (λ r. put_at r k) is ∙ put_at-cons (LeaveOut place) more k

leaves-behind : (x : Edit) (rest more : List Edit) (k : ℕ) → rest ≡ x ∷ more → place_of x < k → list_any (leaves_out k) rest ≡ list_any (leaves_out k) more
unfolding leaves_out
leaves-behind (Put before event) rest more k is less = grind (arith, common_steps)
leaves-behind (LeaveOut place) rest more k is less = grind (arith, common_steps)

leaves-put : (k : ℕ) (e : Event) (rest more : List Edit) → rest ≡ Put k e ∷ more → list_any (leaves_out k) rest ≡ list_any (leaves_out k) more
unfolding leaves_out
leaves-put k e rest more is = grind (arith, common_steps)

rises-on : (x : Edit) (rest more : List Edit) (k : ℕ) → rest ≡ x ∷ more → place_of x ≡ k → RisesFrom k rest → RisesFrom k more
unfolding RisesFrom
rises-on x rest more k is at rises = subst (λ p. RisesFrom p more) at (subst (RisesFrom k) is rises).1

pub putting_put : (place : ℕ) (old new newer : Changed) (edits rest more : List Edit) (left_out : Bool) (x : Edit) (before : ℕ) (e : Event) → Putting place old new edits rest left_out →
    rest ≡ x ∷ more → x ≡ Put before e → place_of x ≡ place → Grows new newer (e ∷ []) (0 ∷ []) → Putting place old newer edits more left_out
putting_put place old new newer edits rest more left_out x before e so first put at grows =
    let is : rest ≡ Put place e ∷ more = first ∙ ap (λ y. y ∷ more) (put ∙ ap (λ b. Put b e) (sym (ap place_of put) ∙ at)) in let here = put_at-here place e rest more is in record {
      name = grows.name ∙ so.name;
      events = ap (λ es. es ++ put_at more place) grows.events ∙ append_assoc new.section.events (e ∷ []) (put_at more place) ∙ ap (λ put. new.section.events ++ put) (sym here) ∙ so.events;
      places = ap (λ ps. ps ++ no_places more place) grows.places ∙ append_assoc new.places.items (0 ∷ []) (no_places more place) ∙ ap (λ put. new.places.items ++ map (λ e. 0) put) (sym here) ∙ so.places;
      left = ap (λ any. left_out || any) (sym (leaves-put place e rest more is)) ∙ so.left;
      rises = rises-on (Put place e) rest more place is refl so.rises;
      put = λ k past. so.put k past ∙ put_at-behind (Put place e) rest more k is past;
      leaves = λ k past. so.leaves k past ∙ leaves-behind (Put place e) rest more k is past;
    }

put_at-left : (k : ℕ) (rest more : List Edit) → rest ≡ LeaveOut k ∷ more → put_at rest k ≡ put_at more k
unfolding put_by
put_at-left k rest more is = ap (λ r. put_at r k) is ∙ put_at-cons (LeaveOut k) more k

pub putting_left : (place : ℕ) (old new : Changed) (edits rest more : List Edit) (left_out : Bool) (x : Edit) (at_place : ℕ) → Putting place old new edits rest left_out →
    rest ≡ x ∷ more → x ≡ LeaveOut at_place → place_of x ≡ place → Putting place old new edits more true
putting_left place old new edits rest more left_out x at_place so first left at =
    let is : rest ≡ LeaveOut place ∷ more = first ∙ ap (λ y. y ∷ more) (left ∙ ap LeaveOut (sym (ap place_of left) ∙ at)) in let here = put_at-left place rest more is in let out = left-here place in record {
      name = so.name;
      events = ap (λ put. new.section.events ++ put) (sym here) ∙ so.events;
      places = ap (λ put. new.places.items ++ map (λ e. 0) put) (sym here) ∙ so.places;
      left = let all = so.left in grind (arith, common_steps);
      rises = rises-on (LeaveOut place) rest more place is refl so.rises;
      put = λ k past. so.put k past ∙ put_at-behind (LeaveOut place) rest more k is past;
      leaves = λ k past. so.leaves k past ∙ leaves-behind (LeaveOut place) rest more k is past;
    }

pub putting_done : (place : ℕ) (old new : Changed) (edits rest : List Edit) (left_out : Bool) → Putting place old new edits rest left_out →
    (RisesFrom place rest → RisesFrom (suc place) rest) → Puts place old new edits rest left_out
putting_done place old new edits rest left_out so behind =
    let rises = behind so.rises in let none = put_at-none rest (suc place) place rises (omega arith) in record {
      grows = record {
        name = so.name;
        events = sym (append-nil new.section.events) ∙ ap (λ put. new.section.events ++ put) (sym none) ∙ so.events;
        places = sym (append-nil new.places.items) ∙ ap (λ put. new.places.items ++ map (λ e. 0) put) (sym none) ∙ so.places;
      };
      left = let all = so.left in let no = left-none rest (suc place) place rises (omega arith) in grind (arith, common_steps);
      rises = rises;
      put = so.put;
      leaves = so.leaves;
    }

-- ---- the whole section

changed-same : (es : List Event) (k : ℕ) (edits rest : List Edit) → ((j : ℕ) → k ≤ j → put_at edits j ≡ put_at rest j) →
    ((j : ℕ) → k ≤ j → list_any (leaves_out j) edits ≡ list_any (leaves_out j) rest) → changed_from edits k es ≡ changed_from rest k es
unfolding changed_from kept_at
changed-same [] k edits rest put leaves = put k (omega arith)
changed-same (e ∷ es) k edits rest put leaves =
    let here = put k (omega arith) in let out = leaves k (omega arith) in
    let more = changed-same es (suc k) edits rest (λ j past. put j (omega (arith, past))) (λ j past. leaves j (omega (arith, past))) in grind (arith, common_steps)

places-same : (es : List Event) (k : ℕ) (edits rest : List Edit) → ((j : ℕ) → k ≤ j → put_at edits j ≡ put_at rest j) →
    ((j : ℕ) → k ≤ j → list_any (leaves_out j) edits ≡ list_any (leaves_out j) rest) → places_from edits k es ≡ places_from rest k es
unfolding places_from kept_at
places-same [] k edits rest put leaves = ap (λ p. map (λ e. 0) p ++ k ∷ []) (put k (omega arith))
places-same (e ∷ es) k edits rest put leaves =
    let here = put k (omega arith) in let out = leaves k (omega arith) in
    let more = places-same es (suc k) edits rest (λ j past. put j (omega (arith, past))) (λ j past. leaves j (omega (arith, past))) in grind (arith, common_steps)

-- a section is changed up to a place: what is left to do is what the changes behind it say of the events from there on
pub record Changing (edits : List Edit) (name : Name) (es : List Event) (made : Changed) (rest : List Edit) (k : ℕ) (todo : List Event) : Type 0 where
  pub named : made.section.name ≡ name
  pub events : made.section.events ++ changed_from rest k todo ≡ changed edits es
  pub places : made.places.items ++ places_from rest k todo ≡ old_places edits es
  pub rises : RisesFrom k rest

pub changing_begun : (edits : List Edit) (name : Name) (es : List Event) (made : Changed) → made.section ≡ record { name = name; events = [] } → made.places.items ≡ [] →
    RisesFrom 1 edits → Changing edits name es made edits 1 es
changing_begun edits name es made section places rises = record {
  named = ap (λ s. s.name) section;
  events = ap (λ s. s.events ++ changed edits es) section;
  places = ap (λ ps. ps ++ old_places edits es) places;
  rises = rises;
}

changed-cons : (rest : List Edit) (k : ℕ) (e : Event) (es : List Event) → changed_from rest k (e ∷ es) ≡ put_at rest k ++ (if list_any (leaves_out k) rest then [] else e ∷ []) ++ changed_from rest (suc k) es
unfolding changed_from kept_at
changed-cons rest k e es = refl

places-cons : (rest : List Edit) (k : ℕ) (e : Event) (es : List Event) → places_from rest k (e ∷ es) ≡ no_places rest k ++ (if list_any (leaves_out k) rest then [] else k ∷ []) ++ places_from rest (suc k) es
unfolding places_from kept_at
places-cons rest k e es = refl

pub changing_left : (edits : List Edit) (name : Name) (es todo : List Event) (old new : Changed) (rest more : List Edit) (k : ℕ) (e : Event) (left_out : Bool) →
    Changing edits name es old rest k (e ∷ todo) → Puts k old new rest more left_out → left_out ≡ true → Changing edits name es new more (suc k) todo
changing_left edits name es todo old new rest more k e left_out so puts left =
    let out = sym puts.left ∙ left in
    let same = changed-same todo (suc k) rest more (λ j past. puts.put j (omega (arith, past))) (λ j past. puts.leaves j (omega (arith, past))) in
    let alike = places-same todo (suc k) rest more (λ j past. puts.put j (omega (arith, past))) (λ j past. puts.leaves j (omega (arith, past))) in
    let cons = changed-cons rest k e todo in let conses = places-cons rest k e todo in
    let events = so.events in let places = so.places in let grown = puts.grows.events in let longer = puts.grows.places in record {
      named = puts.grows.name ∙ so.named;
      events = grind (arith, common_steps, append_assoc);
      places = grind (arith, common_steps, append_assoc);
      rises = puts.rises;
    }

pub changing_kept : (edits : List Edit) (name : Name) (es todo : List Event) (old new newer : Changed) (rest more : List Edit) (k : ℕ) (e : Event) (left_out : Bool) →
    Changing edits name es old rest k (e ∷ todo) → Puts k old new rest more left_out → left_out ≡ false → Grows new newer (e ∷ []) (k ∷ []) → Changing edits name es newer more (suc k) todo
changing_kept edits name es todo old new newer rest more k e left_out so puts left grows =
    let out = sym puts.left ∙ left in
    let same = changed-same todo (suc k) rest more (λ j past. puts.put j (omega (arith, past))) (λ j past. puts.leaves j (omega (arith, past))) in
    let alike = places-same todo (suc k) rest more (λ j past. puts.put j (omega (arith, past))) (λ j past. puts.leaves j (omega (arith, past))) in
    let cons = changed-cons rest k e todo in let conses = places-cons rest k e todo in
    let events = so.events in let places = so.places in let grown = puts.grows.events in let longer = puts.grows.places in
    let kept = grows.events in let its = grows.places in record {
      named = grows.name ∙ puts.grows.name ∙ so.named;
      events = grind (arith, common_steps, append_assoc);
      places = grind (arith, common_steps, append_assoc);
      rises = puts.rises;
    }

-- the same in a walk over all events
pub walked_left : (edits : List Edit) (name : Name) (es : List Event) (old new : Changed) (rest more : List Edit) (i k : ℕ) (e : Event) (left_out : Bool) → drop i es ≡ e ∷ drop (i + 1) es →
    Changing edits name es old rest k (drop i es) → Puts k old new rest more left_out → left_out ≡ true → Changing edits name es new more (k + 1) (drop (i + 1) es)
walked_left edits name es old new rest more i k e left_out step so puts left =
    subst (λ j. Changing edits name es new more j (drop (i + 1) es)) (omega arith)
    (changing_left edits name es (drop (i + 1) es) old new rest more k e left_out (subst (Changing edits name es old rest k) step so) puts left)

pub walked_kept : (edits : List Edit) (name : Name) (es : List Event) (old new newer : Changed) (rest more : List Edit) (i k : ℕ) (e : Event) (left_out : Bool) → drop i es ≡ e ∷ drop (i + 1) es →
    Changing edits name es old rest k (drop i es) → Puts k old new rest more left_out → left_out ≡ false → Grows new newer (e ∷ []) (k ∷ []) → Changing edits name es newer more (k + 1) (drop (i + 1) es)
walked_kept edits name es old new newer rest more i k e left_out step so puts left grows =
    subst (λ j. Changing edits name es newer more j (drop (i + 1) es)) (omega arith)
    (changing_kept edits name es (drop (i + 1) es) old new newer rest more k e left_out (subst (Changing edits name es old rest k) step so) puts left grows)

pub changing_done : (edits : List Edit) (name : Name) (es : List Event) (old new : Changed) (rest more : List Edit) (k : ℕ) (left_out : Bool) → Changing edits name es old rest k [] → Puts k old new rest more left_out →
    (new.section ≡ record { name = name; events = changed edits es }) × (new.places.items ++ k ∷ [] ≡ old_places edits es)
unfolding changed_from places_from
changing_done edits name es old new rest more k left_out so puts =
    let events = so.events in let places = so.places in let grown = puts.grows.events in let longer = puts.grows.places in
    (ap (λ n. record { name = n; events = new.section.events }) (puts.grows.name ∙ so.named) ∙ ap (λ es. record { name = name; events = es }) (grown ∙ events), grind (arith, common_steps, append_assoc))
