-- The events of a section before and behind the record that gave one.
use Rattle.std.proofs.{Common.{◌≡◌, ℕ, ◌+◌, ◌-◌, ◌<◌, List, [], ◌∷◌, ◌++◌, Some, length, length-append, take, drop, get_or, sym, ap, ◌∙◌, arith, append_assoc, slice_get, eq-eqb, append-nil, take-append-drop, length-take-le}, lemmas.List.{take_more, take-take}, lemmas.Grind.{common_steps}}
use Rattle.pmf_event.specs.declared.event.Event.{Event}
use Rattle.pmf_storelog.{specs.Records.{record_of}, specs.LogText.{current_at, current_of, events_in, numbered, reading_at}, proofs.LogLemmas.{current_at-append, events_in-push, in_section}}
use Rattle.pmf_query.{specs.Locating.{Gives}, proofs.LocationLemmas.{slice_get-at}}

-- more records only add events behind
pub events_in-more : (xs ys : List (List ℕ)) (number : ℕ) → (more : List Event) × (events_in (xs ++ ys) number ≡ events_in xs number ++ more)
events_in-more xs [] number = ([], ap (λ (zs : List (List ℕ)). events_in zs number) (append-nil xs) ∙ sym (append-nil (events_in xs number)))
events_in-more xs (y ∷ ys) number = grind (arith, common_steps, in_section, append_assoc, events_in-push, events_in-more (xs ++ y ∷ []) ys number)

module _ (records : List (List ℕ)) (section place : ℕ) (event : Event) (k : ℕ) (gives : Gives records section place event k) where
  current_before : current_of (take k records) ≡ current_at records k
  unfolding current_of
  current_before =
      let within = gives.within in
      let long : length (take k records) ≡ k = length-take-le k records (omega arith) in
      ap (current_at (take k records)) long ∙ sym (current_at-append (take k records) (drop k records) k (omega arith))
      ∙ ap (λ (all : List (List ℕ)). current_at all k) (take-append-drop k records)

  says_there : numbered (current_of (take k records)) (record_of (get_or records k [])) ≡ (section, event) ∷ []
  unfolding reading_at
  says_there = ap (λ current. numbered current (record_of (get_or records k []))) current_before ∙ gives.says

  -- the event stands behind those before it
  pub events_through : events_in (take (k + 1) records) section ≡ events_in (take k records) section ++ event ∷ []
  events_through = grind (arith, common_steps, take_more, events_in-push, in_section, says_there, eq-eqb)

  pub its_event : slice_get (events_in records section) (place - 1) ≡ Some event
  its_event =
      let rest = events_in-more (take (k + 1) records) (drop (k + 1) records) section in
      let behind : place - 1 ≡ length (events_in (take k records) section) = omega (arith, gives.behind) in
      let all : events_in records section ≡ events_in (take k records) section ++ event ∷ rest.0 =
      ap (λ (all : List (List ℕ)). events_in all section) (sym (take-append-drop (k + 1) records)) ∙ rest.1
      ∙ ap (λ (es : List Event). es ++ rest.0) events_through ∙ append_assoc (events_in (take k records) section) (event ∷ []) rest.0 in
      ap (slice_get (events_in records section)) behind
      ∙ ap (λ (es : List Event). slice_get es (length (events_in (take k records) section))) all
      ∙ slice_get-at (events_in (take k records) section) event rest.0

  -- no record behind it gives the same one
  pub none_behind : (other : Event) (n : ℕ) → Gives records section place other n → k < n → ⊥
  none_behind other n later after =
      let rest = events_in-more (take (k + 1) (take n records)) (drop (k + 1) (take n records)) section in
      let all : events_in (take n records) section ≡ events_in (take (k + 1) records) section ++ rest.0 =
      ap (λ (all : List (List ℕ)). events_in all section) (sym (take-append-drop (k + 1) (take n records))) ∙ rest.1
      ∙ ap (λ (front : List (List ℕ)). events_in front section ++ rest.0) (take-take (k + 1) n records (omega arith)) in
      omega (arith, ap length all, length-append (events_in (take (k + 1) records) section) rest.0, ap length events_through, length-append (events_in (take k records) section) (event ∷ []), gives.behind, later.behind)

pub one_record : (records : List (List ℕ)) (section place : ℕ) (event other : Event) (j k : ℕ) → Gives records section place event j → Gives records section place other k → j ≡ k
one_record records section place event other j k first second = grind (arith, common_steps, none_behind)
