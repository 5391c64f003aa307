-- The open sections with one more event, and with another current one.
use Rattle.std.{proofs.Common.{◌≡◌, ◌≢◌, ℕ, suc, ◌+◌, ◌<◌, ◌≤◌, Bool, false, cond, map, List, [], ◌∷◌, ◌++◌, Option, Some, None, MatchOption, length, set, get_or, length-append, Result, Ok, Err, OnOk, IfOk, IfErr, refl, sym, ap, ◌∙◌, arith, ⊎_elim, nat_cmp, Ordering, eq-eqb, ne_eqb, append_assoc, append-nil, get_or-set_same, get_or-set_other, length-set}, specs.Cmp.{nat_cmp_total}, proofs.lemmas.Bool.{cases_eq}, proofs.lemmas.List.{length-map, get_or_append_left, get_or_push, length_push}, specs.declared.cmp.Ordering.TheVariants.{Less, Equal, Greater}, specs.Map.{lookup, keys_of}, specs.BTreeMap.{get, is_at, insert_entry}, specs.BTreeSet.{insert_key}, specs.List.Sorted.{IsStrictlySortedBy}, proofs.lemmas.Map.{lookup-none}, proofs.lemmas.Map.Entries.{none_below_head}, proofs.lemmas.Map.Views.{All-found}, proofs.lemmas.Map.Keys.{sorted_tail}, proofs.lemmas.Grind.{common_steps}}
use Rattle.pmf_event.specs.{declared.event.Event.{Event}, Section.{Trace}}
use Rattle.pmf_storelog.specs.{declared.fault.Cause.{Cause}, declared.fault.Cause.TheVariants.{OutOfMemory, TooManySections}, declared.fault.TheConstants.{SECTION_LIMIT}, declared.sections.OpenSections.{OpenSections}, LogText.{section_named}, Rising.{with_number}, Sections.{HasSections, Opens, StandsAt, current_place, with_events}}

-- the same said of equal numbers and events
pub sections_as : (run : ℕ) (numbers numbers' : List ℕ) (events events' : ℕ → List Event) (current current' : ℕ) (opened : OpenSections) →
    numbers ≡ numbers' → ((number : ℕ) → events' number ≡ events number) → current ≡ current' →
    HasSections run numbers events current opened → HasSections run numbers' events' current' opened
sections_as run numbers numbers' events events' current current' opened same_numbers same_events same_current has = grind (arith, common_steps)

some_is_none : {X : Type 0} {x : X} → None ≡ Some x → ⊥
some_is_none same = cc

-- a number that is there already changes nothing
present : (number : ℕ) (entries : List (ℕ × ℕ)) (place : ℕ) → IsStrictlySortedBy nat_cmp (keys_of entries) → lookup (is_at (nat_cmp number)) entries ≡ Some place →
    insert_key nat_cmp (keys_of entries) number ≡ keys_of entries
present number [] place sorted is = absurd (some_is_none is)
present number (e ∷ entries) place sorted is = by_order (present number entries place (sorted_tail nat_cmp e.0 (keys_of entries) sorted)) (nat_cmp number e.0) refl
  where
    by_order : (lookup (is_at (nat_cmp number)) entries ≡ Some place → insert_key nat_cmp (keys_of entries) number ≡ keys_of entries) →
        (o : Ordering) → nat_cmp number e.0 ≡ o → insert_key nat_cmp (keys_of (e ∷ entries)) number ≡ keys_of (e ∷ entries)
    by_order later Less order = absurd (some_is_none (sym (lookup-none (is_at (nat_cmp number)) (e ∷ entries) (none_below_head nat_cmp_total number e entries sorted order)) ∙ is))
    by_order later Equal order = rw order refl
    by_order later Greater order = rw order (ap (λ rest. e.0 ∷ rest) (later (rw order at is)))

-- and one that isn't there makes them one more
absent : (number : ℕ) (entries : List (ℕ × ℕ)) → lookup (is_at (nat_cmp number)) entries ≡ None → length (insert_key nat_cmp (keys_of entries) number) ≡ suc (length (keys_of entries))
absent number [] is = refl
absent number (e ∷ entries) is = grind (arith, common_steps, absent number entries)

keys-insert : (number place : ℕ) (entries : List (ℕ × ℕ)) → keys_of (insert_entry nat_cmp entries number place) ≡ insert_key nat_cmp (keys_of entries) number
keys-insert number place [] = refl
keys-insert number place (e ∷ entries) = grind (arith, common_steps, keys-insert number place entries)

apart_at : (k n : ℕ) → k ≢ n → is_at (nat_cmp k) n ≡ false
apart_at k n apart = grind (arith, common_steps, ne_eqb)

-- a section stays where it stands, whatever is added after it
stays : (section : Trace) (list more : List Trace) (place : ℕ) → StandsAt section list place → StandsAt section (list ++ more) place
stays section list more place stands = grind (arith, common_steps, length-append, get_or_append_left)

abbrev pub blank : Trace
blank = section_named 0 0 []

pub one_longer : (list new : List Trace) (section : Trace) → new ≡ list ++ section ∷ [] → length new ≡ length list + 1
one_longer list new section is = ap length is ∙ length_push list section

-- a place that an insertion leaves or puts is inside the list
pub inside_either : (here : Bool) (put place bound : ℕ) (before : Option ℕ) → cond here (Some put) before ≡ Some place → put < bound → (before ≡ Some place → place < bound) → place < bound
inside_either here put place bound before is inside kept = grind (arith, common_steps)

-- the current place, where there is a section
here_is : (opened : OpenSections) → length opened.sections.items ≢ 0 → current_place opened ≡ Some opened.current
here_is opened some = rw (ne_eqb _ 0 some) refl

here_none : (opened : OpenSections) → length opened.sections.items ≡ 0 → current_place opened ≡ None
here_none opened none = rw none refl

module _ (run : ℕ) (numbers : List ℕ) (events : ℕ → List Event) (current : ℕ) (old : OpenSections) (has : HasSections run numbers events current old) where
  -- the numbers with one that is there
  pub same_numbers : (number place : ℕ) → get nat_cmp old.places number ≡ Some place → with_number numbers number ≡ numbers
  same_numbers number place is = ap (λ ns. insert_key nat_cmp ns number) (sym has.numbers_are) ∙ present number old.places.entries place has.ordered is ∙ has.numbers_are

  -- and those with one that isn't
  pub longer : (number : ℕ) → get nat_cmp old.places number ≡ None → length (with_number numbers number) ≡ suc (length numbers)
  longer number none = ap (λ ns. length (insert_key nat_cmp ns number)) (sym has.numbers_are) ∙ absent number old.places.entries none ∙ ap (λ ns. suc (length ns)) has.numbers_are

  -- a section that begins is current, and has no events
  pub begun : (number : ℕ) (new : OpenSections) → get nat_cmp old.places number ≡ None → Opens number old new → HasSections run (with_number numbers number) events number new
  begun number new none opens = record {
    run_is = opens.run_is ∙ has.run_is;
    ordered = opens.ordered;
    numbers_are = ap keys_of opens.entries ∙ keys-insert number (length old.sections.items) old.places.entries ∙ ap (λ ns. insert_key nat_cmp ns number) has.numbers_are;
    count = omega (arith, ap length opens.list, length_push old.sections.items (section_named old.run number []), has.count, longer number none);
    found = found;
    others = others;
    here = opens.updates.1 ∙ ap (λ place. Some place) (sym opens.here) ∙ sym (here_is new some);
    before = λ empty. absurd (some empty);
  }
    where
      some : length new.sections.items ≢ 0
      some empty = omega (arith, empty, ap length opens.list, length_push old.sections.items (section_named old.run number []))

      same : section_named old.run number [] ≡ section_named run number (events number)
      same = rw (has.run_is, has.others number none) refl

      at_end : StandsAt (section_named run number (events number)) new.sections.items (length old.sections.items)
      at_end = rw opens.list (omega (arith, length_push old.sections.items (section_named old.run number [])), λ d. get_or_push old.sections.items (section_named old.run number []) d (length old.sections.items) refl ∙ same)

      found : (n place : ℕ) → get nat_cmp new.places n ≡ Some place → StandsAt (section_named run n (events n)) new.sections.items place
      found n place is = ⊎_elim
          (λ equal.
          let at_number : get nat_cmp new.places number ≡ Some place = ap (get nat_cmp new.places) equal ∙ is in
          let places : Some (length old.sections.items) ≡ Some place = sym opens.updates.1 ∙ at_number in let there : length old.sections.items ≡ place = cc in rw (← equal, ← there) at_end)
          (λ apart. rw opens.list (stays _ old.sections.items _ place (has.found n place (sym (opens.updates.2 n (apart_at number n apart)) ∙ is))))
          (cases_eq number n)

      others : (n : ℕ) → get nat_cmp new.places n ≡ None → events n ≡ []
      others n is = ⊎_elim
          (λ equal. ap events (sym equal) ∙ has.others number none)
          (λ apart. has.others n (sym (opens.updates.2 n (apart_at number n apart)) ∙ is))
          (cases_eq number n)

  -- a section that comes again is current
  pub again : (number place : ℕ) (new : OpenSections) → get nat_cmp old.places number ≡ Some place → new.run ≡ old.run → new.places ≡ old.places → new.sections ≡ old.sections → new.current ≡ place →
      HasSections run (with_number numbers number) events number new
  again number place new is same_run same_places same_sections there = grind (arith, common_steps, same_numbers, here_is)

  -- before the first section nothing is there, and 0 is current
  pub none_yet : length old.sections.items ≡ 0 → get nat_cmp old.places 0 ≡ None
  none_yet empty = ap (get nat_cmp old.places) (sym (has.before empty)) ∙ has.here ∙ here_none old empty

  -- the current section takes events
  pub taken : (more : List Event) (new : OpenSections) → length old.sections.items ≢ 0 → new.run ≡ old.run → new.places ≡ old.places → new.current ≡ old.current →
      new.sections.items ≡ set old.sections.items old.current (section_named run current (events current ++ more)) →
      HasSections run (with_number numbers current) (with_events events current more) current new
  taken more new some same_run same_places same_current is = record {
    run_is = same_run ∙ has.run_is;
    ordered = rw same_places has.ordered;
    numbers_are = rw same_places (has.numbers_are ∙ sym (same_numbers current old.current current_at));
    count = ap length is ∙ length-set old.sections.items old.current _ ∙ has.count ∙ ap length (sym (same_numbers current old.current current_at));
    found = found;
    others = others;
    here = rw same_places (current_at ∙ ap (λ p. Some p) (sym same_current) ∙ sym (here_is new filled));
    before = λ empty. absurd (filled empty);
  }
    where
      current_at : get nat_cmp old.places current ≡ Some old.current
      current_at = has.here ∙ here_is old some

      filled : length new.sections.items ≢ 0
      filled empty = some (sym (ap length is ∙ length-set old.sections.items old.current _) ∙ empty)

      stands : StandsAt (section_named run current (events current)) old.sections.items old.current
      stands = has.found current old.current current_at

      found : (n place : ℕ) → get nat_cmp new.places n ≡ Some place → StandsAt (section_named run n (with_events events current more n)) new.sections.items place
      found n place at_n = ⊎_elim
          (λ equal.
          let at_current : get nat_cmp old.places current ≡ Some place = ap (λ m. get nat_cmp m current) (sym same_places) ∙ ap (get nat_cmp new.places) equal ∙ at_n in
          let places : Some old.current ≡ Some place = sym current_at ∙ at_current in let there : old.current ≡ place = cc in
          let long : place < length new.sections.items = omega (arith, there, stands.0, ap length is, length-set old.sections.items old.current (section_named run current (events current ++ more))) in
          rw (← equal, eq-eqb current current refl) (long, λ d. rw (is, ← there) (get_or-set_same old.sections.items old.current _ d stands.0)))
          (λ apart.
          let before = has.found n place (ap (λ m. get nat_cmp m n) (sym same_places) ∙ at_n) in
          let elsewhere : place ≢ old.current = λ there. apart (ap (λ t. t.name.number) (sym (stands.1 blank) ∙ ap (λ p. get_or old.sections.items p blank) (sym there) ∙ before.1 blank)) in
          rw (ne_eqb current n apart) (
            omega (arith, before.0, ap length is, length-set old.sections.items old.current (section_named run current (events current ++ more))),
            λ d. rw is (get_or-set_other old.sections.items old.current place _ d elsewhere ∙ before.1 d),
          ))
          (cases_eq current n)

      others : (n : ℕ) → get nat_cmp new.places n ≡ None → with_events events current more n ≡ []
      others n none = ⊎_elim
          (λ equal. absurd (some_is_none (sym (ap (λ m. get nat_cmp m current) (sym same_places) ∙ ap (get nat_cmp new.places) equal ∙ none) ∙ current_at)))
          (λ apart. rw (ne_eqb current n apart) (has.others n (ap (λ m. get nat_cmp m n) (sym same_places) ∙ none)))
          (cases_eq current n)

  -- what `open` answers, said of the numbers
  pub begun_ok : (number : ℕ) (new : OpenSections) (r : Result (Unit {0}) Cause) → get nat_cmp old.places number ≡ None → OnOk r (Opens number old new) →
      OnOk r (HasSections run (with_number numbers number) events number new)
  begun_ok number new r none opens = grind (arith, common_steps, begun)

  pub begun_room : (number : ℕ) (new : OpenSections) (r : Result (Unit {0}) Cause) → get nat_cmp old.places number ≡ None → OnOk r (Opens number old new) →
      OnOk r (length (with_number numbers number) ≤ SECTION_LIMIT)
  begun_room number new r none opens = grind (arith, common_steps, longer)

  pub begun_err : (number : ℕ) (r : Result (Unit {0}) Cause) → get nat_cmp old.places number ≡ None →
      IfErr r (λ cause. cause ≢ OutOfMemory → (cause ≡ TooManySections) × (SECTION_LIMIT ≤ length old.sections.items)) →
      IfErr r (λ cause. cause ≢ OutOfMemory → (cause ≡ TooManySections) × (SECTION_LIMIT < length (with_number numbers number)))
  begun_err number r none full = grind (arith, common_steps, longer)

  -- before the first section 0 is current, and its section begins
  pub first_begun : (mid : OpenSections) → length old.sections.items ≡ 0 → Opens 0 old mid → HasSections run (with_number numbers 0) events 0 mid
  first_begun mid empty opens = begun 0 mid (none_yet empty) opens

  -- the current section's events
  pub current_stands : length old.sections.items ≢ 0 → StandsAt (section_named run current (events current)) old.sections.items old.current
  current_stands some = has.found current old.current (has.here ∙ here_is old some)

-- what the first section's event answers is said of no section before it
module _ (run : ℕ) (numbers : List ℕ) (events : ℕ → List Event) (current : ℕ) (old mid : OpenSections) (has : HasSections run numbers events current old) (empty : length old.sections.items ≡ 0) (opens : Opens 0 old mid) where
  pub first_ok : (more : List Event) (new : OpenSections) (r : Result (Unit {0}) Cause) → OnOk r (HasSections run (with_number (with_number numbers 0) 0) (with_events events 0 more) 0 new) →
      OnOk r (HasSections run (with_number numbers current) (with_events events current more) current new)
  first_ok more new r holds = grind (arith, common_steps, sections_as, same_numbers, first_begun)

-- a list by entries is a list by their numbers
by_number : (entries : List (ℕ × ℕ)) (f : ℕ × ℕ → Trace) (g : ℕ → Trace) → ((k : ℕ) (d : ℕ × ℕ) → k < length entries → f (get_or entries k d) ≡ g (get_or entries k d).0) →
    map f entries ≡ map g (keys_of entries)
by_number [] f g same = refl
by_number (e ∷ entries) f g same = rw (same 0 e (omega arith)) (ap (λ rest. g e.0 ∷ rest) (by_number entries f g (λ k d within. same (suc k) d (omega (arith, within)))))

-- what stands at the places, in order of the numbers
pub listed : (run : ℕ) (numbers : List ℕ) (events : ℕ → List Event) (current : ℕ) (opened : OpenSections) → HasSections run numbers events current opened → (list shared : List Trace) →
    shared ≡ opened.sections.items → list ≡ map (λ e. get_or shared e.1 blank) opened.places.entries → list ≡ map (λ number. section_named run number (events number)) numbers
listed run numbers events current opened has list shared same is =
    is ∙ by_number opened.places.entries (λ e. get_or shared e.1 blank) (λ number. section_named run number (events number))
    (λ k d within. ap (λ l. get_or l (get_or opened.places.entries k d).1 blank) same ∙ (has.found _ _ (All-found nat_cmp_total opened.places has.ordered k d within)).1 blank)
    ∙ ap (map (λ number. section_named run number (events number))) has.numbers_are

-- a list of one
pub one_item : (list : List Trace) (item : Trace) → length list ≡ 1 → item ≡ get_or list 0 item → list ≡ item ∷ []
one_item [] item one is = absurd (omega (arith, one))
one_item (x ∷ []) item one is = ap (λ y. y ∷ []) (sym is)
one_item (x ∷ y ∷ more) item one is = absurd (omega (arith, one))

-- the same said of a list of numbers, and of what it gives
pub counted_as : {R : Type 0} (P : R → Type 0) (numbers : List ℕ) (f : ℕ → Trace) (result : Option R) → MatchOption result (length numbers ≢ 1) P → MatchOption result (length (map f numbers) ≢ 1) P
counted_as P numbers f None many = λ one. many (sym (length-map numbers f) ∙ one)
counted_as P numbers f (Some section) is = is

-- the only section, where there is just one
pub only_one : (run : ℕ) (numbers : List ℕ) (events : ℕ → List Event) (current : ℕ) (opened : OpenSections) → HasSections run numbers events current opened → (section : Trace) →
    opened.sections.items ≡ section ∷ [] → map (λ number. section_named run number (events number)) numbers ≡ section ∷ []
only_one run numbers events current opened has section is = sym (listed run numbers events current opened has _ opened.sections.items refl refl) ∙ of_entries opened.places.entries refl
  where
    at : ℕ × ℕ → Trace
    at e = get_or opened.sections.items e.1 blank

    alone : length (keys_of opened.places.entries) ≡ 1
    alone = ap length has.numbers_are ∙ sym has.count ∙ ap length is

    of_entries : (entries : List (ℕ × ℕ)) → opened.places.entries ≡ entries → map at entries ≡ section ∷ []
    of_entries [] same = absurd (let none = ap (λ es. length (keys_of es)) same in omega (arith, alone, none))
    of_entries (e ∷ []) same =
        let stands = has.found _ _ (All-found nat_cmp_total opened.places has.ordered 0 e (let one = ap length same in omega (arith, one))) in
        let here : (get_or opened.places.entries 0 e) ≡ e = ap (λ es. get_or es 0 e) same in
        let first : e.1 ≡ 0 = let below = stands.0 in let count = ap length is in let own = ap (λ x. x.1) here in omega (arith, below, count, own) in
        ap (λ k. get_or opened.sections.items k blank ∷ []) first ∙ ap (λ list. get_or list 0 blank ∷ []) is
    of_entries (e ∷ f ∷ more) same = absurd (let many = ap (λ es. length (keys_of es)) same in omega (arith, alone, many))

pub listed_ok : {V E : Type 0} (value : V → List Trace) (r : Result V E) (run : ℕ) (numbers : List ℕ) (events : ℕ → List Event) (current : ℕ) (opened : OpenSections) → HasSections run numbers events current opened → (shared : List Trace) →
    shared ≡ opened.sections.items → IfOk r (λ list. (d : Trace) → value list ≡ map (λ e. get_or shared e.1 d) opened.places.entries) →
    IfOk r (λ list. value list ≡ map (λ number. section_named run number (events number)) numbers)
listed_ok value (Err fault) run numbers events current opened has shared same is = tt
listed_ok value (Ok list) run numbers events current opened has shared same is = listed run numbers events current opened has (value list) shared same (is blank)

-- one turn of the walk over the entries: what is listed, and what is left
pub next_listed : (of_entry : ℕ × ℕ → Trace) (list longer all : List Trace) (entry : ℕ × ℕ) (left rest : List (ℕ × ℕ)) → list ++ map of_entry left ≡ all → left ≡ entry ∷ rest →
    longer ≡ list ++ of_entry entry ∷ [] → longer ++ map of_entry rest ≡ all
next_listed of_entry list longer all entry left rest so_far is next = grind (arith, common_steps, append_assoc)

-- the end of the walk
pub all_listed : (of_entry : ℕ × ℕ → Trace) (list all : List Trace) (left : List (ℕ × ℕ)) → list ++ map of_entry left ≡ all → left ≡ [] → list ≡ all
all_listed of_entry list all left so_far none = sym (append-nil list) ∙ ap (λ l. list ++ map of_entry l) (sym none) ∙ so_far
