-- What one more record says of a section.
use Rattle.std.proofs.{Common.{◌≡◌, ℕ, ◌+◌, List, [], ◌∷◌, ◌++◌, Ok, Err, length, length-append, refl, sym, ap, ◌∙◌, arith, eq-eqb, ne_eqb, append-nil}, lemmas.Grind.{common_steps}}
use Rattle.pmf_event.specs.declared.event.Event.{Event}
use Rattle.pmf_storelog.{specs.declared.fault.Cause.{Cause}, specs.declared.record.Saying.TheVariants.{Happens, Enters, Skipped}, specs.Records.{record_of}, specs.LogText.{current_of, events_in, number_after, numbered}, proofs.LogLemmas.{current_of-push, events_in-push, events_in-event, events_in-enter, events_in-nothing, in_section}, proofs.TallyLemmas.{current_of-nil, events_in-nil}}
use Rattle.pmf_query.specs.{declared.passing.Passed.{Passed}, Passing.{HasPassed, GivesNext}}

pub passed_none : (section : ℕ) (passed : Passed) → passed.records ≡ 0 → passed.current ≡ 0 → passed.events ≡ 0 → HasPassed section [] passed
passed_none section passed records current events = grind (arith, common_steps, current_of-nil, events_in-nil)

module _ (section : ℕ) (records : List (List ℕ)) (old : Passed) (passed : HasPassed section records old) (text : List ℕ) where
  one_more : old.records + 1 ≡ length (records ++ text ∷ [])
  one_more = omega (arith, passed.count, length-append records (text ∷ []))

  pub passed_here : (event : Event) (new : Passed) → record_of text ≡ Ok (Happens event) → old.current ≡ section →
      new.records ≡ old.records + 1 → new.current ≡ old.current → new.events ≡ old.events + 1 → HasPassed section (records ++ text ∷ []) new
  passed_here event new says here count current events =
      let now : current_of records ≡ section = sym passed.current ∙ here in
      let more : events_in (records ++ text ∷ []) section ≡ events_in records section ++ event ∷ [] =
      events_in-event records text event says section ∙ rw (eq-eqb (current_of records) section now) refl in record {
        count = count ∙ one_more;
        current = current ∙ passed.current ∙ sym (current_of-push records text ∙ ap (λ reading. number_after reading (current_of records)) says);
        events = omega (arith, events, passed.events, ap length more, length-append (events_in records section) (event ∷ []));
      }

  pub passed_elsewhere : (event : Event) (new : Passed) → record_of text ≡ Ok (Happens event) → (old.current ≡ section → ⊥) →
      new.records ≡ old.records + 1 → new.current ≡ old.current → new.events ≡ old.events → HasPassed section (records ++ text ∷ []) new
  passed_elsewhere event new says apart count current events =
      let same : events_in (records ++ text ∷ []) section ≡ events_in records section =
      events_in-event records text event says section ∙ rw (ne_eqb (current_of records) section (λ is. apart (passed.current ∙ is))) refl in record {
        count = count ∙ one_more;
        current = current ∙ passed.current ∙ sym (current_of-push records text ∙ ap (λ reading. number_after reading (current_of records)) says);
        events = events ∙ passed.events ∙ ap length (sym same);
      }

  pub passed_marker : (number : ℕ) (new : Passed) → record_of text ≡ Ok (Enters number) →
      new.records ≡ old.records + 1 → new.current ≡ number → new.events ≡ old.events → HasPassed section (records ++ text ∷ []) new
  passed_marker number new says count current events = grind (arith, common_steps, one_more, current_of-push, events_in-enter)

  pub passed_nothing : (new : Passed) → record_of text ≡ Ok Skipped →
      new.records ≡ old.records + 1 → new.current ≡ old.current → new.events ≡ old.events → HasPassed section (records ++ text ∷ []) new
  passed_nothing new says count current events = grind (arith, common_steps, one_more, current_of-push, events_in-nothing)

  pub passed_refused : (cause : Cause) (new : Passed) → record_of text ≡ Err cause →
      new.records ≡ old.records + 1 → new.current ≡ old.current → new.events ≡ old.events → HasPassed section (records ++ text ∷ []) new
  passed_refused cause new says count current events = grind (arith, common_steps, one_more, current_of-push, events_in-push, in_section, append-nil)

  -- an event of the section is its next one
  pub gives_next : (event : Event) (place : ℕ) → record_of text ≡ Ok (Happens event) → old.current ≡ section → old.events + 1 ≡ place → GivesNext records section place text
  gives_next event place says here reached =
      let now : current_of records ≡ section = sym passed.current ∙ here in record {
        event = event;
        says = ap (numbered (current_of records)) says ∙ ap (λ (number : ℕ). (number, event) ∷ []) now;
        behind = omega (arith, passed.events);
      }
