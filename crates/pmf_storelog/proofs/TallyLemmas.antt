-- The tally with one more record, and with one more part.
use Rattle.std.proofs.{Common.{◌≡◌, ◌≢◌, ℕ, ◌+◌, ◌<◌, ◌≤◌, List, [], ◌∷◌, ◌++◌, Some, Result, Ok, Err, OnOk, IsOk, IfErr, length, length-append, refl, arith, lt-ltb, le-ltb, eq-eqb, ne_eqb, append-nil}, lemmas.Grind.{common_steps}}
use Rattle.pmf_event.specs.declared.{event.Event.{Event}, section.TheConstants.{EVENT_LIMIT}}
use Rattle.pmf_storelog.{specs.declared.fault.Cause.{Cause}, specs.declared.fault.Cause.TheVariants.{OutOfMemory, TooManyEvents, TooManySections}, specs.declared.fault.LogFault.{LogFault}, specs.declared.fault.TheConstants.{SECTION_LIMIT}, specs.declared.record.Saying.TheVariants.{Happens, Enters, Skipped}, specs.declared.tally.Tally.{Tally}, specs.Separators.{trimmed, records_in}, specs.Records.{record_of}, specs.LogText.{current_at, current_of, numbered_among, numbered_events, entered_among, entered_of, events_in, numbers_of, skipped_of, first_fault, first_fault_among, refusal_after, cause_after, fault_at, out_of_memory}, specs.Rising.{with_number, in_order}, specs.Answers.{IsShown}, specs.Sections.{HasSections, with_event}, specs.Tally.{HasTaken, AddsRecord, AddsSkipped, IsFaultFor}, proofs.LogLemmas.{current_of-push, numbers_of-push, events_in-event, events_in-enter, events_in-nothing, skipped_of-event, skipped_of-enter, first_fault-push}, proofs.SectionLemmas.{sections_as}}
use Rattle.pmf_storelog.specs.LogText.{is_skipped}

pub current_of-nil : current_of [] ≡ 0
unfolding current_of current_at
current_of-nil = refl

pub events_in-nil : (number : ℕ) → events_in [] number ≡ []
unfolding events_in numbered_events numbered_among
events_in-nil number = refl

pub taken_none : (run : ℕ) (tally : Tally) → HasSections run [] (λ _. []) 0 tally.sections → tally.records ≡ 0 → tally.skipped ≡ 0 → HasTaken run [] tally
unfolding first_fault first_fault_among numbers_of entered_of entered_among skipped_of
taken_none run tally sections count skipped = grind (arith, common_steps, sections_as, events_in-nil, current_of-nil)

-- what holds of one answer that another says was Ok
said_ok : {S R N T : Type 0} (one : Result (Unit {0}) Cause) (r : Result (Unit {0}) LogFault) → OnOk one S → OnOk one R → OnOk r (IsOk one × N) → (S → R → N → T) → OnOk r T
said_ok one r of_one and_one of_r then_r = grind (arith, common_steps)

module _ (run : ℕ) (records : List (List ℕ)) (text : List ℕ) (old : Tally) (taken : HasTaken run records old) where
  -- the first fault is then the new record's
  new_fault : first_fault (records ++ text ∷ []) ≡ fault_at (old.records + 1) (cause_after (entered_of records) (length (events_in records (current_of records))) (record_of text))
  unfolding refusal_after
  new_fault = rw (first_fault-push records text, taken.faultless, taken.count) refl

  -- how many sections there are with a marker's
  one_entered : (number : ℕ) → length (in_order (number ∷ entered_of records)) ≡ length (with_number (numbers_of records) number)
  unfolding numbers_of
  one_entered number = refl

  pub taken_event : (event : Event) (new : Tally) → record_of text ≡ Ok (Happens event) →
      HasSections run (with_number (numbers_of records) (current_of records)) (with_event (events_in records) (current_of records) event) (current_of records) new.sections →
      length (events_in records (current_of records)) ≢ EVENT_LIMIT → new.records ≡ old.records + 1 → new.skipped ≡ old.skipped → HasTaken run (records ++ text ∷ []) new
  taken_event event new says sections room count skipped = grind (arith, common_steps, new_fault, sections_as, numbers_of-push, events_in-event, current_of-push, length-append, skipped_of-event, ne_eqb)

  pub taken_enter : (number : ℕ) (new : Tally) → record_of text ≡ Ok (Enters number) → HasSections run (with_number (numbers_of records) number) (events_in records) number new.sections →
      length (with_number (numbers_of records) number) ≤ SECTION_LIMIT → new.records ≡ old.records + 1 → new.skipped ≡ old.skipped → HasTaken run (records ++ text ∷ []) new
  taken_enter number new says sections room count skipped = grind (arith, common_steps, new_fault, sections_as, numbers_of-push, events_in-enter, current_of-push, length-append, skipped_of-enter, le-ltb, one_entered)

  pub taken_nothing : (new : Tally) → record_of text ≡ Ok Skipped → AddsSkipped old new → HasTaken run (records ++ text ∷ []) new
  unfolding skipped_of is_skipped
  taken_nothing new says adds = grind (arith, common_steps, new_fault, sections_as, numbers_of-push, events_in-nothing, current_of-push, length-append)

  pub shown_cause : (cause : Cause) → record_of text ≡ Err cause → first_fault (records ++ text ∷ []) ≡ Some (record { at = old.records + 1; cause = cause })
  shown_cause cause says = rw (new_fault, says) refl

  -- what an event's section answers, said of the records
  pub happened_ok : (event : Event) (mid new : Tally) (added : Result (Unit {0}) Cause) (r : Result (Unit {0}) LogFault) → record_of text ≡ Ok (Happens event) →
      mid.records ≡ old.records → mid.skipped ≡ old.skipped →
      OnOk added (HasSections run (with_number (numbers_of records) (current_of records)) (with_event (events_in records) (current_of records) event) (current_of records) mid.sections) →
      OnOk added (length (events_in records (current_of records)) ≢ EVENT_LIMIT) →
      OnOk r (IsOk added × AddsRecord mid new) → OnOk r (HasTaken run (records ++ text ∷ []) new)
  happened_ok event mid new added r says count skipped sections room adds = grind (arith, common_steps, said_ok, taken_event)

  pub happened_err : (event : Event) (mid : Tally) (added : Result (Unit {0}) Cause) (r : Result (Unit {0}) LogFault) → record_of text ≡ Ok (Happens event) → mid.records ≡ old.records →
      IfErr added (λ cause. cause ≢ OutOfMemory → (cause ≡ TooManyEvents) × (length (events_in records (current_of records)) ≡ EVENT_LIMIT)) →
      IfErr r (λ fault. fault ≢ out_of_memory → IsFaultFor added mid fault) → IfErr r (λ fault. IsShown fault (first_fault (records ++ text ∷ [])))
  happened_err event mid added r says count full is = grind (arith, common_steps, new_fault, eq-eqb)

  -- what a marker's section answers
  pub entered_ok : (number : ℕ) (mid new : Tally) (entered : Result (Unit {0}) Cause) (r : Result (Unit {0}) LogFault) → record_of text ≡ Ok (Enters number) →
      mid.records ≡ old.records → mid.skipped ≡ old.skipped →
      OnOk entered (HasSections run (with_number (numbers_of records) number) (events_in records) number mid.sections) →
      OnOk entered (length (with_number (numbers_of records) number) ≤ SECTION_LIMIT) →
      OnOk r (IsOk entered × AddsRecord mid new) → OnOk r (HasTaken run (records ++ text ∷ []) new)
  entered_ok number mid new entered r says count skipped sections room adds = grind (arith, common_steps, said_ok, taken_enter)

  pub entered_err : (number : ℕ) (mid : Tally) (entered : Result (Unit {0}) Cause) (r : Result (Unit {0}) LogFault) → record_of text ≡ Ok (Enters number) → mid.records ≡ old.records →
      IfErr entered (λ cause. cause ≢ OutOfMemory → (cause ≡ TooManySections) × (SECTION_LIMIT < length (with_number (numbers_of records) number))) →
      IfErr r (λ fault. fault ≢ out_of_memory → IsFaultFor entered mid fault) → IfErr r (λ fault. IsShown fault (first_fault (records ++ text ∷ [])))
  entered_err number mid entered r says count full is = grind (arith, common_steps, new_fault, lt-ltb, one_entered)

-- a part is one record, or none
pub records_in-none : records_in [] ≡ []
unfolding records_in
records_in-none = refl

pub records_in-blank : (part : List ℕ) → length (trimmed part) ≡ 0 → records_in (part ∷ []) ≡ []
unfolding records_in
records_in-blank part blank = rw blank refl

pub records_in-filled : (part : List ℕ) → 0 < length (trimmed part) → records_in (part ∷ []) ≡ trimmed part ∷ []
unfolding records_in
records_in-filled part filled = rw (lt-ltb 0 (length (trimmed part)) filled) refl

pub taken_blank : (run : ℕ) (records : List (List ℕ)) (part : List ℕ) (tally : Tally) → length (trimmed part) ≡ 0 → HasTaken run records tally → HasTaken run (records ++ records_in (part ∷ [])) tally
taken_blank run records part tally blank taken = rw (records_in-blank part blank, append-nil records) taken
