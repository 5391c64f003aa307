-- What is written of a section is a log that says the section alone.
use Rattle.std.{proofs.Common.{◌≡◌, ℕ, suc, ◌+◌, ◌^◌, ◌<◌, ◌≤◌, List, [], ◌∷◌, ◌++◌, None, Ok, length, map, take, All, refl, ap, ◌∙◌, arith, flat_map, append_assoc, append-nil, take_all}, proofs.lemmas.List.{length_push}, proofs.lemmas.Bool.Decides.{Decides-eqb}, proofs.lemmas.Grind.{common_steps}}
use Rattle.pmf_event.specs.{declared.event.Event.{Event}, declared.section.TheConstants.{EVENT_LIMIT}, Section.{Trace}}
use Rattle.pmf_storelog.{specs.declared.record.Saying.TheVariants.{Happens, Enters}, specs.Separators.{records_of}, specs.Records.{record_of}, specs.Sections.{with_event}, specs.LogText.{current_of, current_at, entered_of, entered_among, numbers_of, events_in, numbered_events, numbered_among, skipped_of, first_fault, first_fault_among, refusal_after, number_after, sections_of, value_of, fault_of, log_of}, specs.Canonical.{canonical_text, line_of_event, line_of_marker}, specs.Spelling.{AllValid}, proofs.LogLemmas.{numbers_with, current_of-push, numbers_of-push, events_in-event, events_in-enter, skipped_of-event, skipped_of-enter, first_fault-push, fault_within-short}, proofs.PlainLemmas.{text_of_event, text_of_marker}, proofs.RoundTripLemmas.{EachValid, canonical_records, records_of-canonical, canonical-length}, proofs.SpellingLemmas.{record_of-event, record_of-marker}, specs.LogValue.{LogValue}}

-- these records say one section, with this number and these events
record Says (number : ℕ) (events : List Event) (records : List (List ℕ)) : Type 0 where
  current : current_of records ≡ number
  numbers : numbers_of records ≡ number ∷ []
  events_are : events_in records number ≡ events
  none_skipped : skipped_of records ≡ 0
  no_fault : first_fault records ≡ None

log_value : List Trace → ℕ → LogValue
log_value sections skipped = record { sections = sections; skipped = skipped }

no_refusal_at_marker : (n : ℕ) (text : List ℕ) → record_of text ≡ Ok (Enters n) → refusal_after [] (record_of text) ≡ None
unfolding refusal_after entered_of entered_among
no_refusal_at_marker n text says = rw says refl

says-marker : (n : ℕ) (text : List ℕ) → record_of text ≡ Ok (Enters n) → Says n [] (text ∷ [])
unfolding current_of current_at entered_of entered_among numbers_of events_in numbered_events numbered_among skipped_of first_fault first_fault_among
says-marker n text says = record {
  current = current_of-push [] text ∙ ap (λ reading. number_after reading 0) says;
  numbers = numbers_of-push [] text ∙ ap (λ reading. numbers_with reading 0 []) says;
  events_are = events_in-enter [] text n says n;
  none_skipped = skipped_of-enter [] text n says;
  no_fault = first_fault-push [] text ∙ no_refusal_at_marker n text says;
}

module _ (n : ℕ) (events : List Event) (records : List (List ℕ)) (has : Says n events records) (event : Event) (text : List ℕ) (says : record_of text ≡ Ok (Happens event)) where
  here : with_event (events_in records) n event n ≡ events ++ event ∷ []
  here = rw (has.events_are, (Decides-eqb n n).1 refl) refl

  says-event : length events < EVENT_LIMIT → Says n (events ++ event ∷ []) (records ++ text ∷ [])
  unfolding refusal_after
  says-event few = grind (arith, common_steps, current_of-push, numbers_of-push, events_in-event, skipped_of-event, first_fault-push, here)

says-events : (n : ℕ) (done left : List Event) (records : List (List ℕ)) → Says n done records → EachValid left → length done + length left ≤ EVENT_LIMIT →
    Says n (done ++ left) (records ++ map text_of_event left)
says-events n done [] records has valid few = rw (append-nil done, append-nil records) has
says-events n done (event ∷ left) records has valid few =
    let next = says-event n done records has event (text_of_event event) (record_of-event event valid.0) (omega arith) in
    let all = says-events n (done ++ event ∷ []) left (records ++ text_of_event event ∷ []) next valid.1 (omega (arith, length_push done event)) in
    rw (← append_assoc done (event ∷ []) left, ← append_assoc records (text_of_event event ∷ []) (map text_of_event left)) all

says-section : (section : Trace) → section.name.number < 2 ^ 64 → EachValid section.events → length section.events ≤ EVENT_LIMIT →
    Says section.name.number section.events (canonical_records section)
says-section section small valid few =
    says-events section.name.number [] section.events (text_of_marker section.name.number ∷ [])
    (says-marker section.name.number (text_of_marker section.name.number) (record_of-marker section.name.number small)) valid (omega (arith, few))

module _ (section : Trace) (small : section.name.number < 2 ^ 64) (valid : EachValid section.events) (few : length section.events ≤ EVENT_LIMIT) where
  records_are : records_of (canonical_text section) ≡ canonical_records section
  records_are = records_of-canonical section small valid

  value_is : value_of section.name.run (canonical_text section) ≡ record { sections = section ∷ []; skipped = 0 }
  unfolding value_of log_value sections_of
  value_is = grind (arith, common_steps, records_are, says-section)

  -- the log with the text of a section says the section, and nothing else
  pub log_of-canonical : log_of section.name.run (canonical_text section) ≡ Ok (record { sections = section ∷ []; skipped = 0 })
  unfolding log_of fault_of
  log_of-canonical = grind (arith, common_steps, fault_within-short, canonical-length, records_are, says-section, value_is)

-- the same, by places
each_valid : (events : List Event) → All AllValid events → EachValid events
each_valid [] valid = tt
each_valid (event ∷ events) valid = (valid 0 event (omega arith), each_valid events (λ k d l. valid (suc k) d (omega arith)))

pub reads_back : (section : Trace) (text : List ℕ) → text ≡ canonical_text section → section.name.number < 2 ^ 64 → length section.events ≤ EVENT_LIMIT → All AllValid section.events →
    log_of section.name.run text ≡ Ok (record { sections = section ∷ []; skipped = 0 })
reads_back section text is small few valid = ap (log_of section.name.run) is ∙ log_of-canonical section small (each_valid section.events valid) few

-- all lines are written
pub read_back : (section : Trace) (items : List Event) (i : ℕ) (text : List ℕ) → items ≡ section.events → length items ≤ i →
    text ≡ line_of_marker section.name.number ++ flat_map line_of_event (take i items) → All AllValid (take i items) →
    section.name.number < 2 ^ 64 → length section.events ≤ EVENT_LIMIT →
    log_of section.name.run text ≡ Ok (record { sections = section ∷ []; skipped = 0 })
read_back section items i text same end written valid small few = grind (arith, common_steps, take_all, reads_back)
