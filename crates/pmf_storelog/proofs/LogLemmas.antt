-- The sections, the skipped records and the first fault of a list of records that more records follow.
use Rattle.std.proofs.{Common.{◌≡◌, ℕ, zero, suc, ◌+◌, ◌<◌, ◌≤◌, cond, map, List, [], ◌∷◌, ◌++◌, Option, Some, None, Result, Ok, Err, length, take, refl, sym, ap, ◌∙◌, arith, add-one, length-append, ⊎_elim, ◌==◌, filter, append_assoc, append-nil, take_at, take_all, lt-ltb, le-ltb}, lemmas.List.{map-append, take-append-le, get_or_append_left, get_or_at, length_push}, lemmas.List.Elements.{filter-append}, lemmas.List.Sums.{sum_by-append}, lemmas.Bool.{cases_lt}, lemmas.Grind.{common_steps}}
use Rattle.pmf_event.specs.declared.event.Event.{Event}
use Rattle.pmf_storelog.{specs.declared.fault.TheConstants.{LOG_LIMIT}, specs.declared.fault.Cause.{Cause}, specs.declared.fault.Cause.TheVariants.{TooLong}, specs.declared.fault.LogFault.{LogFault}, specs.declared.record.Saying.{Saying}, specs.declared.record.Saying.TheVariants.{Happens, Enters, Skipped}, specs.Records.{record_of}, specs.Sections.{with_event}, specs.Separators.{records_of, ended_records}, specs.LogText.{reading_at, number_after, current_at, current_of, numbered, numbered_among, numbered_events, events_in, entered, entered_among, entered_of, numbers_of, is_skipped, skipped_of, refusal_after, refusal_at, or_else, first_fault_among, first_fault, too_long, shown_within, fault_within, shown_fault, fault_of, IsFaultOfAll}, specs.Rising.{with_number, in_order}, proofs.InOrderLemmas.{in_order-push}, proofs.PartLemmas.{ended_records-more, records_of-unfinished, unfinished}}

-- the events of a section among numbered ones
abbrev pub in_section : ℕ → List (ℕ × Event) → List Event
in_section number entries = map (λ entry. entry.1) (filter (λ entry. entry.0 == number) entries)

-- the numbers with that of the section that a reading is of
abbrev pub numbers_with : Result Saying Cause → ℕ → List ℕ → List ℕ
numbers_with (Ok (Happens event)) current numbers = with_number numbers current
numbers_with (Ok (Enters number)) current numbers = with_number numbers number
numbers_with (Ok Skipped) current numbers = numbers
numbers_with (Err cause) current numbers = numbers

pub in_order-entered : (reading : Result Saying Cause) (current : ℕ) (before : List ℕ) → in_order (before ++ entered current reading) ≡ numbers_with reading current (in_order before)
in_order-entered reading current before = grind (arith, common_steps, in_order-push, append-nil)

-- what the records before more of them say
module _ (records more : List (List ℕ)) where
  pub reading_at-append : (k : ℕ) → k < length records → reading_at (records ++ more) k ≡ reading_at records k
  unfolding reading_at
  reading_at-append k within = ap record_of (get_or_append_left records more [] k within)

  pub current_at-append : (k : ℕ) → k ≤ length records → current_at (records ++ more) k ≡ current_at records k
  unfolding current_at
  current_at-append zero le = refl
  current_at-append (suc k) le = rw (reading_at-append k (omega arith), current_at-append k (omega arith)) refl

  pub numbered_among-append : (k : ℕ) → k ≤ length records → numbered_among (records ++ more) k ≡ numbered_among records k
  unfolding numbered_among
  numbered_among-append zero le = refl
  numbered_among-append (suc k) le = rw (reading_at-append k (omega arith), current_at-append k (omega arith), numbered_among-append k (omega arith)) refl

  pub entered_among-append : (k : ℕ) → k ≤ length records → entered_among (records ++ more) k ≡ entered_among records k
  unfolding entered_among
  entered_among-append zero le = refl
  entered_among-append (suc k) le = rw (reading_at-append k (omega arith), current_at-append k (omega arith), entered_among-append k (omega arith)) refl

  refusal_at-append : (k : ℕ) → k < length records → refusal_at (records ++ more) k ≡ refusal_at records k
  unfolding refusal_at
  refusal_at-append k within = rw (take-append-le k records more (omega arith), reading_at-append k within) refl

  first_fault_among-append : (k : ℕ) → k ≤ length records → first_fault_among (records ++ more) k ≡ first_fault_among records k
  unfolding first_fault_among
  first_fault_among-append zero le = refl
  first_fault_among-append (suc k) le = rw (first_fault_among-append k (omega arith), refusal_at-append k (omega arith)) refl

-- what one more record adds
module _ (records : List (List ℕ)) (text : List ℕ) where
  pub one_more : length (records ++ text ∷ []) ≡ suc (length records)
  one_more = length_push records text ∙ add-one (length records)

  pub reading_at-last : reading_at (records ++ text ∷ []) (length records) ≡ record_of text
  unfolding reading_at
  reading_at-last = ap record_of (get_or_at records text [] [] (length records) refl)

  pub current_of-push : current_of (records ++ text ∷ []) ≡ number_after (record_of text) (current_of records)
  unfolding current_of current_at
  current_of-push = grind (arith, common_steps, one_more, reading_at-last, current_at-append)

  entered_of-push : entered_of (records ++ text ∷ []) ≡ entered_of records ++ entered (current_of records) (record_of text)
  unfolding entered_of entered_among current_of
  entered_of-push = grind (arith, common_steps, one_more, reading_at-last, current_at-append, entered_among-append)

  -- the numbers of the sections with one more record are at most one insertion more
  pub numbers_of-push : numbers_of (records ++ text ∷ []) ≡ numbers_with (record_of text) (current_of records) (numbers_of records)
  unfolding numbers_of
  numbers_of-push = ap in_order entered_of-push ∙ in_order-entered (record_of text) (current_of records) (entered_of records)

  refusal_at-last : refusal_at (records ++ text ∷ []) (length records) ≡ refusal_after records (record_of text)
  unfolding refusal_at
  refusal_at-last = rw (take_at records (text ∷ []) (length records) refl, reading_at-last) refl

  -- the first fault with one more record
  pub first_fault-push : first_fault (records ++ text ∷ []) ≡ or_else (first_fault records) (refusal_after records (record_of text))
  unfolding first_fault first_fault_among
  first_fault-push = grind (arith, common_steps, one_more, first_fault_among-append, refusal_at-last)

  -- the events of each section, by what the record says
  pub events_in-push : (number : ℕ) → events_in (records ++ text ∷ []) number ≡ events_in records number ++ in_section number (numbered (current_of records) (record_of text))
  unfolding events_in numbered_events numbered_among current_of
  events_in-push number = grind (arith, common_steps, one_more, reading_at-last, current_at-append, numbered_among-append, filter-append, map-append)

  pub events_in-event : (event : Event) → record_of text ≡ Ok (Happens event) → (number : ℕ) →
      events_in (records ++ text ∷ []) number ≡ with_event (events_in records) (current_of records) event number
  events_in-event event says number = grind (arith, common_steps, events_in-push, append-nil)

  pub events_in-enter : (entered : ℕ) → record_of text ≡ Ok (Enters entered) → (number : ℕ) → events_in (records ++ text ∷ []) number ≡ events_in records number
  events_in-enter entered says number = grind (arith, common_steps, events_in-push, append-nil)

  pub events_in-nothing : record_of text ≡ Ok Skipped → (number : ℕ) → events_in (records ++ text ∷ []) number ≡ events_in records number
  events_in-nothing says number = grind (arith, common_steps, events_in-push, append-nil)

  pub skipped_of-event : (event : Event) → record_of text ≡ Ok (Happens event) → skipped_of (records ++ text ∷ []) ≡ skipped_of records
  unfolding skipped_of is_skipped
  skipped_of-event event says = rw (sum_by-append (λ x. cond (is_skipped x) 1 0) records (text ∷ []), says) (omega arith)

  pub skipped_of-enter : (number : ℕ) → record_of text ≡ Ok (Enters number) → skipped_of (records ++ text ∷ []) ≡ skipped_of records
  unfolding skipped_of is_skipped
  skipped_of-enter number says = rw (sum_by-append (λ x. cond (is_skipped x) 1 0) records (text ∷ []), says) (omega arith)

-- a fault stays the first one, whatever follows
pub first_fault-more : (records more : List (List ℕ)) (fault : LogFault) → first_fault records ≡ Some fault → first_fault (records ++ more) ≡ Some fault
first_fault-more records [] fault is = rw (append-nil records) is
first_fault-more records (text ∷ more) fault is = grind (arith, common_steps, append_assoc, first_fault-push, first_fault-more (records ++ text ∷ []) more)

-- what bytes show stays, whatever follows
pub first_fault-ended : (xs ys : List ℕ) (fault : LogFault) → first_fault (ended_records xs) ≡ Some fault → first_fault (ended_records (xs ++ ys)) ≡ Some fault
first_fault-ended xs ys fault is = let more = ended_records-more xs ys in ap first_fault more.1 ∙ first_fault-more (ended_records xs) more.0 fault is

pub first_fault-records : (xs ys : List ℕ) (fault : LogFault) → first_fault (ended_records xs) ≡ Some fault → first_fault (records_of (xs ++ ys)) ≡ Some fault
first_fault-records xs ys fault is =
    let open_end = unfinished (xs ++ ys) in ap first_fault (records_of-unfinished (xs ++ ys) open_end.0 open_end.1) ∙ first_fault-more _ _ fault (first_fault-ended xs ys fault is)

or_else-none : (first : Option LogFault) → or_else first None ≡ first
or_else-none first = grind (arith, common_steps)

-- the front of bytes that more bytes follow
take_more_of : (limit : ℕ) (xs ys : List ℕ) → (zs : List ℕ) × (take limit (xs ++ ys) ≡ take limit xs ++ zs)
take_more_of zero xs ys = ([], refl)
take_more_of (suc n) [] ys = (take (suc n) ys, refl)
take_more_of (suc n) (x ∷ xs) ys = let more = take_more_of n xs ys in (more.0, ap (λ l. x ∷ l) more.1)

module _ (limit : ℕ) (bytes : List ℕ) where
  -- within the limit only the ended records show a fault
  pub shown_within-short : length bytes ≤ limit → shown_within limit bytes ≡ first_fault (ended_records bytes)
  unfolding shown_within too_long
  shown_within-short short = rw (take_all limit bytes short, le-ltb limit (length bytes) short) (or_else-none (first_fault (ended_records bytes)))

  -- past the limit, the log is too long where no earlier fault is
  pub shown_within-long : limit < length bytes → first_fault (ended_records (take limit bytes)) ≡ None →
      shown_within limit bytes ≡ Some (record { at = length (ended_records (take limit bytes)) + 1; cause = TooLong })
  unfolding shown_within too_long
  shown_within-long long none = rw (lt-ltb limit (length bytes) long, none) refl

  -- an earlier fault comes first
  pub shown_within-early : (fault : LogFault) → first_fault (ended_records (take limit bytes)) ≡ Some fault → shown_within limit bytes ≡ Some fault
  unfolding shown_within
  shown_within-early fault is = rw is refl

  -- within the limit the fault is that of any record
  pub fault_within-short : length bytes ≤ limit → fault_within limit bytes ≡ first_fault (records_of bytes)
  unfolding fault_within
  fault_within-short short = rw (le-ltb limit (length bytes) short) refl

  pub fault_within-long : limit < length bytes → fault_within limit bytes ≡ shown_within limit bytes
  unfolding fault_within
  fault_within-long long = rw (lt-ltb limit (length bytes) long) refl

-- a fault that bytes show is the first of every log that begins so
module _ (limit : ℕ) (bytes rest : List ℕ) (fault : LogFault) (shown : shown_within limit bytes ≡ Some fault) where
  by_record : first_fault (ended_records (take limit bytes)) ≡ Some fault → fault_within limit (bytes ++ rest) ≡ Some fault
  by_record is = ⊎_elim
      (λ long.
      let more = take_more_of limit bytes rest in fault_within-long limit (bytes ++ rest) long ∙ shown_within-early limit (bytes ++ rest) fault
      (ap (λ front. first_fault (ended_records front)) more.1 ∙ first_fault-ended (take limit bytes) more.0 fault is))
      (λ short.
      let all : take limit bytes ≡ bytes = take_all limit bytes (omega (arith, length-append bytes rest)) in fault_within-short limit (bytes ++ rest) short
      ∙ first_fault-records bytes rest fault (ap (λ front. first_fault (ended_records front)) (sym all) ∙ is))
      (cases_lt limit (length (bytes ++ rest)))

  by_length : first_fault (ended_records (take limit bytes)) ≡ None → limit < length bytes → fault_within limit (bytes ++ rest) ≡ Some fault
  by_length none long = grind (arith, common_steps, take-append-le, length-append, fault_within-long, shown_within-long)

  pub shown_within-all : fault_within limit (bytes ++ rest) ≡ Some fault
  shown_within-all = grind (arith, common_steps, by_record, by_length, shown_within-early, shown_within-short, take_all)

-- the same under the limit of a log
pub shown_of_all : (bytes : List ℕ) (fault : LogFault) → shown_fault bytes ≡ Some fault → IsFaultOfAll fault bytes
unfolding shown_fault fault_of
shown_of_all bytes fault shown rest = shown_within-all LOG_LIMIT bytes rest fault shown
