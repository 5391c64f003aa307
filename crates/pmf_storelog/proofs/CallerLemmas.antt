-- What upper crates cite: a fault of all logs that begin so, said of one of them; and the events of a section while its log is read.
use Rattle.std.proofs.{Common.{◌≡◌, ℕ, List, [], ◌∷◌, ◌++◌, Err, map, length, get_or, arith, sym, ◌∙◌, ap, append_assoc, append-nil}}
use Rattle.pmf_event.specs.{declared.event.Event.{Event}, Section.{Trace}}
use Rattle.pmf_storelog.{specs.declared.fault.LogFault.{LogFault}, specs.LogText.{IsFaultOfAll, log_of, events_in, numbers_of, numbered, current_of, section_named, sections_of}, specs.Records.{record_of}, specs.Separators.{ended_records, records_of, records_in}, proofs.LogLemmas.{in_section, events_in-push}, proofs.PartLemmas.{ended_records-more, records_of-unfinished, unfinished}, proofs.ReaderLemmas.{log_of-shown}}

-- what each log that begins so says
pub log_of-all : (run : ℕ) (fault : LogFault) (bytes rest : List ℕ) → IsFaultOfAll fault bytes → log_of run (bytes ++ rest) ≡ Err fault
log_of-all run fault bytes rest all = log_of-shown run (bytes ++ rest) fault (all rest)

-- the events of a section stay its first ones, whatever records follow
pub events_in-more : (records more : List (List ℕ)) (number : ℕ) → (rest : List Event) × (events_in (records ++ more) number ≡ events_in records number ++ rest)
events_in-more records [] number = ([], ap (λ r. events_in r number) (append-nil records) ∙ sym (append-nil (events_in records number)))
events_in-more records (text ∷ more) number =
    let own = in_section number (numbered (current_of records) (record_of text)) in
    let (rest, is) = events_in-more (records ++ text ∷ []) more number in
    (own ++ rest, ap (λ r. events_in r number) (sym (append_assoc records (text ∷ []) more)) ∙ is ∙ ap (λ es. es ++ rest) (events_in-push records text number) ∙ append_assoc (events_in records number) own rest)

-- those of the ended records, whatever bytes follow
pub ended_events-more : (bytes more : List ℕ) (number : ℕ) → (rest : List Event) × (events_in (ended_records (bytes ++ more)) number ≡ events_in (ended_records bytes) number ++ rest)
ended_events-more bytes more number =
    let (records, is) = ended_records-more bytes more in let (rest, events) = events_in-more (ended_records bytes) records number in
    (rest, ap (λ r. events_in r number) is ∙ events)

-- and at the end of the log
pub ended_events-all : (bytes : List ℕ) (number : ℕ) → (rest : List Event) × (events_in (records_of bytes) number ≡ events_in (ended_records bytes) number ++ rest)
ended_events-all bytes number =
    let (part, is) = unfinished bytes in let (rest, events) = events_in-more (ended_records bytes) (records_in (part ∷ [])) number in
    (rest, ap (λ r. events_in r number) (records_of-unfinished bytes part is) ∙ events)

-- the only section of a list of records has the events of its number
pub only_events : (run : ℕ) (records : List (List ℕ)) (section : Trace) → sections_of run records ≡ section ∷ [] → section.events ≡ events_in records section.name.number
unfolding sections_of
only_events run records section is = of_numbers (numbers_of records) is
  where
    of_numbers : (numbers : List ℕ) → map (λ number. section_named run number (events_in records number)) numbers ≡ section ∷ [] → section.events ≡ events_in records section.name.number
    of_numbers [] same = absurd (let none = ap length same in omega (arith, none))
    of_numbers (number ∷ []) same =
        let own : section_named run number (events_in records number) ≡ section = ap (λ list. get_or list 0 section) same in
        sym (ap (λ (s : Trace). s.events) own) ∙ ap (λ (s : Trace). events_in records s.name.number) own
    of_numbers (number ∷ other ∷ more) same = absurd (let many = ap length same in omega (arith, many))
