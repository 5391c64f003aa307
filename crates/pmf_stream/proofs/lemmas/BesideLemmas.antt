-- What is checked of a log's only section while the log is read, of more bytes of it, and of the whole.
use Rattle.std.proofs.Common.{◌≡◌, ◌≢◌, Bor, Result, Ok, Err, ℕ, List, [], ◌∷◌, ◌++◌, length, map, get_or, Option, None, Some, MatchOption, IfSome, option_map, arith, sym, ◌∙◌, ap, subst, append_assoc, append-nil}
use Rattle.pmf_event.specs.{declared.event.Event.{Event}, declared.profile.Profile.{Profile}, Section.{Trace}, declared.section.Section.{Section}}
use Rattle.pmf_storelog.{specs.{LogText.{events_in, sections_of, log_of, value_of, fault_of, value_unless}, LogValue.{LogValue}, declared.fault.LogFault.{LogFault}, Separators.{ended_records, records_of}}, proofs.CallerLemmas.{ended_events-more, ended_events-all, only_events}}
use Rattle.pmf_verdict.specs.{Partly.{HasChecked, IsFrontOf}, declared.checking.Checker.{Checker}}
use Rattle.pmf_stream.specs.{Beside.{GoesOn, IsBeside}, declared.beside.Beside.{Beside}}
use Rattle.pmf_stream.specs.declared.beside.Beside.TheVariants as beside

-- what is a front stays one, whatever comes behind
front_longer : (es old new : List Event) → IsFrontOf es old → (rest : List Event) × (new ≡ old ++ rest) → IsFrontOf es new
front_longer es old new (more, is) (rest, longer) = (more ++ rest, longer ∙ ap (λ xs. xs ++ rest) is ∙ append_assoc es more rest)

-- what is checked is of the bytes with more of them, too
pub beside-more : (profile : Profile) (bytes piece : List ℕ) (b : Beside) → IsBeside profile bytes b → IsBeside profile (bytes ++ piece) b
beside-more profile bytes piece beside.Waiting is = tt
beside-more profile bytes piece (beside.Going number checker) (es, has, front) = (es, has, front_longer es _ _ front (ended_events-more bytes piece number))
beside-more profile bytes piece beside.Over is = tt

-- the events that are there are those of the ended records
pub all_of_it : (profile : Profile) (run : ℕ) (bytes : List ℕ) (section : Trace) (checker : Checker) → sections_of run (ended_records bytes) ≡ section ∷ [] → HasChecked profile section.events checker →
    IsBeside profile bytes (beside.Going section.name.number checker)
all_of_it profile run bytes section checker only has = (section.events, has, ([], sym (only_events run (ended_records bytes) section only) ∙ sym (append-nil section.events)))

-- at the end of the log it begins the section
pub front_at_end : (run : ℕ) (bytes : List ℕ) (number : ℕ) (es : List Event) (section : Trace) → IsFrontOf es (events_in (ended_records bytes) number) → section ∷ [] ≡ sections_of run (records_of bytes) →
    section.name.number ≡ number → IsFrontOf es section.events
front_at_end run bytes number es section front only own =
    let (rest, longer) = ended_events-all bytes number in
    front_longer es (events_in (ended_records bytes) number) section.events front (rest, only_events run (records_of bytes) section (sym only) ∙ ap (events_in (records_of bytes)) own ∙ longer)

-- what was checked begins what is there now
pub front_now : (run : ℕ) (bytes : List ℕ) (number : ℕ) (es : List Event) (section : Trace) → IsFrontOf es (events_in (ended_records bytes) number) → sections_of run (ended_records bytes) ≡ section ∷ [] →
    section.name.number ≡ number → IsFrontOf es section.events
front_now run bytes number es section (more, is) only own = (more, only_events run (ended_records bytes) section only ∙ ap (events_in (ended_records bytes)) own ∙ is)

-- so that the check may end with it
pub finishes : (profile : Profile) (run : ℕ) (bytes : List ℕ) (b : Beside) (number : ℕ) (checker : Checker) (all : List Trace) (section : Trace) → IsBeside profile bytes b → b ≡ beside.Going number checker →
    all ≡ sections_of run (records_of bytes) → all ≡ section ∷ [] → section.name.number ≡ number → (p : Profile) × (es : List Event) × HasChecked p es checker × IsFrontOf es section.events
finishes profile run bytes b number checker all section is going whole one own =
    let (es, has, front) = rw going at is in (profile, es, has, front_at_end run bytes number es section front (sym one ∙ whole) own)

-- what a list of one gives
pub one_mapped : {A : Type 0} (f : A → Trace) (xs : List A) (a : A) → length xs ≡ 1 → a ≡ get_or xs 0 a → map f xs ≡ f a ∷ []
one_mapped f [] a one is = absurd (omega (arith, one))
one_mapped f (x ∷ []) a one is = ap (λ y. f y ∷ []) (sym is)
one_mapped f (x ∷ y ∷ more) a one is = absurd (omega (arith, one))

-- the same said of what is made of the only one
pub only_made : {A B : Type 0} (f : A → B) (N : Type 0) (P : B → Type 0) (r : Option A) → MatchOption r N (λ a. P (f a)) → IfSome (option_map f r) P
only_made f N P None none = tt
only_made f N P (Some a) is = is

sections_in : Result LogValue LogFault → List Trace
sections_in (Ok log) = log.sections
sections_in (Err fault) = []

-- the sections of a log without a fault
pub sections_read : (run : ℕ) (bytes : List ℕ) (log : LogValue) → log_of run bytes ≡ Ok log → log.sections ≡ sections_of run (records_of bytes)
unfolding log_of value_of sections_in
sections_read run bytes log is = unless_fault (fault_of bytes) is
  where
    unless_fault : (fault : Option LogFault) → value_unless fault (value_of run bytes) ≡ Ok log → log.sections ≡ sections_of run (records_of bytes)
    unless_fault None same = sym (ap sections_in same)
    unless_fault (Some fault) same = let bad : Err fault ≡ Ok log = same in cc

-- what the check is of whose reader has taken a piece
pub gone_on : (profile : Profile) (run : ℕ) (bytes piece : List ℕ) (only : Option (Bor Section)) (before old new : Beside) → before ≡ old →
    MatchOption only (length (sections_of run (ended_records bytes)) ≢ 1) (λ section. sections_of run (ended_records bytes) ≡ section.now ∷ []) →
    GoesOn profile (option_map (λ section. section.now) only) before new → IsBeside profile bytes old → IsBeside profile (bytes ++ piece) new
gone_on profile run bytes piece only before old new same alone goes is =
    beside-more profile bytes piece new (goes run bytes (only_made (λ section. section.now) _ (λ section. sections_of run (ended_records bytes) ≡ section ∷ []) only alone) (subst (IsBeside profile bytes) (sym same) is))
