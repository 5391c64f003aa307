-- A record whose name is known by how it begins.
use Rattle.std.{proofs.Common.{◌≡◌, ℕ, zero, suc, ◌+◌, ◌-◌, ◌<◌, Bool, true, false, cond, List, [], ◌∷◌, ◌++◌, length, take, drop, codes, bytes_eq, get_or, Result, Ok, Err, Option, Some, None, slice_index_or, length-append, inl, inr, nat_lt, refl, sym, ap, ◌∙◌, arith, append_assoc}, proofs.lemmas.Bool.{cases_lt, false≢true}, proofs.lemmas.List.{take_all}, proofs.lemmas.Grind.{common_steps}, specs.List.{starts_with}, specs.Prelude.{nat_eq}}
use Rattle.pmf_event.specs.{declared.event.Event.{Event}, Span.{Extent}}
use Rattle.pmf_storelog.{specs.declared.fault.Cause.{Cause}, specs.declared.record.Saying.{Saying}, specs.declared.record.Saying.TheVariants.{Happens, Enters, Skipped}, specs.declared.fault.Cause.TheVariants.{TooLong}, specs.declared.fault.LogFault.{LogFault}, specs.declared.fault.TheConstants.{LOG_LIMIT}, specs.Separators.{ended_records, records_of}, specs.LogText.{cause_after, current_of, entered_of, events_in, fault_at, fault_of, fault_within, first_fault, first_fault_among, or_else, reading_at, refusal_after, refusal_at, shown_within, too_long}, specs.Records.{event_over, fields_of, record_of, saying_of, saying_of_fields}, proofs.CanonicalLemmas.{NoFieldEnd, fields_of-last, fields_of-more}, proofs.QuickLemmas.{begins_with}}
use Rattle.pmf_query.specs.{Decimal.{asserts_decimal}, Walking.{IsNext}, RecordNames.{first_field, known_names, name_of}, Usual.{IsUsual, says_event}}

-- ---- by how it begins

module _ (name : List ℕ) (index : ℕ) (known : name ≡ get_or known_names index []) (within : index < 13) (gives : (fields : List (List ℕ)) → says_event (saying_of name fields) ≡ true)
    (starts : bytes_eq name (codes "START") ≡ false) (stops : bytes_eq name (codes "STOP") ≡ false) (persists : bytes_eq name (codes "PMT.PERSIST") ≡ false) (orders : bytes_eq name (codes "PMT.ORDERED") ≡ false) where
  pub usual_by : (text : List ℕ) (fields : List (List ℕ)) → fields_of text ≡ name ∷ fields → IsUsual text index
  unfolding name_of record_of asserts_decimal
  usual_by text fields are =
      let named : first_field (fields_of text) ≡ name = ap first_field are in record {
        within = within;
        named = named ∙ known;
        says = ap (λ fs. says_event (saying_of_fields fs)) are ∙ gives fields;
        starts = ap (λ n. bytes_eq n (codes "START")) named ∙ starts;
        stops = ap (λ n. bytes_eq n (codes "STOP")) named ∙ stops;
        decimal = grind (arith, common_steps, named, persists, orders);
      }

  pub usual_more : (text : List ℕ) → NoFieldEnd name → starts_with nat_eq text (name ++ 59 ∷ []) ≡ true → IsUsual text index
  usual_more text one begins =
      let is = begins_with text (name ++ 59 ∷ []) begins in
      let rest = take (length text - length (name ++ 59 ∷ [])) (drop (length (name ++ 59 ∷ [])) text) in
      usual_by text (fields_of rest) (ap fields_of (is ∙ append_assoc name (59 ∷ []) rest) ∙ fields_of-more name rest one)

  pub usual_alone : (text : List ℕ) → NoFieldEnd name → text ≡ name → IsUsual text index
  usual_alone text one is = usual_by text [] (ap fields_of is ∙ fields_of-last name one)

-- what the span of an event's record comes to is an event, or refused
pub known_event : (kind : Extent → Event) (span : Result Extent Cause) → says_event (event_over kind span) ≡ true
known_event kind (Ok span) = refl
known_event kind (Err cause) = refl

happens_by : (reading : Result Saying Cause) → says_event reading ≡ true → ((cause : Cause) → reading ≡ Err cause → ⊥) → (event : Event) × (reading ≡ Ok (Happens event))
happens_by (Ok (Happens event)) is sound = (event, refl)
happens_by (Ok (Enters number)) is sound = absurd (false≢true is)
happens_by (Ok Skipped) is sound = absurd (false≢true is)
happens_by (Err cause) is sound = absurd (sound cause refl)

-- where it isn't refused, it gives an event
pub happens : (text : List ℕ) (index : ℕ) → IsUsual text index → ((cause : Cause) → record_of text ≡ Err cause → ⊥) → (event : Event) × (record_of text ≡ Ok (Happens event))
happens text index usual sound = happens_by (record_of text) usual.says sound

-- ---- a log without a fault

none_of_both : (first second : Option LogFault) → or_else first second ≡ None → (first ≡ None) × (second ≡ None)
none_of_both (Some fault) second none = let bad : Some fault ≡ None = none in cc
none_of_both None second none = (refl, none)

no_fault : (records : List (List ℕ)) (n k : ℕ) → k < n → first_fault_among records n ≡ None → refusal_at records k ≡ None
unfolding first_fault_among
no_fault records zero k within none = absurd (omega arith)
no_fault records (suc n) k within none =
    let parts = none_of_both (first_fault_among records n) (refusal_at records n) none in elim (cases_lt k n) [
      | inl before ↦ no_fault records n k before parts.0
      | inr last ↦ (let same : k ≡ n = omega (arith, within, last) in ap (refusal_at records) same ∙ parts.1)
    ]

faultless_by : (long : Bool) (shown all : Option LogFault) → (long ≡ true → shown ≡ None → ⊥) → cond long shown all ≡ None → all ≡ None
faultless_by true shown all bad none = absurd (bad refl none)
faultless_by false shown all bad none = none

too_long_one : (records : List (List ℕ)) (bytes : List ℕ) (limit : ℕ) → nat_lt limit (length bytes) ≡ true → too_long limit bytes records ≡ None → ⊥
unfolding too_long
too_long_one records bytes limit long none =
    let bad : Some (record { at = length records + 1; cause = TooLong }) ≡ None = sym (ap (λ b. cond b (Some (record { at = length records + 1; cause = TooLong })) None) long) ∙ none in cc

first_of : (bytes : List ℕ) → fault_of bytes ≡ None → first_fault (records_of bytes) ≡ None
unfolding fault_of fault_within shown_within
first_of bytes none = faultless_by (nat_lt LOG_LIMIT (length bytes)) (shown_within LOG_LIMIT bytes) (first_fault (records_of bytes))
    (λ long shown. too_long_one (ended_records (take LOG_LIMIT bytes)) bytes LOG_LIMIT long (none_of_both (first_fault (ended_records (take LOG_LIMIT bytes))) (too_long LOG_LIMIT bytes (ended_records (take LOG_LIMIT bytes))) shown).1) none

refused_by : (before : List (List ℕ)) (reading : Result Saying Cause) (cause : Cause) → reading ≡ Err cause → refusal_after before reading ≡ None → ⊥
unfolding refusal_after
refused_by before reading cause is none =
    let bad : fault_at (length before + 1) (Some cause) ≡ None = ap (λ r. fault_at (length before + 1) (cause_after (entered_of before) (length (events_in before (current_of before))) r)) (sym is) ∙ none in cc

at_front : (front : List (List ℕ)) (text : List ℕ) (rest : List (List ℕ)) → slice_index_or ((front ++ text ∷ []) ++ rest) (length front) [] ≡ text
at_front [] text rest = refl
at_front (other ∷ front) text rest = at_front front text rest

-- no record of it is refused
pub none_refused : (bytes : List ℕ) (start offset : ℕ) (text : List ℕ) (next : ℕ) → fault_of bytes ≡ None → IsNext bytes start offset text next → (cause : Cause) → record_of text ≡ Err cause → ⊥
unfolding first_fault refusal_at reading_at
none_refused bytes start offset text next none found cause is =
    let front = records_of (take start bytes) in
    let rest = records_of (take (length bytes - next) (drop next bytes)) in
    let whole : next + (length bytes - next) ≡ length bytes = omega (arith, found.within) in
    let all : records_of bytes ≡ (front ++ text ∷ []) ++ rest =
    sym (ap (λ n. records_of (take n bytes)) whole ∙ ap records_of (take_all (length bytes) bytes (omega arith))) ∙ found.anew.joins (length bytes - next) ∙ ap (λ rs. rs ++ rest) found.adds in
    let here : slice_index_or (records_of bytes) (length front) [] ≡ text = ap (λ rs. slice_index_or rs (length front) []) all ∙ at_front front text rest in
    let within : length front < length (records_of bytes) = omega (arith, ap (λ rs. length rs) all, length-append (front ++ text ∷ []) rest, length-append front (text ∷ [])) in
    refused_by (take (length front) (records_of bytes)) (record_of (slice_index_or (records_of bytes) (length front) [])) cause (ap record_of here ∙ is)
    (no_fault (records_of bytes) (length (records_of bytes)) (length front) within (first_of bytes none))
