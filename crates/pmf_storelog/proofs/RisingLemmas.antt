-- The numbers of a log's sections rise, and are at most as many as it may have.
use Rattle.std.proofs.{Common.{◌≡◌, ℕ, zero, suc, ◌+◌, ◌≤◌, List, [], ◌++◌, length, map, take, drop, refl, sym, ◌∙◌, ap, subst, arith, inl, Option, None, Result, Ok, ◌⊎◌, length-take-le, take-append-drop, lt-ltb, le-ltb}, lemmas.Bool.{cases_lt}, lemmas.List.{map-id}, lemmas.Simd.{map-map}, lemmas.Grind.{common_steps}}
use Rattle.pmf_event.specs.{declared.name.Name.{Name}, Section.{Trace}}
use Rattle.pmf_storelog.{specs.declared.fault.Cause.{Cause}, specs.declared.fault.LogFault.{LogFault}, specs.declared.fault.TheConstants.{SECTION_LIMIT}, specs.declared.record.Saying.{Saying}, specs.LogText.{cause_after, current_at, current_of, entered, entered_among, entered_of, events_in, fault_at, fault_of, fault_within, first_fault, first_fault_among, log_of, number_after, numbers_of, or_else, reading_at, refusal_after, refusal_at, sections_of, shown_within, too_long, value_of}, specs.LogValue.{LogValue}, specs.Separators.{records_of}, specs.Rising.{Rises, in_order}, specs.Laws.{SectionNumbersRise}, proofs.InOrderLemmas.{Has, has-insert, insert-present, in_order-rises}, proofs.LogLemmas.{entered_among-append, in_order-entered, numbers_with}}

-- at most as many numbers of sections as a log may have, and the current one among them if there is one
record IsOpen (numbers : List ℕ) (current : ℕ) : Type 0 where
  few : length numbers ≤ SECTION_LIMIT
  here : ((numbers ≡ []) × (current ≡ 0)) ⊎ Has current numbers

open-with : (reading : Result Saying Cause) (before : List ℕ) (current events at : ℕ) → fault_at at (cause_after before events reading) ≡ None → IsOpen (in_order before) current →
    IsOpen (numbers_with reading current (in_order before)) (number_after reading current)
open-with reading before current events at is opened = grind (arith, common_steps, insert-present, in_order-rises, cases_lt, lt-ltb, has-insert)

open-step : (reading : Result Saying Cause) (before : List ℕ) (current events at : ℕ) → fault_at at (cause_after before events reading) ≡ None → IsOpen (in_order before) current →
    IsOpen (in_order (before ++ entered current reading)) (number_after reading current)
open-step reading before current events at is opened =
    subst (λ ns. IsOpen ns (number_after reading current)) (sym (in_order-entered reading current before)) (open-with reading before current events at is opened)

no_fault : (first later : Option LogFault) → or_else first later ≡ None → (first ≡ None) × (later ≡ None)
no_fault first later is = grind (arith, common_steps)

module _ (records : List (List ℕ)) where
  -- the sections that the first k records are of are those of these records alone
  entered_before : (k : ℕ) → k ≤ length records → entered_of (take k records) ≡ entered_among records k
  unfolding entered_of
  entered_before k within =
      let long : length (take k records) ≡ k = length-take-le k records within in ap (entered_among (take k records)) long
      ∙ sym (entered_among-append (take k records) (drop k records) k (omega (arith, long))) ∙ ap (λ rs. entered_among rs k) (take-append-drop k records)

  opens : (k : ℕ) → k ≤ length records → first_fault_among records k ≡ None → IsOpen (in_order (entered_among records k)) (current_at records k)
  unfolding entered_among current_at first_fault_among refusal_at refusal_after
  opens zero within is = record { few = omega arith; here = inl (refl, refl) }
  opens (suc k) within is =
      let both = no_fault (first_fault_among records k) (refusal_at records k) is in let before = opens k (omega (arith, within)) both.0 in
      let same = entered_before k (omega (arith, within)) in
      open-step (reading_at records k) (entered_among records k) (current_at records k) (length (events_in (take k records) (current_of (take k records)))) (length (take k records) + 1)
      (subst (λ ns. fault_at (length (take k records) + 1) (cause_after ns (length (events_in (take k records) (current_of (take k records)))) (reading_at records k)) ≡ None) same both.1)
      before

-- the name of the section with this number
abbrev pub name_in : ℕ → ℕ → Name
name_in run number = record { run = run; number = number }

-- no fault: within the limit, and none of any record
faultless : (bytes : List ℕ) → fault_of bytes ≡ None → first_fault (records_of bytes) ≡ None
unfolding fault_of fault_within shown_within too_long
faultless bytes is = grind (arith, common_steps, cases_lt, no_fault, lt-ltb, le-ltb)

-- the sections of a log: numbers that rise, at most as many as a log may have
pub numbers_rise : (run : ℕ) (bytes : List ℕ) (log : LogValue) → log_of run bytes ≡ Ok log →
    (numbers : List ℕ) × Rises numbers × (length numbers ≤ SECTION_LIMIT) × (map (λ (s : Trace). s.name) log.sections ≡ map (name_in run) numbers)
unfolding log_of value_of sections_of numbers_of entered_of first_fault
numbers_rise run bytes log is = grind (arith, common_steps, opens, faultless, in_order-rises, map-map)

pub sections_rise : SectionNumbersRise
sections_rise run bytes log is =
    let named = numbers_rise run bytes log is in let numbers : map (λ (s : Trace). s.name.number) log.sections ≡ named.0 =
    sym (map-map (λ (n : Name). n.number) (λ (s : Trace). s.name) log.sections) ∙ ap (map (λ (n : Name). n.number)) named.3 ∙ map-map (λ (n : Name). n.number) (name_in run) named.0 ∙ map-id named.0 in
    subst Rises (sym numbers) named.1
