-- Which section and event of a log are asked for, and why a log gives no answer. Defined here.
use Rattle.std.specs.Prelude.{◌≡◌, ◌≢◌, ℕ, ◌≤◌, List, ◌++◌, length, codes, Ok, Err, Contains, decimal}
use Rattle.pmf_event.specs.Section.{Trace}
use Rattle.pmf_storelog.specs.{FaultText.{text_of_fault}, LogText.{log_of, out_of_memory}, LogValue.{LogValue}}
use Rattle.pmf_request.specs.declared.settings.Sought.{Sought}
use Rattle.pmf_query.specs.declared.refusal.{EventFault.{EventFault}, EventRefusal.{EventRefusal}, LogRefusal.{LogRefusal}}
use Rattle.pmf_query.specs.declared.refusal.EventFault.TheVariants as fault
use Rattle.pmf_query.specs.declared.refusal.LogRefusal.TheVariants as refusal

-- the log has this section, of this number
abbrev pub IsSection : ℕ → LogValue → Trace → Type 0
IsSection number log section = Contains log.sections section × (section.name.number ≡ number)

-- the section has an event at this place
abbrev pub IsPlace : ℕ → Trace → Type 0
IsPlace place section = (1 ≤ place) × (place ≤ length section.events)

-- the log lacks the section, or else the section lacks the event
abbrev pub IsMissing : ℕ → ℕ → LogValue → EventFault → Type 0
IsMissing section event log fault.NoSection = (t : Trace) → IsSection section log t → ⊥
IsMissing section event log fault.NoEvent = (t : Trace) × IsSection section log t × (IsPlace event t → ⊥)
IsMissing section event log _ = ⊥

-- the bytes are a log without a fault, which has this event
abbrev pub HasEvent : ℕ → ℕ → ℕ → List ℕ → Type 0
HasEvent run section event bytes = (log : LogValue) × (t : Trace) × (log_of run bytes ≡ Ok log) × IsSection section log t × IsPlace event t

-- the fault is why the bytes give no answer: the log's own fault, want of memory aside, and else what it lacks; memory was wanted for an event that is there
abbrev pub IsEventFault : ℕ → ℕ → ℕ → List ℕ → EventFault → Type 0
IsEventFault run section event bytes (fault.Log found) = found ≢ out_of_memory → log_of run bytes ≡ Err found
IsEventFault run section event bytes fault.OutOfMemory = HasEvent run section event bytes
IsEventFault run section event bytes found = (log : LogValue) × (log_of run bytes ≡ Ok log) × IsMissing section event log found

-- the same, told with the event that is sought
abbrev pub IsEventRefusal : Sought → List ℕ → EventRefusal → Type 0
IsEventRefusal sought bytes found = (found.sought ≡ sought) × IsEventFault sought.run sought.section sought.event bytes found.fault

-- the fault is the log's own, want of memory aside; or memory was wanted for an answer of a log without a fault
abbrev pub IsLogRefusal : ℕ → List ℕ → LogRefusal → Type 0
IsLogRefusal run bytes (refusal.Log found) = found ≢ out_of_memory → log_of run bytes ≡ Err found
IsLogRefusal run bytes refusal.OutOfMemory = (log : LogValue) × (log_of run bytes ≡ Ok log)

-- `no section R.N`, and `no event K in section R.N`
abbrev pub no_section : ℕ → ℕ → List ℕ
no_section run section = codes "no section " ++ decimal run ++ codes "." ++ decimal section

abbrev pub no_event : ℕ → ℕ → ℕ → List ℕ
no_event run section event = codes "no event " ++ decimal event ++ codes " in section " ++ decimal run ++ codes "." ++ decimal section

-- the text of a refusal of this event
abbrev pub text_of_refusal : Sought → EventFault → List ℕ
text_of_refusal sought (fault.Log found) = text_of_fault found
text_of_refusal sought fault.NoSection = no_section sought.run sought.section
text_of_refusal sought fault.NoEvent = no_event sought.run sought.section sought.event
text_of_refusal sought fault.OutOfMemory = codes "out of memory"
