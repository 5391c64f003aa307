-- The records of the canonical text of a section, and its length.
use Rattle.std.{proofs.Common.{◌≡◌, ℕ, ◌*◌, ◌^◌, ◌<◌, ◌≤◌, List, [], ◌∷◌, ◌++◌, length, map, All, refl, ap, ◌∙◌, arith, length-append, flat_map, codes}, specs.Prelude.{⊤}, proofs.lemmas.Grind.{common_steps}}
use Rattle.pmf_event.specs.{declared.event.Event.{Event}, Section.{Trace}, Span.{Extent, IsValidExtent}}
use Rattle.pmf_storelog.{specs.Separators.{records_of}, specs.Canonical.{field_of, fields_of_span, fields_of_event, name_of, line_of_event, line_of_marker, canonical_text}, specs.Spelling.{AllValid}, proofs.CanonicalLemmas.{fits_of, hex-length}, proofs.PlainRecordLemmas.{IsPlain, text_of_lines, records_of-lines}, proofs.PlainLemmas.{spelled, text_of_event, text_of_event-plain, text_of_marker, text_of_marker-plain}}

-- the spans of each event keep the limits
abbrev pub EachValid : List Event → Type 0
EachValid [] = ⊤
EachValid (event ∷ events) = AllValid event × EachValid events

-- the records that the canonical text is to have
abbrev pub canonical_records : Trace → List (List ℕ)
canonical_records section = text_of_marker section.name.number ∷ map text_of_event section.events

lines_of_events : (events : List Event) → flat_map line_of_event events ≡ text_of_lines (map text_of_event events)
lines_of_events [] = refl
lines_of_events (event ∷ events) = ap (λ rest. line_of_event event ++ rest) (lines_of_events events)

-- the canonical text is those lines
canonical_lines : (section : Trace) → canonical_text section ≡ text_of_lines (canonical_records section)
unfolding line_of_marker text_of_marker
canonical_lines section = ap (λ rest. line_of_marker section.name.number ++ rest) (lines_of_events section.events)

plain_events : (events : List Event) → EachValid events → All IsPlain (map text_of_event events)
plain_events [] fit = grind (arith, common_steps)
plain_events (event ∷ events) fit = grind (arith, common_steps, text_of_event-plain, plain_events events fit.1)

plain_section : (section : Trace) → section.name.number < 2 ^ 64 → EachValid section.events → All IsPlain (canonical_records section)
plain_section section small fit = grind (arith, common_steps, text_of_marker-plain, plain_events)

-- what is written reads as these records
pub records_of-canonical : (section : Trace) → section.name.number < 2 ^ 64 → EachValid section.events → records_of (canonical_text section) ≡ canonical_records section
records_of-canonical section small fit = ap records_of (canonical_lines section) ∙ records_of-lines (canonical_records section) (plain_section section small fit)

-- the length of what is written
field-length : (n : ℕ) → n < 2 ^ 64 → length (field_of n) ≤ 19
unfolding field_of
field-length n small = omega (arith, hex-length n small)

span-length : (s : Extent) → IsValidExtent s.first s.size → length (fields_of_span s) ≤ 38
unfolding fields_of_span
span-length s valid = grind (arith, common_steps, fits_of, field-length, length-append)

fields-length : (event : Event) → AllValid event → length (fields_of_event event) ≤ 76
unfolding fields_of_event
fields-length event fit = grind (arith, common_steps, fits_of, field-length, length-append, span-length)

pub line-length : (event : Event) → AllValid event → length (line_of_event event) ≤ 91
line-length event fit =
    omega (arith, (spelled event).1.1.1, fields-length event fit, length-append (name_of event) (fields_of_event event), length-append (name_of event ++ fields_of_event event) (codes "\n"))

lines-length : (events : List Event) → EachValid events → length (flat_map line_of_event events) ≤ 91 * length events
lines-length [] fit = omega arith
lines-length (event ∷ events) fit = omega (arith, line-length event fit.0, lines-length events fit.1, length-append (line_of_event event) (flat_map line_of_event events))

-- a section that keeps to its limit is a log that keeps to its own
pub canonical-length : (section : Trace) → section.name.number < 2 ^ 64 → EachValid section.events → length section.events ≤ 1048576 → length (canonical_text section) ≤ 268435456
unfolding line_of_marker
canonical-length section small fit few = grind (arith, common_steps, field-length, lines-length, length-append)
