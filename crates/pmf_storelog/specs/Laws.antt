-- Laws of the numbers of a log's sections, which the empty public functions prove.
use Rattle.std.specs.Prelude.{◌≡◌, ◌↔◌, ℕ, List, map, Contains, Ok}
use Rattle.pmf_event.specs.Section.{Trace}
use Rattle.pmf_storelog.specs.{Rising.{Rises, in_order}, LogText.{log_of}, LogValue.{LogValue}}

-- the numbers of the sections that a log without a fault says rise: each is below all that follow
abbrev pub SectionNumbersRise : Type 0
SectionNumbersRise = (run : ℕ) (bytes : List ℕ) (log : LogValue) → log_of run bytes ≡ Ok log →
    Rises (map (λ (s : Trace). s.name.number) log.sections)

-- the numbers of a list in order rise, and are exactly those of the list
abbrev pub InOrderIsTheSetInOrder : Type 0
InOrderIsTheSetInOrder = (ns : List ℕ) → Rises (in_order ns) × ((n : ℕ) → Contains (in_order ns) n ↔ Contains ns n)
