-- What a persist assertion looks at. A law, which an empty public function proves.
use Rattle.std.specs.Prelude.{◌≡◌, ℕ, Bool, ◌||◌, List, take, is_some}
use Rattle.std.specs.List.{filter}
use Rattle.pmf_event.specs.{declared.event.Event.{Event}, Span.{Extent}, Line.{line_of_byte}, Ranges.{first_byte}, Store.{flushes, is_fence}, Persist.{persist_finding}}
use Rattle.pmf_verdict.specs.Staying.{touches}

-- whether the event is a fence, a write-back of the byte's line, or touches the byte
unfoldable pub concerns : ℕ → Event → Bool
concerns b e = is_fence e || (flushes (line_of_byte b) e || touches b e)

-- whether it concerns a byte of the span
abbrev pub concerns_span : Extent → Event → Bool
concerns_span s e = is_some (first_byte (λ b. concerns b e) s)

-- a persist assertion finds the same at two places, of two lists, where the events up to there that concern its span are the same
abbrev pub PersistIsLocal : Type 0
PersistIsLocal = (es fs : List Event) (p q : ℕ) (s : Extent) →
    filter (concerns_span s) (take p es) ≡ filter (concerns_span s) (take q fs) → persist_finding es p s ≡ persist_finding fs q s
