-- The places at which walks look for what is asked. No public clause cites this.
use Rattle.std.specs.{Prelude.{ℕ, ◌-◌, min, List, length, Some, nat_eq, if◌then◌else◌}, Option.{option_eq}}
use Rattle.pmf_event.specs.{declared.event.Event.{Event}, Line.{line_of_byte}}
use Rattle.pmf_images.specs.{declared.showing.Asked.{Asked}, Walks.{last_fence, last_flush}}

-- the place at which its last store is looked for
abbrev pub place_of : List Event → Asked → ℕ
place_of es a = min a.place (length es)

-- the crash
abbrev pub crash_of : List Event → Asked → ℕ
crash_of es a = min a.certificate.crash (length es)

-- the last fence up to the crash
abbrev pub fence_of : List Event → Asked → ℕ
fence_of es a = last_fence es (crash_of es a) a.byte

-- the last write-back of its line that this fence follows
abbrev pub flush_of : List Event → Asked → ℕ
flush_of es a = last_flush es (fence_of es a) a.byte

-- the place up to which the image holds the stores of its line
abbrev pub horizon_of : List Event → Asked → ℕ
horizon_of es a = if option_eq nat_eq a.certificate.full_line (Some (line_of_byte a.byte)) then crash_of es a else flush_of es a - 1
