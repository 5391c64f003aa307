-- What the walks tell of a byte after p events. No public clause cites this.
use Rattle.std.specs.Prelude.{ℕ, List}
use Rattle.pmf_event.specs.{declared.event.Event.{Event}, Line.{line_of_byte}, Store.{flushes, is_fence, last}}
use Rattle.pmf_image.specs.Image.{count_of}

-- the last fence
abbrev pub last_fence : List Event → ℕ → ℕ → ℕ
last_fence es p b = last is_fence es p

-- the last write-back of its line
abbrev pub last_flush : List Event → ℕ → ℕ → ℕ
last_flush es p b = last (flushes (line_of_byte b)) es p

-- how many stores its line has
abbrev pub count_at : List Event → ℕ → ℕ → ℕ
count_at es p b = count_of es p (line_of_byte b)
