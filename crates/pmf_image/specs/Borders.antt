-- Bytes that are alike: nothing that a certificate is asked of a byte tells them apart. Defined here.
use Rattle.std.specs.{Prelude.{◌≡◌, ℕ, List, Some, nat_eq}, Option.{option_eq}}
use Rattle.pmf_event.specs.{declared.event.Event.{Event}, Line.{line_of_byte}, Store.{at, stores, stores_line, flushes}, Exclusion.{excludes, marks}}
use Rattle.pmf_image.specs.declared.certificate.Certificate.{Certificate}

-- the event at place k, if there is one, covers both bytes or neither, and meets the lines of both or of
-- neither
pub record AlikeAt (es : List Event) (b x k : ℕ) : Type 0 where
  pub stored : at (stores b) es k ≡ at (stores x) es k
  pub line_stored : at (stores_line (line_of_byte b)) es k ≡ at (stores_line (line_of_byte x)) es k
  pub flushed : at (flushes (line_of_byte b)) es k ≡ at (flushes (line_of_byte x)) es k
  pub excluded : at (excludes b) es k ≡ at (excludes x) es k
  pub marked : at (marks b) es k ≡ at (marks x) es k

-- the two bytes are alike at every place, and to the certificate: both lie on its full line, or neither
pub record Alike (es : List Event) (c : Certificate) (b x : ℕ) : Type 0 where
  pub places : (k : ℕ) → AlikeAt es b x k
  pub full_line : option_eq nat_eq c.full_line (Some (line_of_byte b)) ≡ option_eq nat_eq c.full_line (Some (line_of_byte x))
