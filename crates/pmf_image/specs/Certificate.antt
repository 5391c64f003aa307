-- A certificate names one crash image: a crash place, and at most one line that is there in full. Defined
-- here.
use Rattle.std.specs.Prelude.{◌≡◌, ℕ, ◌≤◌, ◌%◌, List, [], ◌∷◌, Option, None, Some, length}
use Rattle.pmf_event.specs.declared.{event.Event.{Event}, span.TheConstants.{LINE_SIZE}}
use Rattle.pmf_image.specs.{declared.certificate.Certificate.{Certificate}, Image.{Image, count_of, cut_of, shows}}

-- the cut of the full line is its count
abbrev pub full_cuts : List Event → ℕ → Option ℕ → List (ℕ × ℕ)
full_cuts es n None = []
full_cuts es n (Some line) = (line, count_of es n line) ∷ []

-- the image of a certificate: the cut of its full line is that line's count, every other line's is its
-- floor, and nothing is torn
abbrev pub image_of : List Event → Certificate → Image
image_of es c = record { cuts = full_cuts es c.crash c.full_line; torn = [] }

-- how many stores of the line the certificate's image holds
abbrev pub cut_in : List Event → Certificate → ℕ → ℕ
cut_in es c line = cut_of es c.crash (image_of es c) line

-- what byte b shows in the certificate's image: the place of a store, or 0
abbrev pub shows_in : List Event → Certificate → ℕ → ℕ
shows_in es c b = shows es c.crash (image_of es c) b

-- whether the number is a line's address
abbrev pub IsLine : ℕ → Type 0
IsLine line = line % LINE_SIZE ≡ 0

-- the certificate speaks of these events: its crash is at one of their places or at the start, and its
-- full line is a line
pub record Fits (es : List Event) (c : Certificate) : Type 0 where
  pub crash : c.crash ≤ length es
  pub full_line : (line : ℕ) → c.full_line ≡ Some line → IsLine line
