-- What the texts say that a log is cut into. Defined here.
use Rattle.std.specs.Prelude.{◌≡◌, ◌≢◌, ◌⊎◌, ℕ, suc, ◌+◌, ◌-◌, ◌<◌, ◌≤◌, List, [], ◌∷◌, ◌++◌, length, take, drop, Option, Some, None}
use Rattle.pmf_event.specs.{declared.event.Event.{Event}, declared.event.Event.TheVariants.{Ordered}, Span.{Extent}, Store.{event_at}}
use Rattle.pmf_storelog.specs.{Separators.{records_of}, LogText.{events_in}}
use Rattle.pmf_cut.specs.{Alike.{IsCut}, Laws.{KnowsPairs}, Parts.{part_of}}

-- a part of a section as it is written: it goes on behind the first events of the section, with this head, in this file and under this number
pub record WrittenPart : Type 0 where
  pub first : ℕ
  pub head : List Event
  pub file : ℕ
  pub number : ℕ

-- the events that a text says of the section with this number
abbrev pub said_in : List ℕ → ℕ → List Event
said_in text number = events_in (records_of text) number

-- of what each file says of each number: the part's file says under its number the head, and the section's events behind its first ones up to a
-- last one; no other file says any; and whatever follows in the section, it is cut there, and the head is one (IsCut)
pub record IsWritten (said : ℕ → ℕ → List Event) (es : List Event) (part : WrittenPart) (last : ℕ) : Type 0 where
  pub within : part.first ≤ last
  pub here : said part.file part.number ≡ part.head ++ take (last - part.first) (drop part.first es)
  pub elsewhere : (file : ℕ) → file ≢ part.file → said file part.number ≡ []
  pub cut : (rest : List Event) → IsCut (es ++ rest) part.first (part_of (es ++ rest) part.first part.head) (length part.head)

-- the parts, the last one first, are the section up to an event: each goes up to where the next one begins
abbrev pub AreUpTo : (ℕ → ℕ → List Event) → List Event → List WrittenPart → ℕ → Type 0
AreUpTo said es [] last = last ≡ 0
AreUpTo said es (part ∷ before) last = IsWritten said es part last × AreUpTo said es before part.first

-- the first part has the section's number, and each other one a number that is above that of the one before it by the step
abbrev pub AreNumbered : ℕ → ℕ → List WrittenPart → Type 0
AreNumbered step number [] = Unit {0}
AreNumbered step number (part ∷ []) = part.number ≡ number
AreNumbered step number (part ∷ last ∷ before) = (part.number ≡ last.number + step) × AreNumbered step number (last ∷ before)

-- each part's number is one of this section
abbrev pub AreOf : (ℕ → Option ℕ) → ℕ → List WrittenPart → Type 0
AreOf section number [] = Unit {0}
AreOf section number (part ∷ before) = (section part.number ≡ Some number) × AreOf section number before

-- one of the parts has the number
abbrev pub IsAmong : ℕ → List WrittenPart → Type 0
IsAmong number [] = ⊥
IsAmong number (part ∷ before) = (part.number ≡ number) ⊎ IsAmong number before

-- none of the parts has it
abbrev pub NoneNamed : ℕ → List WrittenPart → Type 0
NoneNamed number [] = Unit {0}
NoneNamed number (part ∷ before) = (part.number ≢ number) × NoneNamed number before

-- of each order assertion behind the part's head, and up to a last event, the part knows the pairs: what is found of it stays
abbrev pub KnowsOrders : List Event → WrittenPart → ℕ → Type 0
KnowsOrders es part last = (n : ℕ) (a b : Extent) → part.first + n < last → event_at es (suc (part.first + n)) ≡ Some (Ordered a b) →
    KnowsPairs es part.first (suc (part.first + n)) (part_of es part.first part.head) (suc (length part.head + n)) a b

-- the same of the parts, the last one first, each up to where the next one begins
abbrev pub AllKnow : List Event → List WrittenPart → ℕ → Type 0
AllKnow es [] last = Unit {0}
AllKnow es (part ∷ before) last = KnowsOrders es part last × AllKnow es before part.first

-- the log is cut into these texts, one for each file: of each section there are parts, which are the whole section, and whose numbers are of
-- no other section; no text says anything but these parts; and where nothing was told, none of them loses what an order assertion finds
pub record IsCutInto (step : ℕ) (log : List ℕ) (texts : ℕ → List ℕ) (told : ℕ) : Type 0 where
  pub parts : ℕ → List WrittenPart
  pub section : ℕ → Option ℕ
  pub whole : (number : ℕ) → AreUpTo (λ file. said_in (texts file)) (said_in log number) (parts number) (length (said_in log number))
  pub numbered : (number : ℕ) → AreNumbered step number (parts number)
  pub of_it : (number : ℕ) → AreOf section number (parts number)
  pub among : (name number : ℕ) → section name ≡ Some number → IsAmong name (parts number)
  pub nothing_else : (name : ℕ) → section name ≡ None → (file : ℕ) → said_in (texts file) name ≡ []
  pub orders : told ≡ 0 → (number : ℕ) → AllKnow (said_in log number) (parts number) (length (said_in log number))
