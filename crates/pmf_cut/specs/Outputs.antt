-- What is put into the files that a log is cut into, and what is handed out of it. Defined here.
use Rattle.std.specs.Prelude.{◌≡◌, ◌≢◌, ◌⊎◌, ℕ, suc, ◌<◌, ◌==◌, Bool, true, false, List, [], ◌∷◌, ◌++◌, length, Contains, slice_get, Option, Some, None, Ok, if◌then◌else◌}
use Rattle.pmf_event.specs.declared.event.Event.{Event}
use Rattle.pmf_storelog.specs.{declared.record.Saying.{Saying}, Records.{record_of}, Separators.{parts_of, ended_parts, records_in, records_of}, LogText.{current_of}}
use Rattle.pmf_cut.specs.{declared.output.Output.{Output}, declared.output.Outputs.{Outputs}, declared.output.Text.{Text}, Written.{said_in}}

-- what is to be written to a file, and the number that is current in it
abbrev pub text_of_output : Option Output → List ℕ
text_of_output None = []
text_of_output (Some output) = output.text.items

abbrev pub current_of_output : Option Output → ℕ
current_of_output None = 0
current_of_output (Some output) = output.current

abbrev pub waiting_in : Outputs → ℕ → List ℕ
waiting_in outputs file = text_of_output (slice_get outputs.files.items file)

abbrev pub current_in : Outputs → ℕ → ℕ
current_in outputs file = current_of_output (slice_get outputs.files.items file)

-- each file to which something is to be written is one of those that wait
abbrev pub AllWait : Outputs → Type 0
AllWait outputs = (file : ℕ) → 0 < length (waiting_in outputs file) → Contains outputs.waiting.items file

-- in each file the same is to be written, and the same number is current
pub record IsSameText (old new : Outputs) : Type 0 where
  pub texts : (file : ℕ) → waiting_in new file ≡ waiting_in old file
  pub currents : (file : ℕ) → current_in new file ≡ current_in old file
  pub waits : AllWait old → AllWait new

-- one file, with nothing to be written
pub record IsNew (outputs : Outputs) : Type 0 where
  pub texts : (file : ℕ) → waiting_in outputs file ≡ []
  pub currents : (file : ℕ) → current_in outputs file ≡ 0

-- the next file begins
pub record Begins (old new : Outputs) : Type 0 where
  pub same : IsSameText old new
  pub count : length new.files.items ≡ suc (length old.files.items)

-- the bytes go to the file, in which this number is current then
pub record IsPut (old new : Outputs) (file : ℕ) (bytes : List ℕ) (current : ℕ) : Type 0 where
  pub here : waiting_in new file ≡ waiting_in old file ++ bytes
  pub its : current_in new file ≡ current
  pub others : (other : ℕ) → other ≢ file → (waiting_in new other ≡ waiting_in old other) × (current_in new other ≡ current_in old other)
  pub count : length new.files.items ≡ length old.files.items
  pub waits : AllWait old → AllWait new

-- the same, where there is such a file
abbrev pub Puts : Outputs → Outputs → ℕ → List ℕ → ℕ → Type 0
Puts old new file bytes current = file < length old.files.items → IsPut old new file bytes current

-- what stands behind the last separator of a part that a separator ends, or does not end
abbrev pub behind_part : Bool → List (List ℕ)
behind_part true = [] ∷ []
behind_part false = []

-- the bytes are one part of a log's text, which is ended by a separator or not, and are these records, of which there is one at most
pub record Holds (ends : Bool) (bytes : List ℕ) (records : List (List ℕ)) : Type 0 where
  pub part : List ℕ
  pub parts : parts_of bytes ≡ part ∷ behind_part ends
  pub records_are : records_in (part ∷ []) ≡ records

-- the bytes are a record that says this, with a separator behind it
pub record Spells (bytes : List ℕ) (saying : Saying) : Type 0 where
  pub text : List ℕ
  pub holds : Holds true bytes (text ∷ [])
  pub says : record_of text ≡ Ok saying

-- the text is ended, where it is to be, and this number is current behind it
pub record IsOpen (ends : Bool) (text : List ℕ) (current : ℕ) : Type 0 where
  pub ended : ends ≡ true → parts_of text ≡ ended_parts text ++ [] ∷ []
  pub current_is : current_of (records_of text) ≡ current

-- what a file has, of which this was handed out
abbrev pub text_of : (ℕ → List ℕ) → Outputs → ℕ → List ℕ
text_of handed outputs file = handed file ++ waiting_in outputs file

-- each file is so
abbrev pub AllOpen : Bool → (ℕ → List ℕ) → Outputs → Type 0
AllOpen ends handed outputs = (file : ℕ) → IsOpen ends (text_of handed outputs file) (current_in outputs file)

-- the events that a file says of a number
abbrev pub said : (ℕ → List ℕ) → Outputs → ℕ → ℕ → List Event
said handed outputs file number = said_in (text_of handed outputs file) number

-- of what was handed out before: the file says these events more of the number, which is current in it then, and nothing else is said
pub record IsSaid (ends : Bool) (handed : ℕ → List ℕ) (file number : ℕ) (events : List Event) (old new : Outputs) : Type 0 where
  pub opened : AllOpen ends handed new
  pub here : said handed new file number ≡ said handed old file number ++ events
  pub others : (other name : ℕ) → (other ≢ file) ⊎ (name ≢ number) → said handed new other name ≡ said handed old other name
  pub current_is : current_in new file ≡ number
  pub count : length new.files.items ≡ length old.files.items
  pub waits : AllWait old → AllWait new

-- the same of whatever was handed out, where there is such a file
abbrev pub Says : Bool → ℕ → ℕ → List Event → Outputs → Outputs → Type 0
Says ends file number events old new = (handed : ℕ → List ℕ) → file < length old.files.items → AllOpen true handed old → IsSaid ends handed file number events old new

-- what the texts have for a file
abbrev pub bytes_for : List Text → ℕ → List ℕ
bytes_for [] file = []
bytes_for (text ∷ texts) file = (if text.file == file then text.bytes.items else []) ++ bytes_for texts file

-- the texts are handed out, and nothing is left to be written
pub record HandsOut (old : Outputs) (texts : List Text) (new : Outputs) : Type 0 where
  pub kept : (file : ℕ) → bytes_for texts file ++ waiting_in new file ≡ waiting_in old file
  pub none_left : AllWait old → (file : ℕ) → waiting_in new file ≡ []
  pub currents : (file : ℕ) → current_in new file ≡ current_in old file
  pub count : length new.files.items ≡ length old.files.items
