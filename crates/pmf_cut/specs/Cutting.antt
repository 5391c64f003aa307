-- What a cutter in mid-log stands for. Defined here.
use Rattle.std.specs.{Prelude.{◌≡◌, ◌≢◌, ℕ, ◌<◌, ◌≤◌, Bool, true, List, [], ◌∷◌, ◌++◌, ◌-◌, ◌+◌, length, sum_by, take, set, slice_get, Option, Some, None, Ok}, Ordering.{nat_cmp}, BTreeMap.{get}}
use Rattle.pmf_event.specs.declared.{event.Event.{Event}, event.Event.TheVariants.{Ordered}}
use Rattle.pmf_storelog.specs.{declared.record.Saying.{Saying}, declared.record.Saying.TheVariants.{Skipped}, Records.{record_of}, Separators.{parts_of, ended_parts, records_in, records_of}, LogText.{events_in, current_of}}
use Rattle.pmf_cut.specs.{declared.cutter.Cutter.{Cutter}, declared.section.Cutting.{Cutting}, declared.section.NextPart.{NextPart}, declared.part.Part.{Part}, declared.deferred.Deferred.{Deferred}, Deferred.{IsUpTo, Begins, StaysUpTo, GoesOnUpTo, BeginsBehind}, Laws.{KnowsPairs}, Lost.{Adds, HasStored}, Parts.{part_of}, Written.{WrittenPart, AllKnow, AreUpTo, AreNumbered, AreOf, IsAmong, IsCutInto, NoneNamed}, declared.output.Outputs.{Outputs}, declared.output.Text.{Text}, Outputs.{AllOpen, AllWait, Holds, IsSameText, Says, behind_part, bytes_for, said, text_of}}

-- the section has this part, under this name and in this file
pub record HasPart (section : Cutting) (number name file : ℕ) (part : Deferred) : Type 0 where
  pub number_is : section.number ≡ number
  pub name_is : section.name ≡ name
  pub file_is : section.file ≡ file
  pub part_is : section.part ≡ part

-- what it knows of the parts before this one, and how long the part's head is, is as it was
pub record SamePast (old new : Cutting) : Type 0 where
  pub past : new.past ≡ old.past
  pub head : new.head ≡ old.head

-- the section is as it was, but for when a cut is looked for
pub record IsSame (old new : Cutting) : Type 0 where
  pub same : HasPart new old.number old.name old.file old.part
  pub before : SamePast old new
  pub lost : new.lost ≡ old.lost

-- the same, but for which events of its part wait
pub record IsKept (old new : Cutting) : Type 0 where
  pub same : HasPart new old.number old.name old.file new.part
  pub stays : StaysUpTo old.part new.part
  pub before : SamePast old new
  pub lost : new.lost ≡ old.lost

-- this is the section's part of the whole, from its cut at p on, with this head: its past has what was stored to in front of the cut, and
-- there is one unless it is the first part
pub record HasPast (section : Cutting) (es : List Event) (p : ℕ) (head : List Event) : Type 0 where
  pub stored : HasStored section.past es p
  pub first : section.past.last ≡ None → p ≡ 0
  pub head_is : section.head ≡ length head

-- where the event that happens next is an order assertion, the part knows the pairs
abbrev pub KnowsNext : Cutting → Event → Type 0
KnowsNext section (Ordered a b) = (es : List Event) (p : ℕ) (head : List Event) (n : ℕ) → IsUpTo section.part es p head n → HasPast section es p head →
    KnowsPairs es p n (part_of es p head) (length head + (n - p)) a b
KnowsNext section _ = Unit {0}

-- where no more is told than was, nothing was told, and the part knows the pairs of the event that happens next
abbrev pub TellsLost : Cutting → Cutting → Event → Type 0
TellsLost old new event = new.lost ≡ 0 → (old.lost ≡ 0) × KnowsNext old event

-- the section's part has one event more
pub record TakesEvent (old new : Cutting) (event : Event) : Type 0 where
  pub same : HasPart new old.number old.name old.file new.part
  pub goes_on : GoesOnUpTo old.part new.part event
  pub before : SamePast old new
  pub lost : TellsLost old new event

-- the part goes on behind the section's part, of which no event waits, with this head
pub record BeginsNext (section : Cutting) (next : NextPart) : Type 0 where
  pub behind : BeginsBehind section.part next.part next.head.items
  pub none_waits : section.part.waiting.items ≡ []

-- the section goes on with this part, under this name and in this file, and the part that ends is one of the past
pub record GoesOnAs (old new : Cutting) (name file : ℕ) (part : Part) : Type 0 where
  pub same : HasPart new old.number name file new.part
  pub begins : Begins part new.part
  pub adds : Adds old.past new.past old.part.part
  pub last : new.past.last ≡ Some old.part.part
  pub head : new.head ≡ part.events
  pub lost : new.lost ≡ old.lost

-- the parts are the section up to its last event, and it goes on with the last one of them, whatever follows
pub record HasSection (says : ℕ → ℕ → List Event) (files step : ℕ) (es : List Event) (parts : List WrittenPart) (section : Cutting) : Type 0 where
  pub last : WrittenPart
  pub before : List WrittenPart
  pub parts_are : parts ≡ last ∷ before
  pub name_is : last.number ≡ section.name
  pub file_is : last.file ≡ section.file
  pub there : section.file < files
  pub once : NoneNamed section.name before
  pub numbered : AreNumbered step section.number (last ∷ before)
  pub up_to : AreUpTo says es (last ∷ before) (length es)
  pub goes_on : (rest : List Event) → IsUpTo section.part (es ++ rest) last.first last.head (length es)
  pub past : (rest : List Event) → HasPast section (es ++ rest) last.first last.head
  pub orders : section.lost ≡ 0 → (rest : List Event) → AllKnow (es ++ rest) (last ∷ before) (length es)

-- what is current in what was read
abbrev pub IsCurrent : (ℕ → Option ℕ) → ℕ → Option ℕ → Type 0
IsCurrent places number None = number ≡ 0
IsCurrent places number (Some place) = places number ≡ Some place

-- the section of the number stands at the place, and has these events and parts
pub record IsPlaced (says : ℕ → ℕ → List Event) (files step : ℕ) (sections : List Cutting) (number place : ℕ) (es : List Event) (parts : List WrittenPart) : Type 0 where
  pub section : Cutting
  pub at : slice_get sections place ≡ Some section
  pub number_is : section.number ≡ number
  pub has : HasSection says files step es parts section

-- of these records each section that has a place has parts, and each other one nothing; and what was handed out of the files, and waits,
-- says these parts and nothing else
pub record HasCut (ends : Bool) (step : ℕ) (records : List (List ℕ)) (handed : ℕ → List ℕ) (current : Option ℕ) (places names : ℕ → Option ℕ) (sections : List Cutting) (outputs : Outputs) : Type 0 where
  pub parts : ℕ → List WrittenPart
  pub current_is : IsCurrent places (current_of records) current
  pub placed : (number place : ℕ) → places number ≡ Some place → IsPlaced (said handed outputs) (length outputs.files.items) step sections number place (events_in records number) (parts number)
  pub absent : (number : ℕ) → places number ≡ None → (events_in records number ≡ []) × (parts number ≡ [])
  pub of_it : (number : ℕ) → AreOf names number (parts number)
  pub among : (name number : ℕ) → names name ≡ Some number → IsAmong name (parts number)
  pub nothing_else : (name : ℕ) → names name ≡ None → (file : ℕ) → said handed outputs file name ≡ []
  pub opened : AllOpen ends handed outputs
  pub waits : AllWait outputs

-- the cutter has cut these records so
pub record Cuts (ends : Bool) (step : ℕ) (records : List (List ℕ)) (handed : ℕ → List ℕ) (cutter : Cutter) : Type 0 where
  pub step_is : cutter.step ≡ step
  pub has : HasCut ends step records handed cutter.current (get nat_cmp cutter.places) (get nat_cmp cutter.names) cutter.sections.items cutter.outputs

-- whatever the old cutter has cut the new one has, and the section of the number stands at the place
abbrev pub Finds : Cutter → Cutter → ℕ → ℕ → Type 0
Finds old new number place = (step : ℕ) (records : List (List ℕ)) (handed : ℕ → List ℕ) → Cuts true step records handed old →
    Cuts true step records handed new × (get nat_cmp new.places number ≡ Some place)

-- the same of the number that is current
abbrev pub FindsCurrent : Cutter → Cutter → ℕ → Type 0
FindsCurrent old new place = (step : ℕ) (records : List (List ℕ)) (handed : ℕ → List ℕ) → Cuts true step records handed old →
    Cuts true step records handed new × (get nat_cmp new.places (current_of records) ≡ Some place)

-- where a section stands at the place, it still does, and what was cut is
abbrev pub Keeps : Cutter → Cutter → ℕ → Type 0
Keeps old new place = (step : ℕ) (records : List (List ℕ)) (handed : ℕ → List ℕ) (number : ℕ) → get nat_cmp old.places number ≡ Some place → Cuts true step records handed old →
    Cuts true step records handed new × (get nat_cmp new.places number ≡ Some place)

-- the same, where the next part goes on as that section's does
abbrev pub KeepsWith : Cutter → Cutter → ℕ → NextPart → Type 0
KeepsWith old new place next = (section : Cutting) → slice_get old.sections.items place ≡ Some section → BeginsNext section next → Keeps old new place

-- the bytes, which are a record that says this, are cut, too
abbrev pub CutsRecord : Cutter → Cutter → List ℕ → Saying → Type 0
CutsRecord old new bytes saying = (ends : Bool) (step : ℕ) (records : List (List ℕ)) (handed : ℕ → List ℕ) (text : List ℕ) → Cuts true step records handed old →
    Holds ends bytes (text ∷ []) → record_of text ≡ Ok saying → Cuts ends step (records ++ text ∷ []) handed new

-- the same, where the section that is current stands at the place
abbrev pub TakesAt : Cutter → Cutter → ℕ → List ℕ → Saying → Type 0
TakesAt old new place bytes saying = (ends : Bool) (step : ℕ) (records : List (List ℕ)) (handed : ℕ → List ℕ) (text : List ℕ) → get nat_cmp old.places (current_of records) ≡ Some place →
    Cuts true step records handed old → Holds ends bytes (text ∷ []) → record_of text ≡ Ok saying → Cuts ends step (records ++ text ∷ []) handed new

-- the records say nothing
abbrev pub SayNothing : List (List ℕ) → Type 0
SayNothing [] = Unit {0}
SayNothing (text ∷ more) = (record_of text ≡ Ok Skipped) × (more ≡ [])

-- the bytes are cut, too, which say nothing
abbrev pub CutsNothing : Cutter → Cutter → List ℕ → Type 0
CutsNothing old new bytes = (ends : Bool) (step : ℕ) (records : List (List ℕ)) (handed : ℕ → List ℕ) (more : List (List ℕ)) → Cuts true step records handed old →
    Holds ends bytes more → SayNothing more → Cuts ends step (records ++ more) handed new

-- the bytes, which are this part of a text, are cut, too
abbrev pub CutsPart : Cutter → Cutter → List ℕ → List ℕ → Type 0
CutsPart old new part bytes = (ends : Bool) (step : ℕ) (records : List (List ℕ)) (handed : ℕ → List ℕ) → Cuts true step records handed old →
    parts_of bytes ≡ part ∷ behind_part ends → Cuts ends step (records ++ records_in (part ∷ [])) handed new

-- the same sections stand at the same places, and the same one is current
pub record SameSections (old new : Cutter) : Type 0 where
  pub places : new.places ≡ old.places
  pub sections : new.sections ≡ old.sections
  pub current_is : new.current ≡ old.current
  pub step_is : new.step ≡ old.step

-- a file may have begun
pub record MoreFiles (old new : Outputs) : Type 0 where
  pub texts : IsSameText old new
  pub count : length old.files.items ≤ length new.files.items

-- the next file begins
pub record BeginsFile (old new : Cutter) : Type 0 where
  pub same : SameSections old new
  pub names : new.names ≡ old.names
  pub more : MoreFiles old.outputs new.outputs

-- the name, which was free, is one of the section with this number, and each other one is as it was
pub record IsNamed (names then-names : ℕ → Option ℕ) (name number : ℕ) : Type 0 where
  pub free : names name ≡ None
  pub here : then-names name ≡ Some number
  pub others : (other : ℕ) → other ≢ name → then-names other ≡ names other

-- a part of the section gets this name
pub record Names (old new : Cutter) (name number : ℕ) : Type 0 where
  pub named : IsNamed (get nat_cmp old.names) (get nat_cmp new.names) name number
  pub same : SameSections old new
  pub more : MoreFiles old.outputs new.outputs

-- the section at the place goes on with this part, whose head its file says
pub record BeginsPart (old new : Cutter) (place name : ℕ) (next : NextPart) (section : Cutting) : Type 0 where
  pub file : ℕ
  pub there : file < length old.outputs.files.items
  pub says : Says true file name next.head.items old.outputs new.outputs
  pub renewed : Cutting
  pub has : GoesOnAs section renewed name file next.part
  pub sections : new.sections.items ≡ set old.sections.items place renewed
  pub places : new.places ≡ old.places
  pub names : new.names ≡ old.names
  pub current_is : new.current ≡ old.current
  pub step_is : new.step ≡ old.step

-- of the log that was read all parts that ended are cut, and the rest waits
pub record HasRead (step : ℕ) (log : List ℕ) (handed : ℕ → List ℕ) (cutter : Cutter) : Type 0 where
  pub done : List ℕ
  pub whole : log ≡ done ++ cutter.waiting.items
  pub ended : parts_of done ≡ ended_parts done ++ [] ∷ []
  pub unended : parts_of cutter.waiting.items ≡ cutter.waiting.items ∷ []
  pub cuts : Cuts true step (records_of done) handed cutter

-- how often it was told that an order assertion may have lost its FAIL
abbrev pub lost_in : List Cutting → ℕ
lost_in sections = sum_by (λ (section : Cutting). section.lost) sections

-- the whole log is cut into what was handed out, with what is to be written
pub record HasCutAll (step : ℕ) (log : List ℕ) (handed : ℕ → List ℕ) (cutter : Cutter) : Type 0 where
  pub cut : IsCutInto step log (text_of handed cutter.outputs) (lost_in cutter.sections.items)
  pub waits : AllWait cutter.outputs

-- what was handed out with these texts
abbrev pub handed_with : (ℕ → List ℕ) → List Text → ℕ → List ℕ
handed_with handed texts file = handed file ++ bytes_for texts file

-- the texts are handed out, of what was cut in mid-log, and of the whole
pub record Drains (old : Cutter) (texts : List Text) (new : Cutter) : Type 0 where
  pub reads : (step : ℕ) (log : List ℕ) (handed : ℕ → List ℕ) → HasRead step log handed old → HasRead step log (handed_with handed texts) new
  pub ends : (step : ℕ) (log : List ℕ) (handed : ℕ → List ℕ) → HasCutAll step log handed old → IsCutInto step log (handed_with handed texts) (lost_in old.sections.items)
  pub same : new.sections ≡ old.sections

-- behind what was done, the bytes up to an end are cut, too
pub record CutsTo (step : ℕ) (done text : List ℕ) (handed : ℕ → List ℕ) (new : Cutter) (end : ℕ) : Type 0 where
  pub ended : parts_of (done ++ take end text) ≡ ended_parts (done ++ take end text) ++ [] ∷ []
  pub cuts : Cuts true step (records_of (done ++ take end text)) handed new

-- the same of whatever was done
abbrev pub CutsParts : Cutter → Cutter → List ℕ → ℕ → Type 0
CutsParts old new text end =
    (step : ℕ) (done : List ℕ) (handed : ℕ → List ℕ) → parts_of done ≡ ended_parts done ++ [] ∷ [] → Cuts true step (records_of done) handed old → CutsTo step done text handed new end

-- the bytes, which are this record, are cut, too
abbrev pub CutsAny : Cutter → Cutter → List ℕ → List ℕ → Type 0
CutsAny old new text bytes = (ends : Bool) (step : ℕ) (records : List (List ℕ)) (handed : ℕ → List ℕ) → Cuts true step records handed old →
    Holds ends bytes (text ∷ []) → Cuts ends step (records ++ text ∷ []) handed new
