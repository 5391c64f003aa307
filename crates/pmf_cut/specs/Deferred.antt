-- What a part stands for whose last events wait. Defined here.
use Rattle.std.specs.Prelude.{◌≡◌, ℕ, suc, ◌+◌, ◌<◌, List, [], Some, length, slice_get}
use Rattle.pmf_event.specs.{declared.event.Event.{Event}, Store.{event_at}}
use Rattle.pmf_cut.specs.{declared.deferred.Deferred.{Deferred}, declared.part.Part.{Part}, Parts.{IsPartOf}}

-- these are the events of the whole behind its first n
abbrev pub AreNext : List Event → ℕ → List Event → Type 0
AreNext es n events = (k : ℕ) → k < length events → event_at es (suc (n + k)) ≡ slice_get events k

-- the part is that of the whole, from its cut at p on, up to where the events begin that wait; with them n events of the whole have happened
pub record IsUpTo (deferred : Deferred) (es : List Event) (p : ℕ) (head : List Event) (n : ℕ) : Type 0 where
  pub had : ℕ
  pub all : had + length deferred.waiting.items ≡ n
  pub part : IsPartOf deferred.part es p head had
  pub next : AreNext es had deferred.waiting.items

-- whatever whole the part is one of, the new one is that, too
abbrev pub Begins : Part → Deferred → Type 0
Begins part new = (es : List Event) (p : ℕ) (head : List Event) (n : ℕ) → IsPartOf part es p head n → IsUpTo new es p head n

-- of each whole that the old one is one of the new one is, when this event has happened, too
abbrev pub GoesOnUpTo : Deferred → Deferred → Event → Type 0
GoesOnUpTo old new e = (es : List Event) (p : ℕ) (head : List Event) (n : ℕ) → event_at es (suc n) ≡ Some e → IsUpTo old es p head n → IsUpTo new es p head (suc n)

-- of each whole that the old one is one of the new one is, as well
abbrev pub StaysUpTo : Deferred → Deferred → Type 0
StaysUpTo old new = (es : List Event) (p : ℕ) (head : List Event) (n : ℕ) → IsUpTo old es p head n → IsUpTo new es p head n

-- no event waits any more
pub record CatchesUp (old new : Deferred) : Type 0 where
  pub stays : StaysUpTo old new
  pub none : new.waiting.items ≡ []

-- of each whole that the old part is one of the new one is, when so many of these events have happened, too
abbrev pub TakesFirst : Part → Part → List Event → ℕ → Type 0
TakesFirst old new events count = (es : List Event) (p : ℕ) (head : List Event) (n : ℕ) → AreNext es n events → IsPartOf old es p head n → IsPartOf new es p head (n + count)

-- of each whole that the old one is one of the part is the part from here on, with this head
abbrev pub BeginsBehind : Deferred → Part → List Event → Type 0
BeginsBehind old part head = (es : List Event) (p : ℕ) (before : List Event) (n : ℕ) → IsUpTo old es p before n → IsPartOf part es n head n
