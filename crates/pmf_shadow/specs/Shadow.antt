-- What a shadow memory stands for: for every byte, what is kept is what the definitions say of the first
-- p events of a list, with the places that were told of the stores. What a cache line is follows from its
-- bytes.
use Rattle.std.specs.Prelude.{◌≡◌, ℕ, suc, ◌+◌, ◌<◌, ◌==◌, nat_lt, [], ◌∷◌, ◌++◌, List, length, Option, None, Some, if◌then◌else◌}
use Rattle.pmf_event.specs.{declared.event.Event.{Event}, declared.section.TheConstants.{EVENT_LIMIT}, Line.{line_of_byte}, Places.{count}, Store.{at, stores, is_fence, last_store, epoch_of}, WriteBack.{write_back_epoch}, Exclusion.{is_excluded}, LineBytes.{HasBytes}}
use Rattle.pmf_shadow.specs.{declared.byte.Stored.{Stored}, declared.shadow.Shadow.{Shadow}, States.{stored_of}}
use Rattle.pmf_shadow.specs.Bytes.{state_at}

-- the last store of byte b at p: the place that was told of it, its epoch, and the epoch of the first
-- write-back after it
abbrev pub stored_at : (ℕ → ℕ) → List Event → ℕ → ℕ → Option Stored
stored_at told es p b =
    if last_store es p b == 0 then None
    else Some (record {
      last = told (last_store es p b);
      opens = epoch_of es (last_store es p b);
      written_back = write_back_epoch (stores b) (line_of_byte b) es p;
    })

-- the shadow stands for the first p events of a list, each store of which has a size above 0 and was told
-- at the place that is given for it
pub record StandsFor (shadow : Shadow) (told : ℕ → ℕ) (es : List Event) (p : ℕ) : Type 0 where
  pub fences : shadow.fences ≡ count (at is_fence es) p
  pub stored : (b : ℕ) → stored_of (state_at shadow.bytes b) ≡ stored_at told es p b
  pub excluded : (b : ℕ) → (state_at shadow.bytes b).excluded ≡ is_excluded es p b
  pub sized : HasBytes es p

-- this is so of each list that the shadow stands for, with the places that were told and the number of events
abbrev pub ForEachList : Shadow → ((ℕ → ℕ) → List Event → ℕ → Type 0) → Type 0
ForEachList shadow says = (told : ℕ → ℕ) (es : List Event) (p : ℕ) → StandsFor shadow told es p → says told es p

-- the shadow has followed fewer fences than a section may have events
abbrev pub HasRoom : Shadow → Type 0
HasRoom shadow = shadow.fences < EVENT_LIMIT

-- whatever list the old shadow stood for, the new one stands for that list with the event at its end, which
-- was told at this place
abbrev pub FollowsAt : ℕ → Shadow → Shadow → Event → Type 0
FollowsAt place old new e = (told : ℕ → ℕ) (es : List Event) → told (suc (length es)) ≡ place →
    StandsFor old told es (length es) → StandsFor new told (es ++ e ∷ []) (suc (length es))

-- the same of an event whose place is not kept: it was told at any place
abbrev pub Follows : Shadow → Shadow → Event → Type 0
Follows old new e = (place : ℕ) → FollowsAt place old new e

-- the new shadow stands for all that the old one stood for
abbrev pub Keeps : Shadow → Shadow → Type 0
Keeps old new = ForEachList old (StandsFor new)

-- the epoch after that of a write-back, once a fence has ended it
abbrev pub closing : ℕ → Option ℕ → Option ℕ
closing fences None = None
closing fences (Some epoch) = if nat_lt epoch fences then Some (epoch + 1) else None
