-- The board machine: what stands of each section, and how hand-outs and marks change it. No atomic occurs in it. Defined here.
use Rattle.std.specs.Prelude.{ℕ, ◌+◌, Bool, true, false, not, ◌&&◌, ltb, if◌then◌else◌, List, get_or, set, replicate, slice_get, Option, Some, None}
use Rattle.pmf_board.specs.declared.entry.Entry.{Entry}

-- an entry with so many hand-outs, done or not
abbrev pub entry : ℕ → Bool → Entry
entry handouts done = record { handouts = handouts; done = done }

-- no hand-out, and not done
abbrev pub untouched : Entry
untouched = entry 0 false

-- the board at first: nothing stands of any of its sections
abbrev pub opening : ℕ → List Entry
opening sections = replicate sections untouched

-- what stands of the section; of one that the board hasn't, nothing
abbrev pub entry_at : List Entry → ℕ → Entry
entry_at board s = get_or board s untouched

-- not done, and with fewer hand-outs than the limit: 1 for a fresh take, 8 for a take again
abbrev pub is_on_offer : ℕ → Entry → Bool
is_on_offer limit e = not e.done && ltb e.handouts limit

-- the same with one hand-out more
abbrev pub handed_out : Entry → Entry
handed_out e = entry (e.handouts + 1) e.done

-- the same, but done
abbrev pub finished : Entry → Entry
finished e = entry e.handouts true

-- the board after one hand-out more of the section
abbrev pub hand_out : List Entry → ℕ → List Entry
hand_out board s = set board s (handed_out (entry_at board s))

-- the board after the section was marked
abbrev pub mark : List Entry → ℕ → List Entry
mark board s = set board s (finished (entry_at board s))

-- the take of what stands of a section, if it is there: where it is on offer, the hand-out's number and the board after it
abbrev pub taken : ℕ → List Entry → ℕ → Option Entry → Option (ℕ × List Entry)
taken limit board s None = None
taken limit board s (Some e) = if is_on_offer limit e then Some (e.handouts + 1, hand_out board s) else None

-- a take: the hand-out's number and the board after it, where the section is there and on offer
abbrev pub take_below : ℕ → List Entry → ℕ → Option (ℕ × List Entry)
take_below limit board s = taken limit board s (slice_get board s)

-- a take of a section that was never handed out
abbrev pub take_fresh : List Entry → ℕ → Option (ℕ × List Entry)
take_fresh = take_below 1

-- a take of a section that was handed out fewer than 8 times
abbrev pub take_again : List Entry → ℕ → Option (ℕ × List Entry)
take_again = take_below 8
