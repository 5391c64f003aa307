-- What is kept of one more event.
use Rattle.std.proofs.Common.{◌≡◌, ℕ, suc, true, if◌then◌else◌, List, Some}
use Rattle.pmf_event.specs.{declared.event.Event.{Event}, Line.{line_of_byte}, Store.{event_at, flushes}, Transactions.{adds}}
use Rattle.pmf_runs.specs.Runs.{state_at}
use Rattle.pmf_places.proofs.PlaceLemmas.{last_next}
use Rattle.pmf_cause.{specs.declared.past.Past.{Past}, specs.Past.{AreMarks, AreStores, IsPast}, specs.Watching.{has_line}}

pub next : (old new : Past) (es : List Event) (e : Event) → event_at es (suc old.place) ≡ Some e → IsPast old es → new.watch ≡ old.watch → new.place ≡ suc old.place →
    AreStores old.watch.stored new.stored es (suc old.place) → AreMarks new.marks es (suc old.place) →
    ((b : ℕ) → has_line old.watch.flushed b ≡ true → (state_at new.flushed b).of ≡ (if flushes (line_of_byte b) e then new.place else (state_at old.flushed b).of)) →
    ((b : ℕ) → has_line old.watch.added b ≡ true → (state_at new.added b).of ≡ (if adds b e then new.place else (state_at old.added b).of)) → IsPast new es
next old new es e here past watch place stored marks flushed added = rw place (record {
  stored = rw watch stored;
  flushed = rw watch (λ b has. last_next (state_at old.flushed b).of (state_at new.flushed b).of new.place (flushes (line_of_byte b)) es old.place e here place (flushed b has) (past.flushed b has));
  added = rw watch (λ b has. last_next (state_at old.added b).of (state_at new.added b).of new.place (adds b) es old.place e here place (added b has) (past.added b has));
  marks = marks;
})
