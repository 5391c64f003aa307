-- The last store of a byte, and the first write-back behind it, of one more event.
use Rattle.std.proofs.{Common.{◌≡◌, ℕ, suc, ◌+◌, Bool, true, false, nat_lt, if◌then◌else◌, List, Some, refl, sym, ap, ◌∙◌, arith}, lemmas.Bool.{ltb-true, and_parts}, lemmas.Grind.{common_steps}}
use Rattle.pmf_event.{specs.declared.event.Event.{Event}, specs.declared.event.Event.TheVariants.{Store, Flush}, specs.Span.{Extent}, specs.Line.{line_of_byte, meets_line}, specs.Places.{least}, specs.Store.{at, event_at, flushes, last_store, stores}, specs.Interval.{writes_back, first_write_back}, proofs.PlacesLemmas.{least-none_behind, least-zero}, proofs.EventLemmas.{last-here, last-none, last-other, last-step}, proofs.WriteBackLemmas.{first_write_back-next, or-zero}}
use Rattle.pmf_runs.specs.{declared.members.Members.{Members}, declared.runs.RunMap.{RunMap}, contracts.members.BoolState.TheImpl.{ghosts}, Runs.{is_between, state_at, ChangesBetween}}
use Rattle.pmf_places.proofs.PlaceLemmas.{no_flush}
use Rattle.pmf_cause.{specs.declared.stored.{Behind.{Behind}, Stored.{Stored}}, specs.States.{stored_at, written_back_at}, specs.Past.{AreStores}, specs.Watching.{has_line}, proofs.WatchLemmas.{not_covered}}
use Rattle.pmf_cause.specs.contracts.stored.StoredState.TheImpl as stores_kept

abbrev Stores : Type 0
Stores = RunMap Stored Behind stores_kept.ghosts

abbrev Lines : Type 0
Lines = RunMap Bool Members ghosts

pub no_stores : (lines : Lines) (runs : Stores) → ((b : ℕ) → state_at runs b ≡ record { last = 0; written_back = 0 }) → (es : List Event) → AreStores lines runs es 0
unfolding first_write_back
no_stores lines runs none es = record {
  last = λ b has. ap (λ (s : Stored). s.last) (none b) ∙ sym (last-none (stores b) es);
  written_back = λ b has. ap (λ (s : Stored). s.written_back) (none b) ∙ sym (least-zero (writes_back es (line_of_byte b) (last_store es 0 b)));
}

no_store : (e : Event) → ((s : Extent) → e ≡ Store s → ⊥) → (b : ℕ) → stores b e ≡ false
unfolding stores
no_store (Store s) other b = absurd (other s refl)
no_store _ other b = refl

module _ (es : List Event) (p : ℕ) (e : Event) (here : event_at es (suc p) ≡ Some e) where
  first_kept : (b : ℕ) → stores b e ≡ false → flushes (line_of_byte b) e ≡ false → first_write_back (stores b) (line_of_byte b) es (suc p) ≡ first_write_back (stores b) (line_of_byte b) es p
  first_kept b none no_back =
      let w = first_write_back (stores b) (line_of_byte b) es p in
      first_write_back-next (stores b) (line_of_byte b) es p e here none ∙ ap (λ c. if nat_lt 0 w then w else (if c then suc p else 0)) no_back ∙ or-zero w

  first_stored : (b : ℕ) → stores b e ≡ true → first_write_back (stores b) (line_of_byte b) es (suc p) ≡ 0
  unfolding first_write_back writes_back
  first_stored b is =
      let line = line_of_byte b in
      ap (λ k. least (writes_back es line k) (suc p)) (last-here (stores b) es p e here is)
      ∙ least-none_behind (writes_back es line (suc p)) (suc p) (λ k behind. ltb-true (suc p) k (and_parts (nat_lt (suc p) k) (at (flushes line) es k) behind).0)

  -- an event that neither stores to one of these bytes nor writes it back
  passed : (lines : Lines) (runs : Stores) → ((b : ℕ) → has_line lines b ≡ true → (stores b e ≡ false) × (flushes (line_of_byte b) e ≡ false)) → AreStores lines runs es p → AreStores lines runs es (suc p)
  passed lines runs neither before = record {
    last = λ b has. before.last b has ∙ sym (last-other (stores b) es p e here (neither b has).0);
    written_back = λ b has. before.written_back b has ∙ sym (first_kept b (neither b has).0 (neither b has).1);
  }

  pub stores_kept_on : (lines : Lines) (runs : Stores) → ((s : Extent) → e ≡ Store s → ⊥) → ((s : Extent) → e ≡ Flush s → ⊥) → AreStores lines runs es p → AreStores lines runs es (suc p)
  stores_kept_on lines runs none no_back before = passed lines runs (λ b has. (no_store e none b, no_flush e no_back (line_of_byte b))) before

  pub store_passed : (lines : Lines) (runs : Stores) (s : Extent) → e ≡ Store s → ((b : ℕ) → has_line lines b ≡ true → meets_line s (line_of_byte b) ≡ false) → AreStores lines runs es p → AreStores lines runs es (suc p)
  unfolding stores flushes
  store_passed lines runs s is none before = passed lines runs (λ b has. (ap (stores b) is ∙ not_covered s b (none b has), ap (flushes (line_of_byte b)) is)) before

  pub flush_passed : (lines : Lines) (runs : Stores) (s : Extent) → e ≡ Flush s → ((b : ℕ) → has_line lines b ≡ true → meets_line s (line_of_byte b) ≡ false) → AreStores lines runs es p → AreStores lines runs es (suc p)
  unfolding stores flushes
  flush_passed lines runs s is none before = passed lines runs (λ b has. (ap (stores b) is, ap (flushes (line_of_byte b)) is ∙ none b has)) before

-- ---- stores and write-backs

module _ (lines : Lines) (old new : Stores) (f l place : ℕ) (es : List Event) (p : ℕ) (at_place : place ≡ suc p) (before : AreStores lines old es p) where
  pub stored : (s : Extent) → event_at es (suc p) ≡ Some (Store s) → f ≡ s.first → l ≡ s.first + s.size → ChangesBetween f l (λ state. stored_at place) old new → AreStores lines new es (suc p)
  unfolding stores flushes is_between
  stored s here at_f at_l changes = record {
    last = λ b has. let step = last-step (stores b) es p (Store s) here in let is = changes.states b in let was = before.last b has in grind (arith, common_steps);
    written_back = λ b has. let is = changes.states b in let was = before.written_back b has in
        let now = first_stored es p (Store s) here b in let same = first_kept es p (Store s) here b in grind (arith, common_steps);
  }

  pub written_back : (s : Extent) → event_at es (suc p) ≡ Some (Flush s) → ((b : ℕ) → is_between f l b ≡ meets_line s (line_of_byte b)) → ChangesBetween f l (written_back_at place) old new → AreStores lines new es (suc p)
  unfolding stores flushes
  written_back s here met changes = record {
    last = λ b has. let same = last-other (stores b) es p (Flush s) here refl in let is = changes.states b in let was = before.last b has in grind (arith, common_steps);
    written_back = λ b has. let is = changes.states b in let was = before.written_back b has in let within = met b in
        let next = first_write_back-next (stores b) (line_of_byte b) es p (Flush s) here refl in grind (arith, common_steps);
  }
