-- From the searches to the contradiction of an assertion, and back.
use Rattle.std.proofs.{Common.{◌≡◌, ℕ, suc, ◌+◌, ◌-◌, ◌<◌, ◌≤◌, Bool, true, false, ◌↔◌, List, refl, ◌∙◌, ap, arith, Some, lt-ltb}, lemmas.Bool.{and_parts, and_from, both_ways, ltb-true, ne_eqb, eqb-false, not-true}, lemmas.Grind.{common_steps}}
use Rattle.pmf_event.{specs.declared.event.Event.{Event}, specs.declared.event.Event.TheVariants.{Persist, Ordered, CheckEnd}, specs.declared.span.TheConstants.{ADDRESS_LIMIT}, specs.Span.{Extent, covers_byte}, specs.Store.{event_at}, specs.Transactions.{depth_at, in_scope}, proofs.LineLemmas.{covers-bounds, bounds-cover}, proofs.TransactionLemmas.{inside-from, outside-from}}
use Rattle.pmf_image.specs.{declared.certificate.Certificate.{Certificate}, declared.questions.Question.TheVariants.{FallsShort, IsShown, IsLost, ScopeFallsShort}, Contradiction.{PersistContradicted, OrderedContradicted, ScopeContradicted, ContradictsEvent, Contradicts}, Questions.{is_asked, compares, answer_of, SomeByte}}

-- the event at the place, as it is read from the list
event-placed : (es : List Event) (p : ℕ) (d : Event) → 0 < p → event_at es (suc (p - 1)) ≡ Some d → event_at es p ≡ Some d
event-placed es p d some here = let same : p ≡ suc (p - 1) = omega arith in ap (event_at es) same ∙ here

module _ (es : List Event) (p : ℕ) (c : Certificate) (d : Event) (some : 0 < p) (here : event_at es (suc (p - 1)) ≡ Some d) where
  pub contradicts-from : (r : Bool) (e : Event) → d ≡ e → (r ≡ true) ↔ ContradictsEvent es p c (Some e) → (r ≡ true) ↔ Contradicts es p c
  contradicts-from r e is event = grind (arith, common_steps, event-placed)

  other-event : (e : Event) → ((s : Extent) → e ≡ Persist s → ⊥) → ((s t : Extent) → e ≡ Ordered s t → ⊥) → (e ≡ CheckEnd → ⊥) →
      (false ≡ true) ↔ ContradictsEvent es p c (Some e)
  other-event e no_persist no_ordered no_close = grind (arith, common_steps)

  pub contradicts-no_assertion : ((s : Extent) → d ≡ Persist s → ⊥) → ((s t : Extent) → d ≡ Ordered s t → ⊥) →
      (d ≡ CheckEnd → ⊥) → (false ≡ true) ↔ Contradicts es p c
  contradicts-no_assertion no_persist no_ordered no_close =
      contradicts-from false d refl (other-event d no_persist no_ordered no_close)

-- a byte of the span that passes the test
found : (s : Extent) (test : ℕ → Bool) (first end b : ℕ) → first ≡ s.first → end ≡ s.first + s.size → covers_byte s b ≡ true → test b ≡ true → SomeByte test first end
found s test first end b low high covers passes = grind (arith, common_steps, covers-bounds)

module _ (es : List Event) (p : ℕ) (c : Certificate) where
  pub persist-from : (s : Extent) (r : Bool) (first end : ℕ) → p ≤ c.crash → first ≡ s.first → end ≡ s.first + s.size →
      (r ≡ true) ↔ SomeByte (answer_of FallsShort es p c) first end → (r ≡ true) ↔ PersistContradicted es p s c
  unfolding answer_of is_asked compares
  persist-from s r first end within low high search = grind (arith, common_steps, and_parts, bounds-cover, ltb-true, found, and_from, lt-ltb)

  pub ordered-not_shown : (s t : Extent) (r : Bool) (first end : ℕ) → first ≡ t.first → end ≡ t.first + t.size →
      (r ≡ true) ↔ SomeByte (answer_of IsShown es p c) first end → r ≡ false → (false ≡ true) ↔ OrderedContradicted es p s t c
  unfolding answer_of is_asked compares
  ordered-not_shown s t r first end low high search none = grind (arith, common_steps, found, and_from)

  pub ordered-from : (s t : Extent) (q r : Bool) (first end first_lost end_lost : ℕ) → c.crash ≤ p → first ≡ t.first → end ≡ t.first + t.size →
      (q ≡ true) ↔ SomeByte (answer_of IsShown es p c) first end → q ≡ true →
      first_lost ≡ s.first → end_lost ≡ s.first + s.size →
      (r ≡ true) ↔ SomeByte (answer_of IsLost es p c) first_lost end_lost → (r ≡ true) ↔ OrderedContradicted es p s t c
  unfolding answer_of is_asked compares
  ordered-from s t q r first end first_lost end_lost within low high search shown low_lost high_lost search_lost = grind (arith, common_steps, and_parts, bounds-cover, eqb-false, not-true, found, and_from, ne_eqb)

  pub scope-deep : 0 < depth_at es (p - 1) → (false ≡ true) ↔ ScopeContradicted es p c
  scope-deep some = grind (arith, common_steps, both_ways, inside-from)

  pub scope-from : (r : Bool) → p ≤ c.crash → in_scope es (p - 1) ≡ true → depth_at es (p - 1) ≡ 0 →
      (r ≡ true) ↔ SomeByte (answer_of ScopeFallsShort es p c) 0 ADDRESS_LIMIT → (r ≡ true) ↔ ScopeContradicted es p c
  unfolding answer_of is_asked compares
  scope-from r within scope flat search = grind (arith, common_steps, and_parts, outside-from, ltb-true, and_from, lt-ltb)
