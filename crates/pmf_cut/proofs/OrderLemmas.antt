-- What a section's past has, and which order assertions its part knows the pairs of.
use Rattle.std.{proofs.Common.{◌≡◌, inl, inr, ℕ, zero, suc, ◌+◌, ◌-◌, ◌≤◌, Bool, true, false, if◌then◌else◌, List, [], length, Some, None, refl, sym, ap, subst, ◌∙◌, arith}, proofs.lemmas.Bool.{cases_lt}}
use Rattle.pmf_event.{specs.declared.event.Event.{Event}, specs.declared.event.Event.TheVariants.{Ordered}, specs.Span.{Extent}, specs.Places.{greatest}, specs.Store.{at, event_at, last, last_store, stores}, specs.Exclusion.{is_excluded, marks}, specs.Persist.{is_checked}, proofs.EventLemmas.{last-none, last-other}, proofs.PlacesLemmas.{greatest-step}}
use Rattle.pmf_cut.{specs.{declared.lost.Past.{Past}, declared.part.Part.{Part}, declared.deferred.Deferred.{Deferred}, declared.section.Cutting.{Cutting}, Behind.{SamePairs}, Laws.{KnowsPairs}, Lost.{Adds, HasOld, HasStored, Knows}, Parts.{IsPartOf, part_of}, Deferred.{GoesOnUpTo, IsUpTo, StaysUpTo}, Cutting.{GoesOnAs, HasPart, HasPast, KnowsNext, SamePast, TakesEvent, TellsLost}}, proofs.RowLemmas.{checked-parts}, proofs.StepLemmas.{excluded-step}, proofs.WholeLemmas.{part-event}}

-- ---- what the past has

greatest-kept : (test : ℕ → Bool) (p k : ℕ) → greatest test (p + k) ≤ p → greatest test p ≡ greatest test (p + k)
greatest-kept test p zero before = ap (greatest test) (omega arith)
greatest-kept test p (suc k) before =
    let next : p + suc k ≡ suc (p + k) = omega arith in
    let step = ap (greatest test) next ∙ greatest-step test (p + k) in
    elim (test (suc (p + k))) as (λ v. greatest test (p + suc k) ≡ (if v then suc (p + k) else greatest test (p + k)) → greatest test p ≡ greatest test (p + suc k)) [
      | true ↦ λ is. absurd (omega (arith, before, is))
      | false ↦ λ is. greatest-kept test p k (let low = before in omega (arith, low, is)) ∙ sym is
    ] step

-- the last store of a byte, where none comes behind p
last-kept : (es : List Event) (p n b : ℕ) → p ≤ n → last_store es n b ≤ p → last_store es p b ≡ last_store es n b
unfolding last
last-kept es p n b within before =
    let is : p + (n - p) ≡ n = omega arith in
    subst (λ m. greatest (at (stores b) es) m ≤ p → greatest (at (stores b) es) p ≡ greatest (at (stores b) es) m) is (greatest-kept (at (stores b) es) p (n - p)) before

-- what the past has of the whole in front of the cut is all that is old behind it
has-old : (past : Past) (es : List Event) (p n : ℕ) (fs : List Event) (q m : ℕ) → p ≤ n → SamePairs es p n fs q m → HasStored past es p → HasOld past es n fs m
has-old past es p n fs q m within pairs stored b some none = elim (cases_lt p (last_store es n b)) [
  | inl late ↦ let here = pairs.fresh b late in absurd (omega arith)
  | inr early ↦ stored b (let same = last-kept es p n b within early in omega arith)
]

-- the past with the part that ends has what the whole stores to up to the next cut
stored-next : (old new : Past) (part : Part) (es : List Event) (p : ℕ) (head : List Event) (n : ℕ) → IsPartOf part es p head n → HasStored old es p → Adds old new part → HasStored new es n
stored-next old new part es p head n is stored adds b some =
    let fs = part_of es p head in
    let m = length head + (n - p) in
    elim (cases_lt 0 (last_store fs m b)) [
      | inl known ↦ adds fs m is.stands b (inr known)
      | inr none ↦ adds fs m is.stands b (inl (has-old old es p n fs (length head) m is.within is.behind.pairs stored b some (omega arith)))
    ]

-- a section's first part has none
pub past-none : (section : Cutting) (es : List Event) → section.head ≡ 0 → HasPast section es 0 []
past-none section es none = record {
  stored = λ b some. let zero_is = last-none (stores b) es in absurd (omega arith);
  first = λ is. refl;
  head_is = none;
}

-- the part goes on
pub past-next : (old new : Cutting) (name file : ℕ) (part : Part) (es : List Event) (p : ℕ) (before head : List Event) (n : ℕ) → GoesOnAs old new name file part → old.part.waiting.items ≡ [] →
    IsUpTo old.part es p before n → HasPast old es p before → part.events ≡ length head → HasPast new es n head
past-next old new name file part es p before head n goes_on none up_to past count = record {
  stored = stored-next old.past new.past old.part.part es p before n ended past.stored goes_on.adds;
  first = λ is. absurd (let bad : None ≡ Some old.part.part = sym is ∙ goes_on.last in cc);
  head_is = goes_on.head ∙ count;
}
  where
    ended : IsPartOf old.part.part es p before n
    ended = subst (IsPartOf old.part.part es p before) (let all = up_to.all in let empty = ap length none in omega arith) up_to.part

-- ---- which pairs it knows

-- where no part has ended, each byte that the whole stores to is stored to behind the cut
pub knows-first : (section : Cutting) (a b : Extent) → section.past.last ≡ None → KnowsNext section (Ordered a b)
knows-first section a b none es p head n up_to past x y in-a in-b checked checked-too =
    let first = past.first none in let some = (checked-parts es n y checked-too).0 in inr (omega arith)

pub knows-more : (old : Cutting) (mid : Deferred) (a b : Extent) → ((es : List Event) (p : ℕ) (head : List Event) (n : ℕ) → IsUpTo old.part es p head n → IsUpTo mid es p head n) → mid.waiting.items ≡ [] →
    Knows old.past mid.part.shadow old.head a b → KnowsNext old (Ordered a b)
knows-more old mid a b stays none knows es p head n up_to past =
    let fs = part_of es p head in
    let m = length head + (n - p) in
    let now = stays es p head n up_to in
    let is : IsPartOf mid.part es p head n = subst (IsPartOf mid.part es p head) (let all = now.all in let empty = ap length none in omega arith) now.part in
    knows es p n fs m is.behind.bytes (subst (λ q. SamePairs es p n fs q m) (sym past.head_is) is.behind.pairs)
    (has-old old.past es p n fs (length head) m is.within is.behind.pairs past.stored) is.stands.shadow

-- an order assertion stores to no byte, and excludes none
module _ (es : List Event) (n : ℕ) (a b : Extent) (here : event_at es (suc n) ≡ Some (Ordered a b)) where
  last-same : (x : ℕ) → last_store es (suc n) x ≡ last_store es n x
  unfolding stores
  last-same x = last-other (stores x) es n (Ordered a b) here refl

  excluded-same : (x : ℕ) → is_excluded es (suc n) x ≡ is_excluded es n x
  unfolding marks
  excluded-same x = excluded-step es n x (Ordered a b) here

  checked-same : (x : ℕ) → is_checked es (suc n) x ≡ is_checked es n x
  unfolding is_checked
  checked-same x = grind (arith, last-same, excluded-same)

-- what is known in front of the assertion is known at it
pub knows-there : (section : Cutting) (a b : Extent) (es : List Event) (p : ℕ) (head : List Event) (n : ℕ) → KnowsNext section (Ordered a b) → IsUpTo section.part es p head (p + n) → HasPast section es p head →
    event_at es (suc (p + n)) ≡ Some (Ordered a b) → KnowsPairs es p (suc (p + n)) (part_of es p head) (suc (length head + n)) a b
knows-there section a b es p head n knows up_to past here x y in-a in-b checked checked-too =
    let fs = part_of es p head in
    let there : event_at fs (suc (length head + n)) ≡ Some (Ordered a b) = part-event es p head n ∙ here in
    let far : length head + (p + n - p) ≡ length head + n = omega arith in
    let was = subst (λ m. KnowsPairs es p (p + n) fs m a b) far (knows es p head (p + n) up_to past) x y in-a in-b
    (sym (checked-same es (p + n) a b here x) ∙ checked) (sym (checked-same es (p + n) a b here y) ∙ checked-too) in
    let its = last-same fs (length head + n) a b there in
    elim was [
      | inl both ↦ inl ((let is = its x in let some = both.0 in omega arith), (let is = its y in let some = both.1 in omega arith))
      | inr late ↦ inr (let is = last-same es (p + n) a b here y in omega arith)
    ]

-- ---- the section takes an event

knows-other : (section : Cutting) (e : Event) → ((a b : Extent) → e ≡ Ordered a b → ⊥) → KnowsNext section e
knows-other section (Ordered a b) other = absurd (other a b refl)
knows-other section _ other = tt

-- as before, where it is no order assertion
pub tells-none : (old mid : Cutting) (e : Event) → mid ≡ old → ((a b : Extent) → e ≡ Ordered a b → ⊥) → TellsLost old mid e
tells-none old mid e same other = λ none. (sym (ap (λ (s : Cutting). s.lost) same) ∙ none, knows-other old e other)

pub stays-same : (old mid : Cutting) → mid ≡ old → StaysUpTo old.part mid.part
stays-same old mid same es p head n is = subst (λ (s : Cutting). IsUpTo s.part es p head n) (sym same) is

pub taken : (old mid new : Cutting) (e : Event) → HasPart mid old.number old.name old.file mid.part → StaysUpTo old.part mid.part → SamePast old mid → TellsLost old mid e → GoesOnUpTo mid.part new.part e →
    new.number ≡ mid.number → new.name ≡ mid.name → new.file ≡ mid.file → new.past ≡ mid.past → new.head ≡ mid.head → new.lost ≡ mid.lost → TakesEvent old new e
taken old mid new e same stays before lost goes_on number name file past head told = record {
  same = record { number_is = number ∙ same.number_is; name_is = name ∙ same.name_is; file_is = file ∙ same.file_is; part_is = refl };
  goes_on = λ es p head n here is. goes_on es p head n here (stays es p head n is);
  before = record { past = past ∙ before.past; head = head ∙ before.head };
  lost = λ none. lost (sym told ∙ none);
}
