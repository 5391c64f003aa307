-- What one more record adds to where the events of each section stand.
use Rattle.std.proofs.{Common.{◌≡◌, ℕ, zero, suc, ◌+◌, List, [], ◌∷◌, ◌++◌, Some, Result, Ok, Err, ◌⊎◌, inl, inr, length, length-append, take, slice_get, refl, sym, ap, subst, ◌∙◌}, lemmas.Bool.{cases_eq}}
use Rattle.std.specs.{Result.{OnOk}, Option.{option_map, unwrap_or}, Ordering.{nat_cmp}, BTreeMap.{IsEmpty, is_at}, Map.{lookup}}
use Rattle.pmf_event.specs.declared.event.Event.{Event}
use Rattle.pmf_storelog.{specs.Separators.{records_of}, specs.Records.{record_of}, specs.declared.fault.Cause.{Cause}, specs.declared.record.Saying.TheVariants.{Happens, Enters, Skipped}}
use Rattle.pmf_query.{specs.declared.locate.Located.{Located}, specs.declared.standing.Standing.{Standing}, specs.declared.standing.Walked.{Walked}, specs.Locating.{IsLocation}, specs.Passing.{HasPassed}, specs.Standing.{AddsLocation, HasWalked, located_in, passed_of}, specs.Walking.{IsNext}}
use Rattle.pmf_query.proofs.{LocationLemmas.{located}, PassedLemmas.{gives_next, passed_none, passed_here, passed_elsewhere, passed_marker, passed_nothing, passed_refused}}

pub on_ok : {E A B : Type 0} (r : Result (Unit {0}) E) → (A → B) → OnOk r A → OnOk r B
on_ok (Ok u) f a = f a
on_ok (Err e) f a = a

-- what stands in a list with one thing more: one of those before, or the last one
one_of_those : {A : Type 0} (xs : List A) (y : A) (k : ℕ) (x : A) → slice_get (xs ++ y ∷ []) k ≡ Some x → (slice_get xs k ≡ Some x) ⊎ ((k ≡ length xs) × (x ≡ y))
one_of_those [] y zero x is = inr (refl, cc)
one_of_those [] y (suc k) x is = absurd cc
one_of_those (z ∷ xs) y zero x is = inl is
one_of_those (z ∷ xs) y (suc k) x is = elim (one_of_those xs y k x is) [
  | inl before ↦ inl before
  | inr last ↦ inr (ap suc last.0, last.1)
]

pub walked_none : (bytes : List ℕ) (w : Walked) → w.records ≡ 0 → w.current ≡ 0 → IsEmpty w.standing.places → HasWalked bytes [] w
walked_none bytes w count current none =
    let nothing : (section : ℕ) → located_in w.standing section ≡ [] = λ section. ap (λ es. unwrap_or (option_map (λ found. found.items) (lookup (is_at (nat_cmp section)) es)) []) none in record {
      passed = λ section. passed_none section (passed_of w section) count current (ap length (nothing section));
      each = λ section k l at. absurd cc;
    }

module _ (bytes : List ℕ) (start offset : ℕ) (text : List ℕ) (next : ℕ) (found : IsNext bytes start offset text next) (old : Walked) (walked : HasWalked bytes (records_of (take start bytes)) old) where
  -- what stands for the records up to this one, where it stands for those before it and this one
  behind : (new : Walked) → HasWalked bytes (records_of (take start bytes) ++ text ∷ []) new → HasWalked bytes (records_of (take next bytes)) new
  behind new is = subst (λ (records : List (List ℕ)). HasWalked bytes records new) (sym found.adds) is

  -- a record that gives no event
  still : (new : Walked) → new.standing ≡ old.standing → ((section : ℕ) → HasPassed section (records_of (take start bytes) ++ text ∷ []) (passed_of new section)) → HasWalked bytes (records_of (take next bytes)) new
  still new same passes = behind new (record {
    passed = passes;
    each = λ section k l at. walked.each section k l (subst (λ (s : Standing). slice_get (located_in s section) k ≡ Some l) same at);
  })

  pub walked_marker : (number : ℕ) (new : Walked) → record_of text ≡ Ok (Enters number) → new.records ≡ old.records + 1 → new.current ≡ number → new.standing ≡ old.standing → HasWalked bytes (records_of (take next bytes)) new
  walked_marker number new says count current same = still new same
      (λ section. passed_marker section _ (passed_of old section) (walked.passed section) text number (passed_of new section) says count current (ap (λ (s : Standing). length (located_in s section)) same))

  pub walked_nothing : (new : Walked) → record_of text ≡ Ok Skipped → new.records ≡ old.records + 1 → new.current ≡ old.current → new.standing ≡ old.standing → HasWalked bytes (records_of (take next bytes)) new
  walked_nothing new says count current same = still new same
      (λ section. passed_nothing section _ (passed_of old section) (walked.passed section) text (passed_of new section) says count current (ap (λ (s : Standing). length (located_in s section)) same))

  pub walked_refused : (cause : Cause) (new : Walked) → record_of text ≡ Err cause → new.records ≡ old.records + 1 → new.current ≡ old.current → new.standing ≡ old.standing → HasWalked bytes (records_of (take next bytes)) new
  walked_refused cause new says count current same = still new same
      (λ section. passed_refused section _ (passed_of old section) (walked.passed section) text cause (passed_of new section) says count current (ap (λ (s : Standing). length (located_in s section)) same))

  module _ (event : Event) (new : Walked) (says : record_of text ≡ Ok (Happens event)) (count : new.records ≡ old.records + 1) (current : new.current ≡ old.current) (l : Located) (record_is : l.record ≡ new.records) (offset_is : l.offset ≡ offset) (text_is : l.text.now ≡ text) (adds : AddsLocation old.current l old.standing new.standing) where
    passes : (section : ℕ) → HasPassed section (records_of (take start bytes) ++ text ∷ []) (passed_of new section)
    passes section = elim (cases_eq old.current section) [
      | inl here ↦ passed_here section _ (passed_of old section) (walked.passed section) text event (passed_of new section) says here count current
          (subst (λ (n : ℕ). length (located_in new.standing n) ≡ length (located_in old.standing n) + 1) here (ap length adds.here ∙ length-append (located_in old.standing old.current) (l ∷ [])))
      | inr apart ↦ passed_elsewhere section _ (passed_of old section) (walked.passed section) text event (passed_of new section) says apart count current
          (ap length (adds.elsewhere section (λ same. apart (sym same))))
    ]

    stands_there : (section k : ℕ) (it : Located) → old.current ≡ section → (k ≡ length (located_in old.standing old.current)) × (it ≡ l) → IsLocation bytes section (k + 1) it.record it.offset it.text.now
    stands_there section k it here last =
        let reached : length (located_in old.standing section) + 1 ≡ k + 1 = subst (λ (n : ℕ). length (located_in old.standing n) + 1 ≡ k + 1) here (sym (ap (λ (n : ℕ). n + 1) last.0)) in
        let gives = gives_next section (records_of (take start bytes)) (passed_of old section) (walked.passed section) text event (k + 1) says here reached in
        let number : l.record ≡ length (records_of (take start bytes)) + 1 = record_is ∙ count ∙ ap (λ (n : ℕ). n + 1) (walked.passed section).count in
        let there = located bytes start offset text next found section (k + 1) l.record gives number in
        subst (λ (x : Located). IsLocation bytes section (k + 1) x.record x.offset x.text.now) (sym last.1)
        (subst (λ (o : ℕ). IsLocation bytes section (k + 1) l.record o l.text.now) (sym offset_is)
        (subst (λ (t : List ℕ). IsLocation bytes section (k + 1) l.record offset t) (sym text_is) there))

    pub walked_event : HasWalked bytes (records_of (take next bytes)) new
    walked_event = behind new (record {
      passed = passes;
      each = λ section k it at. elim (cases_eq old.current section) [
        | inl here ↦ elim (one_of_those (located_in old.standing old.current) l k it (ap (λ (ls : List Located). slice_get ls k) (sym adds.here) ∙ subst (λ (n : ℕ). slice_get (located_in new.standing n) k ≡ Some it) (sym here) at)) [
          | inl before ↦ walked.each section k it (subst (λ (n : ℕ). slice_get (located_in old.standing n) k ≡ Some it) here before)
          | inr last ↦ stands_there section k it here last
        ]
        | inr apart ↦ walked.each section k it (ap (λ (ls : List Located). slice_get ls k) (sym (adds.elsewhere section (λ same. apart (sym same)))) ∙ at)
      ];
    })
