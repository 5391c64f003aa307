-- The section of a number, among those of a log.
use Rattle.std.proofs.{Common.{◌≡◌, ℕ, ◌+◌, ◌<◌, List, [], ◌∷◌, ◌++◌, Ok, None, Option, map, length, take, get_or, sym, ◌∙◌, ap, subst, inl, inr, Contains, arith}, lemmas.List.{take_more, map-append, get_or-map, length-map}, lemmas.List.Elements.{Contains-push_cases, Contains-get_or}, lemmas.Grind.{common_steps}}
use Rattle.pmf_event.specs.Section.{Trace}
use Rattle.pmf_storelog.specs.{declared.fault.LogFault.{LogFault}, LogValue.{LogValue}, LogText.{events_in, log_of, numbers_of, section_named, sections_of, value_of, value_unless}, Separators.{records_of}}
use Rattle.pmf_query.specs.Locating.{IsFaultless}

-- none of the sections has the number
abbrev pub LacksNumber : List Trace → ℕ → Type 0
LacksNumber sections number = (t : Trace) → Contains sections t → t.name.number ≡ number → ⊥

-- nor have they with one more that hasn't
pub LacksNumber-more : {A : Type 0} (value : A → Trace) (xs : List A) (number i : ℕ) (x : A) → i < length xs → x ≡ get_or xs i x → ((value x).name.number ≡ number → ⊥) →
    LacksNumber (map value (take i xs)) number → LacksNumber (map value (take (i + 1) xs)) number
LacksNumber-more value xs number i x within is apart before = λ t found same.
    let longer = ap (map value) (take_more xs i x within ∙ ap (λ y. take i xs ++ y ∷ []) (sym is)) ∙ map-append value (take i xs) (x ∷ []) in
    elim (Contains-push_cases (map value (take i xs)) (value x) t (subst (λ ts. Contains ts t) longer found)) [
      | inl earlier ↦ before t earlier same
      | inr last ↦ apart (ap (λ (t : Trace). t.name.number) last ∙ same)
    ]

pub by_fault : (fault : Option LogFault) (value log : LogValue) → value_unless fault value ≡ Ok log → (fault ≡ None) × (log ≡ value)
by_fault fault value log is = grind (arith, common_steps)

-- a log that was read has no fault, and its sections are those of its records
pub read_so : (run : ℕ) (bytes : List ℕ) (log : LogValue) → log_of run bytes ≡ Ok log → IsFaultless bytes × (log.sections ≡ sections_of run (records_of bytes))
unfolding log_of value_of
read_so run bytes log is = grind (arith, common_steps, by_fault)

-- and one without a fault is read
pub reads : (run : ℕ) (bytes : List ℕ) → IsFaultless bytes → log_of run bytes ≡ Ok (value_of run bytes)
unfolding log_of
reads run bytes none = ap (λ fault. value_unless fault (value_of run bytes)) none

contains_from_map : (f : ℕ → Trace) (numbers : List ℕ) (t : Trace) → Contains (map f numbers) t → (number : ℕ) × Contains numbers number × (f number ≡ t)
contains_from_map f numbers t found =
    let inside : found.0 < length numbers = rw (length-map numbers f) at found.1 in
    (get_or numbers found.0 0, Contains-get_or numbers found.0 0 inside, sym (get_or-map f numbers found.0 0 t inside) ∙ found.2)

-- the section of the run with this number
abbrev section_in : ℕ → List (List ℕ) → ℕ → Trace
section_in run records number = section_named run number (events_in records number)

module _ (run : ℕ) (bytes : List ℕ) (sections : List Trace) (number : ℕ) (are : sections ≡ sections_of run (records_of bytes)) where
  -- the section that was found has the events of its records
  pub events_found : (t : Trace) → Contains sections t → t.name.number ≡ number → t.events ≡ events_in (records_of bytes) number
  unfolding sections_of
  events_found t found same =
      let from = contains_from_map (section_in run (records_of bytes)) (numbers_of (records_of bytes)) t (subst (λ (ts : List Trace). Contains ts t) are found) in
      let its : from.0 ≡ number = ap (λ (t : Trace). t.name.number) from.2 ∙ same in
      sym (ap (λ (t : Trace). t.events) from.2) ∙ ap (events_in (records_of bytes)) its
