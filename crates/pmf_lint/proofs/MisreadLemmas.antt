-- Which assertions are misread, by where the events of each section stand.
use Rattle.std.{proofs.Common.{◌≡◌, inl, inr, ℕ, zero, suc, ◌+◌, ◌-◌, ◌<◌, ◌==◌, Bool, true, false, ◌&&◌, ◌||◌, List, [], ◌∷◌, length, map, take, get_or, slice_get, Option, Some, None, Result, Ok, Err, Contains, refl, sym, ap, subst, ◌∙◌, arith, eqb-true, eq-eqb}, proofs.lemmas.Bool.{and_from, and_parts, cases_lt, or_cases, or_parts, or_right}, proofs.lemmas.List.{get_or-map, length-map}, proofs.lemmas.List.Folds.{list_any_at, list_any_more}, proofs.lemmas.Option.{get_or_from_slice_get, slice_get_cases, slice_get_within}, specs.List.{list_any}}
use Rattle.pmf_event.specs.{declared.event.Event.{Event}, Section.{Trace}, Store.{event_at}}
use Rattle.pmf_storelog.specs.{declared.record.Saying.{Saying}, declared.record.Saying.TheVariants.{Enters, Happens, Skipped}, declared.fault.Cause.{Cause}, LogText.{current_at, events_in, numbered, numbers_of, reading_at, section_named, sections_of}, Separators.{records_of}}
use Rattle.pmf_query.{specs.declared.locate.Located.{Located}, specs.Decimal.{asserts_decimal}, specs.Locating.{AreLocations, Gives}, proofs.GivingLemmas.{its_event, one_record}, proofs.NumberFoundLemmas.{events_found}}
use Rattle.pmf_lint.{specs.Ending.{has_decimal}, specs.Misread.{has_misread, is_decimal_there, is_misread, is_misread_record, misread_among, misreads, misreads_at, some_misread}, proofs.UpkeepLemmas.{misread_here}}

-- ---- one or the other

same_when : (a b : Bool) → (a ≡ true → b ≡ true) → (b ≡ true → a ≡ true) → a ≡ b
same_when true b to from = sym (to refl)
same_when false true to from = from refl
same_when false false to from = refl

untrue : {X : Type 0} → false ≡ true → X
untrue is = absurd cc

-- where an address is decimal, the one is the other
pub if_decimal : (decimal misread found : Bool) → decimal ≡ true → found ≡ misread → found ≡ (decimal && misread)
if_decimal true misread found so is = is
if_decimal false misread found so is = untrue so

-- ---- of the events

among_some : (es : List Event) (located : List Located) (n : ℕ) → misread_among es located n ≡ true → (j : ℕ) × (j < n) × (is_decimal_there (slice_get located j) ≡ true) × (is_misread es (suc j) ≡ true)
unfolding misread_among
among_some es located zero is = untrue is
among_some es located (suc k) is = elim (or_cases (misread_among es located k) (is_decimal_there (slice_get located k) && is_misread es (suc k)) is) [
  | inl before ↦ let found = among_some es located k before in let within = found.1 in (found.0, omega arith, found.2, found.3)
  | inr here ↦ let both = and_parts (is_decimal_there (slice_get located k)) (is_misread es (suc k)) here in (k, omega arith, both.0, both.1)
]

among_from : (es : List Event) (located : List Located) (n j : ℕ) → j < n → is_decimal_there (slice_get located j) ≡ true → is_misread es (suc j) ≡ true → misread_among es located n ≡ true
unfolding misread_among
among_from es located zero j within decimal is = absurd (omega (arith, within))
among_from es located (suc k) j within decimal is = elim (cases_lt j k) [
  | inl early ↦ ap (λ b. b || (is_decimal_there (slice_get located k) && is_misread es (suc k))) (among_from es located k j early decimal is)
  | inr late ↦
      let here : j ≡ k = omega (arith, within, late) in
      or_right (misread_among es located k) _ (and_from (is_decimal_there (slice_get located k)) (is_misread es (suc k))
      (subst (λ i. is_decimal_there (slice_get located i) ≡ true) here decimal) (subst (λ i. is_misread es (suc i) ≡ true) here is))
]

pub among_more : (es : List Event) (located : List Located) (k : ℕ) → misread_among es located k ≡ false → (is_decimal_there (slice_get located k) && is_misread es (suc k)) ≡ false → misread_among es located (suc k) ≡ false
unfolding misread_among
among_more es located k none here = ap (λ b. b || (is_decimal_there (slice_get located k) && is_misread es (suc k))) none ∙ here

pub among_none : (es : List Event) (located : List Located) → misread_among es located 0 ≡ false
unfolding misread_among
among_none es located = refl

pub among_here : (es : List Event) (located : List Located) (n k : ℕ) → k < n → (is_decimal_there (slice_get located k) && is_misread es (suc k)) ≡ true → misread_among es located n ≡ true
among_here es located n k within is =
    let both = and_parts (is_decimal_there (slice_get located k)) (is_misread es (suc k)) is in among_from es located n k within both.0 both.1

-- ---- of the records

some_found : (records : List (List ℕ)) (number n : ℕ) → some_misread records number n ≡ true → (k : ℕ) × (k < n) × (is_misread_record records number k ≡ true)
unfolding some_misread
some_found records number zero is = untrue is
some_found records number (suc k) is = elim (or_cases (some_misread records number k) (is_misread_record records number k) is) [
  | inl before ↦ let found = some_found records number k before in let within = found.1 in (found.0, omega arith, found.2)
  | inr here ↦ (k, omega arith, here)
]

some_from : (records : List (List ℕ)) (number n k : ℕ) → k < n → is_misread_record records number k ≡ true → some_misread records number n ≡ true
unfolding some_misread
some_from records number zero k within is = absurd (omega (arith, within))
some_from records number (suc m) k within is = elim (cases_lt k m) [
  | inl early ↦ ap (λ b. b || is_misread_record records number m) (some_from records number m k early is)
  | inr late ↦ let here : k ≡ m = omega (arith, within, late) in or_right (some_misread records number m) _ (subst (λ i. is_misread_record records number i ≡ true) here is)
]

some_none : (records : List (List ℕ)) (number n : ℕ) → ((k : ℕ) → k < n → asserts_decimal (get_or records k []) ≡ false) → some_misread records number n ≡ false
unfolding some_misread is_misread_record
some_none records number zero none = refl
some_none records number (suc k) none =
    ap (λ b. b || is_misread_record records number k) (some_none records number k (λ j within. none j (omega (arith, within))))
    ∙ ap (λ b. b && list_any (misreads_at records number k) (numbered (current_at records k) (reading_at records k))) (none k (omega arith))

-- what one record gives
given_some : (records : List (List ℕ)) (number k current : ℕ) (reading : Result Saying Cause) → list_any (misreads_at records number k) (numbered current reading) ≡ true →
    (e : Event) × (numbered current reading ≡ (number, e) ∷ []) × (misreads (events_in records number) (length (events_in (take k records) number)) (Some e) ≡ true)
given_some records number k current (Ok (Happens e)) is = elim (or_cases (misreads_at records number k (current, e)) false is) [
  | inl here ↦
      let both = and_parts (current == number) (misreads (events_in records number) (length (events_in (take k records) number)) (Some e)) here in
      (e, ap (λ c. (c, e) ∷ []) (eqb-true current number both.0), both.1)
  | inr none ↦ untrue none
]
given_some records number k current (Ok (Enters n)) is = untrue is
given_some records number k current (Ok Skipped) is = untrue is
given_some records number k current (Err cause) is = untrue is

record_found : (records : List (List ℕ)) (number k : ℕ) → is_misread_record records number k ≡ true → (e : Event) × (numbered (current_at records k) (reading_at records k) ≡ (number, e) ∷ [])
    × (misreads (events_in records number) (length (events_in (take k records) number)) (Some e) ≡ true) × (asserts_decimal (get_or records k []) ≡ true)
unfolding is_misread_record
record_found records number k is =
    let both = and_parts (asserts_decimal (get_or records k [])) (list_any (misreads_at records number k) (numbered (current_at records k) (reading_at records k))) is in
    let given = given_some records number k (current_at records k) (reading_at records k) both.1 in
    (given.0, given.1, given.2, both.0)

record_from : (records : List (List ℕ)) (number k : ℕ) (e : Event) → numbered (current_at records k) (reading_at records k) ≡ (number, e) ∷ [] → asserts_decimal (get_or records k []) ≡ true →
    misreads (events_in records number) (length (events_in (take k records) number)) (Some e) ≡ true → is_misread_record records number k ≡ true
unfolding is_misread_record
record_from records number k e says decimal is =
    let here : misreads_at records number k (number, e) ≡ true = and_from (number == number) _ (eq-eqb number number refl) is in
    and_from (asserts_decimal (get_or records k [])) _ decimal (ap (list_any (misreads_at records number k)) says ∙ ap (λ b. b || false) here)

-- ---- of a section

decimal_there : (o : Option Located) → is_decimal_there o ≡ true → (l : Located) × (o ≡ Some l) × (asserts_decimal l.text.now ≡ true)
decimal_there None is = untrue is
decimal_there (Some l) is = (l, refl, is)

place_is : (es : List Event) (j : ℕ) (e : Event) → slice_get es j ≡ Some e → event_at es (suc j) ≡ Some e
unfolding event_at
place_is es j e is = is

module _ (bytes : List ℕ) (number : ℕ) (located : List Located) (are : AreLocations bytes number located) where
  among_records : misread_among (events_in (records_of bytes) number) located (length (events_in (records_of bytes) number)) ≡ true → some_misread (records_of bytes) number (length (records_of bytes)) ≡ true
  among_records is =
      let records = records_of bytes in
      let es = events_in records number in
      let found = among_some es located (length es) is in
      let j = found.0 in
      let l = decimal_there (slice_get located j) found.2 in
      let at = are.each j l.0 l.1 in
      let gives = at.gives in
      let before : j + 1 - 1 ≡ j = omega arith in
      let event = subst (λ n. slice_get es n ≡ Some at.event) before (its_event records number (j + 1) at.event at.index gives) in
      let place : length (events_in (take at.index records) number) ≡ j = let behind = gives.behind in omega arith in
      some_from records number (length records) at.index gives.within
      (record_from records number at.index at.event gives.says (ap (λ text. asserts_decimal text) (get_or_from_slice_get records at.index l.0.text.now [] at.stands.is) ∙ l.2)
      (subst (λ p. misreads es p (Some at.event) ≡ true) (sym place) (sym (misread_here es j at.event (place_is es j at.event event)) ∙ found.3)))

  records_among : some_misread (records_of bytes) number (length (records_of bytes)) ≡ true → misread_among (events_in (records_of bytes) number) located (length (events_in (records_of bytes) number)) ≡ true
  records_among is =
      let records = records_of bytes in
      let es = events_in records number in
      let found = some_found records number (length records) is in
      let k = found.0 in
      let given = record_found records number k found.2 in
      let p = length (events_in (take k records) number) in
      let gives : Gives records number (p + 1) given.0 k = record { within = found.1; says = given.1; behind = refl } in
      let before : p + 1 - 1 ≡ p = omega arith in
      let event = subst (λ n. slice_get es n ≡ Some given.0) before (its_event records number (p + 1) given.0 k gives) in
      let within = slice_get_within es p given.0 event in
      elim ((slice_get_cases located p).1) [
        | inl some ↦
            let at = are.each p some.0 some.2 in
            let same = one_record records number (p + 1) given.0 at.event k at.index gives at.gives in
            let text = get_or_from_slice_get records at.index some.0.text.now [] at.stands.is in
            let decimal = ap (λ text. asserts_decimal text) (sym text) ∙ ap (λ i. asserts_decimal (get_or records i [])) (sym same) ∙ given.3 in
            among_from es located (length es) p within (ap (λ o. is_decimal_there o) some.2 ∙ decimal) (misread_here es p given.0 (place_is es p given.0 event) ∙ given.2)
        | inr past ↦ absurd (omega (arith, within, are.all, past.0))
      ]

  section_same : misread_among (events_in (records_of bytes) number) located (length (events_in (records_of bytes) number)) ≡ some_misread (records_of bytes) number (length (records_of bytes))
  section_same = same_when _ _ among_records records_among

-- ---- of all sections

-- whether an assertion of the section is misread
abbrev pub is_of_misread : {A : Type 0} → (A → Trace) → List ℕ → A → Bool
is_of_misread value bytes x = some_misread (records_of bytes) (value x).name.number (length (records_of bytes))

any_values : {A : Type 0} (value : A → Trace) (f : Trace → Bool) (xs : List A) → list_any (λ x. f (value x)) xs ≡ list_any f (map value xs)
any_values value f [] = refl
any_values value f (x ∷ xs) = ap (λ b. f (value x) || b) (any_values value f xs)

any_numbers : (run : ℕ) (records : List (List ℕ)) (f : ℕ → Bool) (numbers : List ℕ) → list_any (λ (t : Trace). f t.name.number) (map (λ number. section_named run number (events_in records number)) numbers) ≡ list_any f numbers
any_numbers run records f [] = refl
any_numbers run records f (x ∷ xs) = ap (λ b. f x || b) (any_numbers run records f xs)

none_of_them : (f : ℕ → Bool) (numbers : List ℕ) → ((number : ℕ) → f number ≡ false) → list_any f numbers ≡ false
none_of_them f [] none = refl
none_of_them f (x ∷ xs) none = ap (λ b. b || list_any f xs) (none x) ∙ none_of_them f xs none

decimal_nowhere : (records : List (List ℕ)) → list_any asserts_decimal records ≡ false → (k : ℕ) → k < length records → asserts_decimal (get_or records k []) ≡ false
decimal_nowhere [] none k within = absurd (omega (arith, within))
decimal_nowhere (x ∷ records) none zero within = (or_parts (asserts_decimal x) (list_any asserts_decimal records) none).0
decimal_nowhere (x ∷ records) none (suc k) within = decimal_nowhere records (or_parts (asserts_decimal x) (list_any asserts_decimal records) none).1 k (omega (arith, within))

-- where no address is decimal, nothing is misread
pub none_decimal : (records : List (List ℕ)) → has_decimal records ≡ false → false ≡ has_misread records
unfolding has_decimal has_misread
none_decimal records none = sym (none_of_them (λ number. some_misread records number (length records)) (numbers_of records) (λ number. some_none records number (length records) (decimal_nowhere records none)))

module _ {A : Type 0} (value : A → Trace) (run : ℕ) (bytes : List ℕ) (xs : List A) (are : map value xs ≡ sections_of run (records_of bytes)) where
  -- one of the sections
  pub section_here : (i : ℕ) (x : A) (located : List Located) → i < length xs → x ≡ get_or xs i x → AreLocations bytes (value x).name.number located →
      misread_among (value x).events located (length (value x).events) ≡ is_of_misread value bytes x
  section_here i x located within is stands =
      let found : Contains (map value xs) (value x) = (i, omega (arith, within, length-map xs value), get_or-map value xs i x (value x) within ∙ ap value (sym is)) in
      let same = events_found run bytes (map value xs) (value x).name.number are (value x) found refl in
      subst (λ es. misread_among es located (length es) ≡ is_of_misread value bytes x) (sym same) (section_same bytes (value x).name.number located stands)

  pub all_sections : list_any (is_of_misread value bytes) xs ≡ has_misread (records_of bytes)
  unfolding has_misread sections_of
  all_sections =
      let f = λ (number : ℕ). some_misread (records_of bytes) number (length (records_of bytes)) in
      any_values value (λ (t : Trace). f t.name.number) xs ∙ ap (list_any (λ (t : Trace). f t.name.number)) are ∙ any_numbers run (records_of bytes) f (numbers_of (records_of bytes))

  pub found_here : (i : ℕ) (x : A) (located : List Located) → i < length xs → x ≡ get_or xs i x → AreLocations bytes (value x).name.number located →
      misread_among (value x).events located (length (value x).events) ≡ true → true ≡ has_misread (records_of bytes)
  found_here i x located within is stands any =
      let here = sym (section_here i x located within is stands) ∙ any in
      sym (list_any_at (is_of_misread value bytes) xs i x within (subst (λ y. is_of_misread value bytes y ≡ true) is here)) ∙ all_sections

  pub none_here : (i : ℕ) (x : A) (located : List Located) → i < length xs → x ≡ get_or xs i x → AreLocations bytes (value x).name.number located →
      misread_among (value x).events located (length (value x).events) ≡ false → list_any (is_of_misread value bytes) (take i xs) ≡ false → list_any (is_of_misread value bytes) (take (i + 1) xs) ≡ false
  none_here i x located within is stands none before =
      let here = sym (section_here i x located within is stands) ∙ none in
      list_any_more (is_of_misread value bytes) xs i x within ∙ ap (λ b. b || is_of_misread value bytes (get_or xs i x)) before ∙ subst (λ y. is_of_misread value bytes y ≡ false) is here
