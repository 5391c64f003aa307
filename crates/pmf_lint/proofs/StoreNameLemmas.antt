-- The names of stores, with one place more and with one section more.
use Rattle.std.proofs.{Common.{◌≡◌, ℕ, zero, suc, ◌+◌, ◌-◌, ◌<◌, ◌≤◌, Bool, true, false, ◌&&◌, cond, List, [], ◌∷◌, ◌++◌, Option, Some, None, length, length-append, map, take, get_or, slice_get, slice_index_or, refl, sym, ap, subst, ◌∙◌, arith, append_assoc, append-nil, sum_by}, lemmas.Option.{slice_get_past}, lemmas.List.Concat.{length-flat_map}, lemmas.List.{map-append, take_more}, lemmas.List.Sums.{sum_by-append, sum_by-le-sum_by}, lemmas.Grind.{flat_map-append}}
use Rattle.pmf_event.specs.{declared.event.Event.{Event}, Section.{Trace}}
use Rattle.pmf_query.specs.declared.locate.Located.{Located}
use Rattle.pmf_lint.specs.{declared.listing.Listing.{Listing}, declared.storing.StoreNames.{StoreNames}, Counting.{Lists}, Covering.{is_uncovered}, Leaving.{leaves_unfenced, leaves_unwritten}, Marks.{Marks}, StoreNames.{AreNamed, is_asked, name_there, names_among, names_over}}

-- where no record stands there is no name
pub none_there : (marked : Bool) (located : List Located) (k : ℕ) (names : List (List ℕ)) → length located ≤ k → names ≡ names ++ cond marked (name_there (slice_get located k)) []
none_there false located k names past = sym (append-nil names)
none_there true located k names past = sym (ap (λ found. names ++ name_there found) (slice_get_past located k past) ∙ append-nil names)

one_there : (found : Option Located) → length (name_there found) ≤ 1
one_there None = omega arith
one_there (Some l) = omega arith

one_if : (b : Bool) (found : Option Located) → length (cond b (name_there found) []) ≤ 1
one_if true found = one_there found
one_if false found = omega arith

-- no more names than places
pub few_among : (test : ℕ → Bool) (stands : List Located) (n : ℕ) → length (names_among test stands n) ≤ n
unfolding names_among
few_among test stands zero = omega arith
few_among test stands (suc k) =
    omega (arith, length-append (names_among test stands k) (cond (test (suc k)) (name_there (slice_get stands k)) []), few_among test stands k, one_if (test (suc k)) (slice_get stands k))

-- one place further
pub among_more : (test : ℕ → Bool) (stands : List Located) (k : ℕ) (names : List (List ℕ)) (b : Bool) → test (suc k) ≡ b →
    (names ++ names_among test stands k) ++ cond b (name_there (slice_get stands k)) [] ≡ names ++ names_among test stands (suc k)
unfolding names_among
among_more test stands k names b is =
    append_assoc names (names_among test stands k) (cond b (name_there (slice_get stands k)) [])
    ∙ ap (λ c. names ++ (names_among test stands k ++ cond c (name_there (slice_get stands k)) [])) (sym is)

-- whether the place is marked
abbrev pub is_marked : List Bool → ℕ → Bool
is_marked marks k = slice_index_or marks (k - 1) false

-- as the list says of the index before it
pub marked_here : (marks : List Bool) (k : ℕ) → is_marked marks (suc k) ≡ slice_index_or marks k false
marked_here marks k = let before : suc k - 1 ≡ k = omega arith in ap (λ j. slice_index_or marks j false) before

-- no place
pub among_none : (test : ℕ → Bool) (stands : List Located) (names : List (List ℕ)) → names ≡ names ++ names_among test stands 0
unfolding names_among
among_none test stands names = sym (append-nil names)

pub same_among : (test other : ℕ → Bool) (stands : List Located) (n : ℕ) → ((k : ℕ) → k < n → test (suc k) ≡ other (suc k)) → names_among test stands n ≡ names_among other stands n
unfolding names_among
same_among test other stands zero same = refl
same_among test other stands (suc k) same =
    ap (λ names. names ++ cond (test (suc k)) (name_there (slice_get stands k)) []) (same_among test other stands k (λ j within. same j (omega (arith, within))))
    ∙ ap (λ b. names_among other stands k ++ cond b (name_there (slice_get stands k)) []) (same k (omega arith))

-- the names at the marked places are those at the places that pass
pub marked_among : (test : ℕ → Bool) (stands : List Located) (n : ℕ) (marks : List Bool) → Marks test n marks → names_among (is_marked marks) stands (length marks) ≡ names_among test stands n
marked_among test stands n marks are =
    ap (names_among (is_marked marks) stands) are.long
    ∙ same_among (is_marked marks) test stands n (λ k within. marked_here marks k ∙ are.each k false within)

-- ---- those that are asked for

none_pass : (test : ℕ → Bool) (stands : List Located) (n : ℕ) → ((k : ℕ) → test k ≡ false) → names_among test stands n ≡ []
unfolding names_among
none_pass test stands zero none = refl
none_pass test stands (suc k) none = ap (λ names. names ++ cond (test (suc k)) (name_there (slice_get stands k)) []) (none_pass test stands k none) ∙ ap (λ b. cond b (name_there (slice_get stands k)) []) (none (suc k))

pub not_asked : (asked : Bool) (es : List Event) (stands : List Located) (n : ℕ) (names : List (List ℕ)) → asked ≡ false → names ≡ names ++ names_among (is_asked asked es) stands n
not_asked asked es stands n names unasked = sym (ap (λ more. names ++ more) (none_pass (is_asked asked es) stands n (λ k. ap (λ b. b && is_uncovered es k) unasked)) ∙ append-nil names)

pub asked_marks : (asked : Bool) (es : List Event) (n : ℕ) (marks : List Bool) → asked ≡ true → Marks (is_uncovered es) n marks → Marks (is_asked asked es) n marks
asked_marks asked es n marks for_all are = record { long = are.long; each = λ k d within. are.each k d within ∙ sym (ap (λ b. b && is_uncovered es (suc k)) for_all) }

-- ---- one section more

over_more : (stands : ℕ → List Located) (test : List Event → ℕ → Bool) (sections : List Trace) (t : Trace) →
    names_over stands test (sections ++ t ∷ []) ≡ names_over stands test sections ++ names_among (test t.events) (stands t.name.number) (length t.events)
unfolding names_over
over_more stands test sections t =
    flat_map-append (λ (s : Trace). names_among (test s.events) (stands s.name.number) (length s.events)) sections (t ∷ [])
    ∙ ap (λ names. names_over stands test sections ++ names) (append-nil (names_among (test t.events) (stands t.name.number) (length t.events)))

module _ (stands : ℕ → List Located) (asked : Bool) (sections : List Trace) (t : Trace) (es : List Event) (located : List Located) (same : es ≡ t.events) (there : stands t.name.number ≡ located) where
  listed_more : (test : List Event → ℕ → Bool) (listing : Listing) → Lists listing (names_over stands test sections ++ names_among (test es) located (length es)) → Lists listing (names_over stands test (sections ++ t ∷ []))
  listed_more test listing lists = subst (Lists listing)
      (ap (λ ls. names_over stands test sections ++ names_among (test es) ls (length es)) (sym there)
      ∙ ap (λ fs. names_over stands test sections ++ names_among (test fs) (stands t.name.number) (length fs)) same ∙ sym (over_more stands test sections t)) lists

  pub named_more : (new : StoreNames) → Lists new.unwritten (names_over stands leaves_unwritten sections ++ names_among (leaves_unwritten es) located (length es)) →
      Lists new.unfenced (names_over stands leaves_unfenced sections ++ names_among (leaves_unfenced es) located (length es)) →
      Lists new.unasserted (names_over stands (is_asked asked) sections ++ names_among (is_asked asked es) located (length es)) → AreNamed stands asked (sections ++ t ∷ []) new
  named_more new unwritten unfenced unasserted = record {
    unwritten = listed_more leaves_unwritten new.unwritten unwritten;
    unfenced = listed_more leaves_unfenced new.unfenced unfenced;
    unasserted = listed_more (is_asked asked) new.unasserted unasserted;
  }

-- no more names than events
pub few_over : (stands : ℕ → List Located) (test : List Event → ℕ → Bool) (sections : List Trace) → length (names_over stands test sections) ≤ sum_by (λ (t : Trace). length t.events) sections
unfolding names_over
few_over stands test sections =
    let long = length-flat_map (λ (t : Trace). names_among (test t.events) (stands t.name.number) (length t.events)) sections in
    let few = sum_by-le-sum_by (λ (t : Trace). length (names_among (test t.events) (stands t.name.number) (length t.events))) (λ (t : Trace). length t.events) sections (λ t. few_among (test t.events) (stands t.name.number) (length t.events)) in
    omega (arith, long, few)

-- no section
pub named_none : (stands : ℕ → List Located) (asked : Bool) (names : StoreNames) → Lists names.unwritten [] → Lists names.unfenced [] → Lists names.unasserted [] → AreNamed stands asked [] names
unfolding names_over
named_none stands asked names unwritten unfenced unasserted = record { unwritten = unwritten; unfenced = unfenced; unasserted = unasserted }

-- the sections of a list up to one place further
pub sections_more : {A : Type 0} (value : A → Trace) (xs : List A) (i : ℕ) (x : A) → i < length xs → x ≡ get_or xs i x → map value (take (i + 1) xs) ≡ map value (take i xs) ++ value x ∷ []
sections_more value xs i x within is = ap (map value) (take_more xs i x within ∙ ap (λ y. take i xs ++ y ∷ []) (sym is)) ∙ map-append value (take i xs) (x ∷ [])

pub events_more : {A : Type 0} (value : A → Trace) (xs : List A) (i : ℕ) (x : A) → i < length xs → x ≡ get_or xs i x →
    sum_by (λ (t : Trace). length t.events) (map value (take (i + 1) xs)) ≡ sum_by (λ (t : Trace). length t.events) (map value (take i xs)) + length (value x).events
events_more value xs i x within is =
    let more = ap (sum_by (λ (t : Trace). length t.events)) (sections_more value xs i x within is) ∙ sum_by-append (λ (t : Trace). length t.events) (map value (take i xs)) (value x ∷ []) in omega (arith, more)
