-- The slots of a roll: at their places, in the order of their names, and with the verdicts that they keep.
use Rattle.std.{proofs.Common.{◌≡◌, ◌≢◌, ℕ, zero, suc, ◌+◌, ◌<◌, ◌≤◌, List, [], ◌∷◌, ◌++◌, map, length, refl, sym, ◌∙◌, ap, subst, arith, inl, inr, get_or, set, zip, take, false, Err, IsPermutation, Ordering, Less, Equal, Greater, is_lt, All, None}, specs.List.{AllZip, range_with_len}, specs.List.Sorted.{IsSortedByKey, IsBinarySearchResult}, specs.Cmp.{IsTotalOrder}, proofs.lemmas.Simd.{map-map}, proofs.lemmas.List.{length-map, get_or-map, take_all}, proofs.lemmas.List.FromFn.{fill_by_all, map-range_with_len_more}, proofs.lemmas.List.Elements.{AllZip-get_or, length_all_zip, All-map}, proofs.lemmas.List.Sorted.{IsPermutation-map, ranks_by, sorted_far, searchable_from_sorted, IsPermutation-sym, All-permutation}, proofs.lemmas.Cmp.{nat_cmp_total, on_total, then_total}, proofs.lemmas.Grind.{common_steps}, proofs.lemmas.Bool.{cases_lt}}
use Rattle.pmf_event.specs.{declared.name.Name.{Name}, declared.profile.Profile.{Profile}, Section.{Trace}}
use Rattle.pmf_verdict.specs.Checked.{Checked, checked_by}
use Rattle.pmf_ledger.{specs.Names.{IsBefore}, specs.Repeats.{AreOwn, HaveOwnNames, is_name, names_of, section_at, no_section}, proofs.lemmas.NameLemmas.{before-itself, before-trans, before-total, compared, compares_tells, Tells}, proofs.lemmas.RepeatLemmas.{before-compares, is_name-yes, repeats-permuted, some_two}}
use Rattle.pmf_farm.specs.Rolls.{IsQueueOf, Keeps, RollRises, Slotted, Stays, checks, slot_at, slots_by, with_places}

-- what the slots check are the sections, by the profile
pub checks-slots : (profile : Profile) (ss : List Trace) → checks (slots_by profile ss) ≡ map (checked_by profile) ss
checks-slots profile ss =
    map-map _ _ (range_with_len 0 (length ss)) ∙ sym (map-map (checked_by profile) (section_at ss) (range_with_len 0 (length ss)))
    ∙ ap (map (checked_by profile)) (sym (fill_by_all (section_at ss) ss (length ss) no_section refl (λ k below. refl)))

-- the slots of one more section
pub slots_more : {S : Type 0} (value : S → Trace) (profile : Profile) (sections : List S) (k : ℕ) (s : S) → k < length sections → s ≡ get_or sections k s →
    map (slot_at profile (map value sections)) (range_with_len 0 (k + 1)) ≡ map (slot_at profile (map value sections)) (range_with_len 0 k) ++ record { checked = checked_by profile (value s); place = k; filled = false } ∷ []
slots_more value profile sections k s inside is =
    map-range_with_len_more (slot_at profile (map value sections)) 0 k k (omega arith)
    ∙ ap (λ (x : Trace). map (slot_at profile (map value sections)) (range_with_len 0 k) ++ record { checked = checked_by profile x; place = k; filled = false } ∷ []) (get_or-map value sections k s no_section inside ∙ ap value (sym is))

-- two lists of one list, taken together
zip-maps : {X A B : Type 0} (f : X → A) (g : X → B) (xs : List X) → zip (map f xs) (map g xs) ≡ map (λ x. (f x, g x)) xs
zip-maps f g [] = refl
zip-maps f g (x ∷ xs) = ap (λ rest. (f x, g x) ∷ rest) (zip-maps f g xs)

-- placed sections that were moved have the sections of the roll with their places
pub places-moved : {P : Type 0} (f : P → Trace × ℕ) (roll : List Slotted) (n : ℕ) (placed moved : List P) → with_places (take n roll) ≡ map f placed → length roll ≤ n → IsPermutation placed moved → IsPermutation (with_places roll) (map f moved)
places-moved f roll n placed moved same all by = subst (λ xs. IsPermutation xs (map f moved)) (sym same ∙ ap with_places (take_all n roll all)) (IsPermutation-map f placed moved by)

-- and a queue that is made of them is one of the roll
pub queue-of : {P : Type 0} (f : P → Trace) (g : P → ℕ) (roll : List Slotted) (placed yielded : List P) (sections : List Trace) (places : List ℕ) → map (λ p. p) yielded ≡ placed → sections ≡ map f yielded → places ≡ map g yielded → IsPermutation (with_places roll) (map (λ p. (f p, g p)) placed) → IsQueueOf roll sections places
queue-of f g roll placed yielded sections places all first second moved = grind (arith, common_steps, zip-maps, map-map)

-- where one element changes, and each other is related to itself
all_zip-same : {X : Type 0} (R : X → X → Type 0) (xs : List X) → ((i : ℕ) (d : X) → i < length xs → R (get_or xs i d) (get_or xs i d)) → AllZip R xs xs
all_zip-same R [] each = tt
all_zip-same R (x ∷ xs) each = (each 0 x (omega arith), all_zip-same R xs (λ i d inside. each (suc i) d (omega (arith, inside))))

all_zip-set : {X : Type 0} (R : X → X → Type 0) (xs : List X) (k : ℕ) (d y : X) → k < length xs → R (get_or xs k d) y → ((i : ℕ) (d : X) → i < length xs → i ≢ k → R (get_or xs i d) (get_or xs i d)) → AllZip R xs (set xs k y)
all_zip-set R [] k d y inside here others = absurd (omega (arith, inside))
all_zip-set R (x ∷ xs) zero d y inside here others = (here, all_zip-same R xs (λ i e less. others (suc i) e (omega (arith, less)) (λ is. omega (arith, is))))
all_zip-set R (x ∷ xs) (suc k) d y inside here others = (
  others 0 x (omega arith) (λ is. omega (arith, is)),
  all_zip-set R xs k d y (omega (arith, inside)) here (λ i e less apart. others (suc i) e (omega (arith, less)) (λ is. apart (omega (arith, is)))),
)

abbrev pub name_in : Slotted → Name
name_in s = s.checked.section.name

names_total : IsTotalOrder compared
names_total = then_total (on_total (λ n. n.run) nat_cmp_total) (on_total (λ n. n.number) nat_cmp_total)

not_less : (a b : Name) (found : Ordering) → Tells b a found → IsBefore a b → is_lt found ≡ false
not_less a b found tells before = grind (arith, common_steps, before-itself, before-trans)

module _ (verdict : Checked) (roll : List Slotted) where
  -- a slot of another section keeps nothing
  keeps-other : (s : Slotted) → name_in s ≢ verdict.section.name → Keeps verdict s s
  keeps-other s other = grind (arith, common_steps)

  told : (d : Slotted) (k : ℕ) (o : Ordering) → compared (name_in (get_or roll k d)) verdict.section.name ≡ o → Tells (name_in (get_or roll k d)) verdict.section.name o
  told d k o is = subst (Tells (name_in (get_or roll k d)) verdict.section.name) is (compares_tells (name_in (get_or roll k d)) verdict.section.name)

  -- the verdict goes into the slot where its name was found
  pub keeps-found : (k : ℕ) (slot new : Slotted) → RollRises roll → k < length roll → ((d : Slotted) → compared (name_in (get_or roll k d)) verdict.section.name ≡ Equal) → Keeps verdict (get_or roll k slot) new → AllZip (Keeps verdict) roll (set roll k new)
  keeps-found k slot new rises inside found keeps =
      all_zip-set (Keeps verdict) roll k slot new inside keeps (λ i d less apart. keeps-other (get_or roll i d) (λ same.
      let here : name_in (get_or roll k d) ≡ verdict.section.name = told d k Equal (found d) in
      let before = rises i k d in
      let behind = rises k i d in
      grind (arith, common_steps, before-itself, before, behind)))

  -- where its name was not found, no slot is of its section
  pub keeps-none : (k : ℕ) (name : Name) → name ≡ verdict.section.name → RollRises roll → IsBinarySearchResult (λ s. compared (name_in s) name) roll (Err k) → AllZip (Keeps verdict) roll roll
  keeps-none k name named rises found =
      let missing = subst (λ n. IsBinarySearchResult (λ s. compared (name_in s) n) roll (Err k)) named found in
      let parts = missing (searchable_from_sorted names_total name_in roll verdict.section.name (λ i d low less. not_less _ _ _ (compares_tells (name_in (get_or roll (i + 1) d)) (name_in (get_or roll i d))) (rises i (i + 1) d (omega arith) less))) in
      all_zip-same (Keeps verdict) roll (λ i d inside. keeps-other (get_or roll i d) (λ same.
      elim (cases_lt i k) [
        | inl low ↦ before-itself verdict.section.name (subst (λ n. IsBefore n verdict.section.name) same (told d i Less (parts.0 i d (omega arith) low)))
        | inr high ↦ before-itself verdict.section.name (subst (IsBefore verdict.section.name) same (told d i Greater (parts.1 i d high inside)))
      ]))

-- what stays
pub stays_itself : (roll : List Slotted) → AllZip Stays roll roll
stays_itself [] = tt
stays_itself (s ∷ ss) = (record { checked = refl; place = refl; filled = λ full. full }, stays_itself ss)

pub stays-then_keeps : (verdict : Checked) (a b c : List Slotted) → AllZip Stays a b → AllZip (Keeps verdict) b c → AllZip Stays a c
stays-then_keeps verdict [] [] [] first second = tt
stays-then_keeps verdict [] [] (z ∷ c) first second = absurd second
stays-then_keeps verdict [] (y ∷ b) c first second = absurd first
stays-then_keeps verdict (x ∷ a) [] c first second = absurd first
stays-then_keeps verdict (x ∷ a) (y ∷ b) [] first second = absurd second
stays-then_keeps verdict (x ∷ a) (y ∷ b) (z ∷ c) first second = grind (arith, common_steps, stays-then_keeps verdict a b c first.1 second.1)

pub stays-checks : (a b : List Slotted) → AllZip Stays a b → checks b ≡ checks a
stays-checks [] [] stays = refl
stays-checks [] (y ∷ b) stays = absurd stays
stays-checks (x ∷ a) [] stays = absurd stays
stays-checks (x ∷ a) (y ∷ b) stays = ap (λ c. c ∷ checks b) stays.0.checked ∙ ap (λ rest. x.checked ∷ rest) (stays-checks a b stays.1)

pub stays-rises : (a b : List Slotted) → AllZip Stays a b → RollRises a → RollRises b
stays-rises a b stays rises i j d less inside =
    let long : length a ≡ length b = length_all_zip Stays a b stays in
    let at : (k : ℕ) → k < length b → (get_or b k d).checked ≡ (get_or a k d).checked = λ k low. (AllZip-get_or Stays a b k d d stays (omega (arith, long, low))).checked in
    rw (at i (omega (arith, less, inside)), at j inside) (rises i j d less (omega (arith, long, inside)))

module _ (profile : Profile) (ss : List Trace) (roll : List Slotted) (moved : IsPermutation (slots_by profile ss) roll) where
  names-slots : map name_in (slots_by profile ss) ≡ names_of ss
  names-slots = sym (map-map (λ (c : Checked). c.section.name) (λ (s : Slotted). s.checked) (slots_by profile ss)) ∙ ap (map (λ (c : Checked). c.section.name)) (checks-slots profile ss) ∙ map-map (λ (c : Checked). c.section.name) (checked_by profile) ss

  own-names : HaveOwnNames ss → AreOwn (map name_in roll)
  own-names own = repeats-permuted (map name_in roll) (names_of ss) (IsPermutation-sym _ _ (subst (λ ns. IsPermutation ns (map name_in roll)) names-slots (IsPermutation-map name_in (slots_by profile ss) roll moved))) None own

  -- a roll that is sorted by names that are its own
  pub rises-sorted : HaveOwnNames ss → IsSortedByKey name_in compared roll → RollRises roll
  rises-sorted own sorted i j d less inside =
      let a = name_in (get_or roll i d) in
      let b = name_in (get_or roll j d) in
      let far = sorted_far (λ x y. is_lt (compared (name_in x) (name_in y))) (ranks_by names_total name_in) roll sorted i j d (omega (arith, less)) inside in
      let named : (k : ℕ) → k < length roll → get_or (map name_in roll) k b ≡ name_in (get_or roll k d) = λ k low. get_or-map name_in roll k d b low in
      let apart : a ≢ b = λ same. own-names own b (some_two (is_name b) (map name_in roll) i j b less (omega (arith, inside, length-map roll name_in)) (is_name-yes b _ (named i (omega (arith, less, inside)) ∙ same)) (is_name-yes b _ (named j inside))) in
      let ahead : IsBefore b a → ⊥ = λ behind. before-compares b a behind far in
      grind (arith, common_steps, before-total, apart, ahead)

  -- each slot is by the profile
  pub by-profile : All (λ (s : Slotted). s.checked.profile ≡ profile) roll
  by-profile = All-permutation (λ (s : Slotted). s.checked.profile ≡ profile) (slots_by profile ss) roll moved (All-map (λ (s : Slotted). s.checked.profile ≡ profile) (slot_at profile ss) (range_with_len 0 (length ss)) (λ i d inside. refl))
