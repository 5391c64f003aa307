-- The first so many of some rows, section for section.
use Rattle.std.{proofs.Common.{◌≡◌, ℕ, ◌+◌, ◌-◌, List, [], ◌∷◌, ◌++◌, Option, None, Some, length, map, take, drop, filter, flat_map, refl, sym, ap, ◌∙◌, arith, length-append, take-append-drop, append-nil, zero, suc}, proofs.lemmas.List.{length-map, take_at}, proofs.lemmas.List.Elements.{filter-append}, proofs.lemmas.Grind.{common_steps, flat_map-append}, specs.Option.{option_map}}
use Rattle.pmf_event.specs.{declared.row.Row.{Row}, declared.profile.Profile.{Profile}, Section.{Trace}}
use Rattle.pmf_verdict.specs.Rows.{rows_of}
use Rattle.pmf_query.specs.{AllExplained.{Failed, failures, fails, first_of, text_of_failed}, Asking.{text_if_failed}}

-- of two lists, the first and what is left for the second
take_both : {X : Type 0} (n : ℕ) (xs ys : List X) → take n (xs ++ ys) ≡ take n xs ++ take (n - length xs) ys
take_both zero xs ys = let is : 0 ≡ 0 - length xs = omega arith in ap (λ k. take k ys) is
take_both (suc n) [] ys = let is : suc n ≡ suc n - 0 = omega arith in ap (λ k. take k ys) is
take_both (suc n) (x ∷ xs) ys =
    let is : n - length xs ≡ suc n - suc (length xs) = omega arith in
    ap (λ rest. x ∷ rest) (take_both n xs ys) ∙ ap (λ k. x ∷ take n xs ++ take k ys) is

take_mapped : {X Y : Type 0} (f : X → Y) (n : ℕ) (xs : List X) → take n (map f xs) ≡ map f (take n xs)
take_mapped f zero xs = refl
take_mapped f (suc n) [] = refl
take_mapped f (suc n) (x ∷ xs) = ap (λ rest. f x ∷ rest) (take_mapped f n xs)

pub first_both : {X : Type 0} (n : Option ℕ) (xs ys : List X) → first_of n (xs ++ ys) ≡ first_of n xs ++ first_of (option_map (λ k. k - length xs) n) ys
unfolding first_of
first_both None xs ys = refl
first_both (Some n) xs ys = take_both n xs ys

less_again : (n : Option ℕ) (a b c : ℕ) → c ≡ a + b → option_map (λ k. k - b) (option_map (λ k. k - a) n) ≡ option_map (λ k. k - c) n
less_again None a b c is = refl
less_again (Some n) a b c is = ap (λ m. Some m) (omega (arith, is))

first_mapped : {X Y : Type 0} (f : X → Y) (n : Option ℕ) (xs : List X) → first_of n (map f xs) ≡ map f (first_of n xs)
unfolding first_of
first_mapped f None xs = refl
first_mapped f (Some n) xs = take_mapped f n xs

-- ---- the rows of a section

module _ (rows : List Row) (i more : ℕ) (left : Option ℕ) (is : left ≡ Some (more + length (filter fails (take i rows)))) (none : more ≡ 0) where
  parted : filter fails rows ≡ filter fails (take i rows) ++ filter fails (drop i rows)
  parted = ap (filter fails) (sym (take-append-drop i rows)) ∙ filter-append fails (take i rows) (drop i rows)

  all_used : left ≡ Some (length (filter fails (take i rows)))
  all_used = is ∙ ap (λ n. Some n) (omega (arith, none))

  -- as many as may be told stand in front
  pub front_told : filter fails (take i rows) ≡ first_of left (filter fails rows)
  unfolding first_of
  front_told = sym (ap (λ l. first_of l (filter fails rows)) all_used ∙ ap (take (length (filter fails (take i rows)))) parted ∙ take_at (filter fails (take i rows)) (filter fails (drop i rows)) (length (filter fails (take i rows))) refl)

  pub none_left : Some 0 ≡ option_map (λ n. n - length (filter fails rows)) left
  none_left =
      let long = ap length parted ∙ length-append (filter fails (take i rows)) (filter fails (drop i rows)) in
      ap (λ n. Some n) (omega (arith, long)) ∙ sym (ap (option_map (λ n. n - length (filter fails rows))) all_used)

texts_so : (t : Trace) (rows : List Row) → flat_map (text_if_failed t.name t.events) rows ≡ flat_map text_of_failed (map (λ row. record { section = t; row = row }) (filter fails rows))
unfolding text_if_failed
texts_so t [] = refl
texts_so t (row ∷ rows) = grind (arith, common_steps, texts_so t rows)

module _ (profile : Profile) (t : Trace) where
  abbrev here : Row → Failed
  here row = record { section = t; row = row }

  pub count_so : length (filter fails (rows_of profile t.events)) ≡ length (failures profile t)
  unfolding failures
  count_so = sym (length-map (filter fails (rows_of profile t.events)) here)

  -- the text of the rows that are told
  pub section_so : (n : Option ℕ) (rows : List Row) → filter fails rows ≡ first_of n (filter fails (rows_of profile t.events)) →
      flat_map (text_if_failed t.name t.events) rows ≡ flat_map text_of_failed (first_of n (failures profile t))
  unfolding failures
  section_so n rows is = texts_so t rows ∙ ap (λ xs. flat_map text_of_failed (map here xs)) is ∙ ap (flat_map text_of_failed) (sym (first_mapped here n (filter fails (rows_of profile t.events))))

-- nothing is told where nothing is left
pub none_told : (left : Option ℕ) (fs : List Failed) → left ≡ Some 0 → [] ≡ flat_map text_of_failed (first_of left fs)
unfolding first_of
none_told left fs is = sym (ap (λ l. flat_map text_of_failed (first_of l fs)) is)

none_taken : (n : Option ℕ) → n ≡ option_map (λ k. k - 0) n
none_taken None = refl
none_taken (Some n) = ap (λ k. Some k) (omega arith)

first_of_none : (n : Option ℕ) (fs : List Failed) → fs ≡ [] → first_of n fs ≡ []
unfolding first_of
first_of_none None fs is = is
first_of_none (Some zero) fs is = refl
first_of_none (Some (suc n)) fs is = ap (take (suc n)) is

-- ---- all sections

module _ (profile : Profile) (first : Option ℕ) where
  abbrev pub text_first : List Trace → List ℕ
  text_first sections = flat_map text_of_failed (first_of first (flat_map (failures profile) sections))

  abbrev pub left_of : List Trace → Option ℕ
  left_of sections = option_map (λ k. k - length (flat_map (failures profile) sections)) first

  first_sections : (sections more : List Trace) → first_of first (flat_map (failures profile) (sections ++ more)) ≡ first_of first (flat_map (failures profile) sections) ++ first_of (left_of sections) (flat_map (failures profile) more)
  first_sections sections more = ap (first_of first) (flat_map-append (failures profile) sections more) ∙ first_both first (flat_map (failures profile) sections) (flat_map (failures profile) more)

  -- more sections, more text
  pub text_on : (sections more : List Trace) → text_first (sections ++ more) ≡ text_first sections ++ flat_map text_of_failed (first_of (left_of sections) (flat_map (failures profile) more))
  text_on sections more = ap (flat_map text_of_failed) (first_sections sections more) ∙ flat_map-append text_of_failed (first_of first (flat_map (failures profile) sections)) (first_of (left_of sections) (flat_map (failures profile) more))

  pub text_one : (sections : List Trace) (t : Trace) → text_first (sections ++ t ∷ []) ≡ text_first sections ++ flat_map text_of_failed (first_of (left_of sections) (failures profile t))
  text_one sections t = text_on sections (t ∷ []) ∙ ap (λ xs. text_first sections ++ flat_map text_of_failed (first_of (left_of sections) xs)) (append-nil (failures profile t))

  pub left_one : (sections : List Trace) (t : Trace) → option_map (λ k. k - length (failures profile t)) (left_of sections) ≡ left_of (sections ++ t ∷ [])
  left_one sections t = less_again first (length (flat_map (failures profile) sections)) (length (failures profile t)) (length (flat_map (failures profile) (sections ++ t ∷ [])))
      (ap length (flat_map-append (failures profile) sections (t ∷ []) ∙ ap (λ xs. flat_map (failures profile) sections ++ xs) (append-nil (failures profile t))) ∙ length-append (flat_map (failures profile) sections) (failures profile t))

  -- no section, no text
  pub left_none : first ≡ left_of []
  left_none = none_taken first

  pub text_none : text_first [] ≡ []
  text_none = ap (flat_map text_of_failed) (first_of_none first (flat_map (failures profile) []) refl)

  -- the text of the first sections goes on to that of all
  pub goes_on : (sections more all : List Trace) → all ≡ sections ++ more → (text : List ℕ) → text ≡ text_first sections → (rest : List ℕ) × (text ++ rest ≡ text_first all)
  goes_on sections more all is text tells =
      let rest = flat_map text_of_failed (first_of (left_of sections) (flat_map (failures profile) more)) in
      (rest, ap (λ t. t ++ rest) tells ∙ sym (ap text_first is ∙ text_on sections more))
