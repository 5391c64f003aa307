-- The bytes of a log that are neither separators nor blanks all stand in its records, so that a record begins at one offset.
use Rattle.std.{proofs.Common.{◌≡◌, ℕ, zero, suc, ◌+◌, ◌-◌, ◌<◌, Bool, true, false, cond, List, [], ◌∷◌, ◌++◌, Some, length, take, drop, get_or, map, reverse, All, refl, sym, ap, subst, ◌∙◌, arith, inl, inr, not, ◌||◌, slice_get, filter, lt-ltb, get_or-drop, get_or-take, length-take-le, length-drop, take-append-drop}, specs.List.{prefix_len, suffix_len, slice_split, onto_first, AllByRecursion}, proofs.lemmas.Bool.{cases_lt}, proofs.lemmas.List.{get_or-reverse}, proofs.lemmas.List.Elements.{All-from_get_or}, proofs.lemmas.List.Sums.{prefix_len_passes, prefix_len-le-length, suffix_len-le-length}, proofs.Math.Seq.{take-add}, proofs.lemmas.Grind.{common_steps}}
use Rattle.pmf_storelog.specs.Separators.{is_separator, is_blank, is_filled, trimmed, without_front_blanks, without_end_blanks, records_in, parts_of, records_of}
use Rattle.pmf_query.specs.Locating.{StandsAt}

-- whether the byte is neither a separator nor a blank
unfoldable pub is_solid : ℕ → Bool
is_solid c = not (is_separator c || is_blank c)

-- how many such bytes there are
abbrev pub solids : List ℕ → ℕ
solids [] = 0
solids (c ∷ xs) = cond (is_solid c) 1 0 + solids xs

-- in each text of a list
abbrev pub solids_in : List (List ℕ) → ℕ
solids_in [] = 0
solids_in (text ∷ texts) = solids text + solids_in texts

solids-append : (xs ys : List ℕ) → solids (xs ++ ys) ≡ solids xs + solids ys
solids-append [] ys = omega arith
solids-append (c ∷ xs) ys = let rest = solids-append xs ys in omega (arith, rest)

solids-take-drop : (xs : List ℕ) (n : ℕ) → solids (take n xs) + solids (drop n xs) ≡ solids xs
solids-take-drop xs n = sym (solids-append (take n xs) (drop n xs)) ∙ ap (λ (ys : List ℕ). solids ys) (take-append-drop n xs)

either : (a : Bool) → not (a || true) ≡ false
either a = grind (arith, common_steps)

blank_no : (c : ℕ) → is_blank c ≡ true → is_solid c ≡ false
unfolding is_solid
blank_no c is = ap (λ b. not (is_separator c || b)) is ∙ either (is_separator c)

solid_yes : (c : ℕ) → is_separator c ≡ false → is_blank c ≡ false → is_solid c ≡ true
unfolding is_solid
solid_yes c apart close = rw (apart, close) refl

one_split : (b : Bool) (c : ℕ) (parts : List (List ℕ)) → is_separator c ≡ b → solids_in (cond b ([] ∷ parts) (onto_first c parts)) ≡ cond (is_solid c) 1 0 + solids_in parts
unfolding is_solid
one_split b c parts is = grind (arith, common_steps)

solids_split : (xs : List ℕ) → solids_in (slice_split is_separator xs) ≡ solids xs
solids_split [] = refl
solids_split (c ∷ xs) = one_split (is_separator c) c (slice_split is_separator xs) refl ∙ ap (λ n. cond (is_solid c) 1 0 + n) (solids_split xs)

solids-blank : (xs : List ℕ) → All (λ c. is_blank c ≡ true) xs → solids xs ≡ 0
solids-blank [] blank = refl
solids-blank (c ∷ xs) blank =
    rw (blank_no c (blank 0 0 (omega arith))) (let rest = solids-blank xs (λ k d l. blank (suc k) d (omega arith)) in omega (arith, rest))

solids_front : (xs : List ℕ) → solids (without_front_blanks xs) ≡ solids xs
unfolding without_front_blanks
solids_front xs =
    let few = prefix_len-le-length is_blank xs in
    let none = solids-blank (take (prefix_len is_blank xs) xs)
    (All-from_get_or (λ c. is_blank c ≡ true) (take (prefix_len is_blank xs) xs) 0
    (λ k below.
    let short : k < prefix_len is_blank xs = omega (arith, length-take-le (prefix_len is_blank xs) xs few) in
    ap is_blank (get_or-take (prefix_len is_blank xs) xs k 0 short) ∙ prefix_len_passes is_blank xs k 0 short)) in
    omega (arith, none, solids-take-drop xs (prefix_len is_blank xs))

solids_end : (xs : List ℕ) → solids (without_end_blanks xs) ≡ solids xs
unfolding without_end_blanks
solids_end xs =
    let few = suffix_len-le-length is_blank xs in
    let n = length xs - suffix_len is_blank xs in
    let none = solids-blank (drop (length xs - suffix_len is_blank xs) xs)
    (All-from_get_or (λ c. is_blank c ≡ true) (drop (length xs - suffix_len is_blank xs) xs) 0
    (λ k below.
    let long = length-drop (length xs - suffix_len is_blank xs) xs in
    let short : k < suffix_len is_blank xs = omega arith in
    let back : length xs - 1 - (suffix_len is_blank xs - 1 - k) ≡ length xs - suffix_len is_blank xs + k = omega arith in
    ap is_blank
    (get_or-drop (length xs - suffix_len is_blank xs) xs k 0 ∙ ap (λ i. get_or xs i 0) (sym back)
    ∙ sym (get_or-reverse xs (suffix_len is_blank xs - 1 - k) 0 (omega arith)))
    ∙ prefix_len_passes is_blank (reverse xs) (suffix_len is_blank xs - 1 - k) 0 (omega arith))) in
    omega (arith, none, solids-take-drop xs (length xs - suffix_len is_blank xs))

solids_trimmed : (part : List ℕ) → solids (trimmed part) ≡ solids part
solids_trimmed part = solids_end (without_front_blanks part) ∙ solids_front part

keeps : (text : List ℕ) (texts : List (List ℕ)) → solids_in (cond (is_filled text) (text ∷ texts) texts) ≡ solids text + solids_in texts
keeps text texts = grind (arith, common_steps, lt-ltb)

solids_filled : (parts : List (List ℕ)) → solids_in (filter is_filled (map (λ part. trimmed part) parts)) ≡ solids_in parts
solids_filled [] = refl
solids_filled (part ∷ parts) =
    keeps (trimmed part) (filter is_filled (map (λ part. trimmed part) parts))
    ∙ ap (λ n. n + solids_in (filter is_filled (map (λ part. trimmed part) parts))) (solids_trimmed part) ∙ ap (λ n. solids part + n) (solids_filled parts)

-- those of the records are those of all bytes
pub solids_records : (bytes : List ℕ) → solids_in (records_of bytes) ≡ solids bytes
unfolding records_in parts_of
solids_records bytes = solids_filled (slice_split is_separator bytes) ∙ solids_split bytes

-- ---- a record begins with a byte of that kind

-- no byte of any part is a separator
abbrev NoneSeparates : List ℕ → Type 0
NoneSeparates part = AllByRecursion (λ c. is_separator c ≡ false) part

split_parts : (b : Bool) (c : ℕ) (parts : List (List ℕ)) → is_separator c ≡ b → AllByRecursion NoneSeparates parts → AllByRecursion NoneSeparates (cond b ([] ∷ parts) (onto_first c parts))
split_parts true c parts is none = (tt, none)
split_parts false c [] is none = ((is, tt), tt)
split_parts false c (part ∷ parts) is none = ((is, none.0), none.1)

parts_none : (xs : List ℕ) → AllByRecursion NoneSeparates (slice_split is_separator xs)
parts_none [] = (tt, tt)
parts_none (c ∷ xs) = split_parts (is_separator c) c (slice_split is_separator xs) refl (parts_none xs)

-- the text is empty, or begins with a solid byte
abbrev EmptyOrSolid : List ℕ → Type 0
EmptyOrSolid [] = Unit {0}
EmptyOrSolid (c ∷ text) = is_solid c ≡ true

-- the text begins with a solid byte
abbrev BeginsSolid : List ℕ → Type 0
BeginsSolid [] = ⊥
BeginsSolid (c ∷ text) = is_solid c ≡ true

behind_blank : (b : Bool) (c : ℕ) (part : List ℕ) → is_blank c ≡ b → is_separator c ≡ false → EmptyOrSolid (without_front_blanks part) → EmptyOrSolid (cond b (without_front_blanks part) (c ∷ part))
behind_blank true c part is apart rest = rest
behind_blank false c part is apart rest = solid_yes c apart is

front_step : (b : Bool) (c : ℕ) (part : List ℕ) → drop (cond b (1 + prefix_len is_blank part) 0) (c ∷ part) ≡ cond b (drop (prefix_len is_blank part) part) (c ∷ part)
front_step true c part = let one : 1 + prefix_len is_blank part ≡ suc (prefix_len is_blank part) = omega arith in ap (λ n. drop n (c ∷ part)) one
front_step false c part = refl

front_solid : (part : List ℕ) → NoneSeparates part → EmptyOrSolid (without_front_blanks part)
unfolding without_front_blanks
front_solid [] none = tt
front_solid (c ∷ part) none =
    subst (λ (text : List ℕ). EmptyOrSolid text) (sym (front_step (is_blank c) c part))
    (behind_blank (is_blank c) c part refl none.0 (front_solid part none.1))

take_solid : (n : ℕ) (text : List ℕ) → EmptyOrSolid text → EmptyOrSolid (take n text)
take_solid zero text solid = tt
take_solid (suc n) [] solid = tt
take_solid (suc n) (c ∷ text) solid = solid

end_solid : (text : List ℕ) → EmptyOrSolid text → EmptyOrSolid (without_end_blanks text)
unfolding without_end_blanks
end_solid text solid = take_solid (length text - suffix_len is_blank text) text solid

kept_solid : (text : List ℕ) (texts : List (List ℕ)) → EmptyOrSolid text → AllByRecursion BeginsSolid texts → AllByRecursion BeginsSolid (cond (is_filled text) (text ∷ texts) texts)
kept_solid [] texts solid rest = rest
kept_solid (c ∷ text) texts solid rest = subst (λ (b : Bool). AllByRecursion BeginsSolid (cond b ((c ∷ text) ∷ texts) texts)) (sym (lt-ltb 0 (length (c ∷ text)) (omega arith))) (solid, rest)

records_solid : (parts : List (List ℕ)) → AllByRecursion NoneSeparates parts → AllByRecursion BeginsSolid (filter is_filled (map (λ part. trimmed part) parts))
records_solid [] none = tt
records_solid (part ∷ parts) none =
    kept_solid (trimmed part) (filter is_filled (map (λ part. trimmed part) parts)) (end_solid (without_front_blanks part) (front_solid part none.0)) (records_solid parts none.1)

all_solid : (bytes : List ℕ) → AllByRecursion BeginsSolid (records_of bytes)
unfolding records_in parts_of
all_solid bytes = records_solid (slice_split is_separator bytes) (parts_none bytes)

solid_at : (texts : List (List ℕ)) (k : ℕ) (text : List ℕ) → AllByRecursion BeginsSolid texts → slice_get texts k ≡ Some text → BeginsSolid text
solid_at [] k text solid is = cc
solid_at (other ∷ texts) zero text solid is = let same : other ≡ text = cc in subst BeginsSolid same solid.0
solid_at (other ∷ texts) (suc k) text solid is = solid_at texts k text solid.1 is

-- a text that stands at an offset makes more of them behind it
counted : (text more : List ℕ) (n : ℕ) → BeginsSolid text → 0 < n → 0 < solids (take n (text ++ more))
counted [] more n solid some = absurd solid
counted (c ∷ text) more zero solid some = absurd (omega arith)
counted (c ∷ text) more (suc n) solid some = rw solid (omega arith)

module _ (bytes : List ℕ) (k o p : ℕ) (text other : List ℕ) (first : StandsAt bytes k o text) (second : StandsAt bytes k p other) where
  same_solids : solids (take o bytes) ≡ solids (take p bytes)
  same_solids = sym (solids_records (take o bytes)) ∙ ap (λ (records : List (List ℕ)). solids_in records) (first.before ∙ sym second.before) ∙ solids_records (take p bytes)

  pub not_behind : o < p → ⊥
  not_behind less =
      let solid = solid_at (records_of bytes) k text (all_solid bytes) first.is in
      let here : text ++ drop (length text) (drop o bytes) ≡ drop o bytes = ap (λ (front : List ℕ). front ++ drop (length text) (drop o bytes)) (sym first.here) ∙ take-append-drop (length text) (drop o bytes) in
      let some : 0 < solids (take (p - o) (drop o bytes)) = subst (λ (rest : List ℕ). 0 < solids (take (p - o) rest)) here (counted text (drop (length text) (drop o bytes)) (p - o) solid (omega arith)) in
      let far : o + (p - o) ≡ p = omega arith in
      let more : solids (take p bytes) ≡ solids (take o bytes) + solids (take (p - o) (drop o bytes)) =
      ap (λ n. solids (take n bytes)) (sym far) ∙ ap (λ (xs : List ℕ). solids xs) (take-add o (p - o) bytes) ∙ solids-append (take o bytes) (take (p - o) (drop o bytes)) in
      omega (arith, same_solids)

pub one_offset : (bytes : List ℕ) (k o p : ℕ) (text other : List ℕ) → StandsAt bytes k o text → StandsAt bytes k p other → o ≡ p
one_offset bytes k o p text other first second = elim (cases_lt o p) [
  | inl less ↦ absurd (not_behind bytes k o p text other first second less)
  | inr le ↦ elim (cases_lt p o) [
    | inl less ↦ absurd (not_behind bytes k p o other text second first less)
    | inr ge ↦ omega arith
  ]
]
