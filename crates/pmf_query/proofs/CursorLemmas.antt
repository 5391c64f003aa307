-- The records before and after an offset at which they begin anew.
use Rattle.std.{proofs.Common.{◌≡◌, ℕ, ◌+◌, ◌-◌, ◌<◌, ◌≤◌, true, List, [], ◌∷◌, ◌++◌, Option, Some, None, MatchOption, length, take, drop, All, refl, sym, ap, subst, ◌∙◌, arith, append_assoc, append-nil, take_at, length-take-le, length-drop, take-append-drop}, specs.List.{prefix_len, suffix_len}, proofs.lemmas.List.{take_rest, take-take, drop-append-le, drop-drop}, proofs.lemmas.List.Elements.{All-from_get_or}, proofs.lemmas.List.Sums.{prefix_len_is, prefix_len_passes, prefix_len-le-length}, proofs.lemmas.List.Splits.{slice_split_none}, proofs.Math.Seq.{take-add, drop-length}, proofs.lemmas.Grind.{common_steps}}
use Rattle.memchr.specs.Find.{IsFirstByte, is_byte3}
use Rattle.pmf_storelog.{specs.Separators.{is_separator, is_blank, trimmed, without_front_blanks, without_end_blanks, records_in, parts_of, records_of}, proofs.SplitLemmas.{split_filled, joined, joined_at}, proofs.PartLemmas.{parts_of-append, records_in-append, separator_found}, proofs.TallyLemmas.{records_in-blank, records_in-filled}}
use Rattle.pmf_query.specs.Walking.{BeginsAnew, IsNext, IsPart}

pub records_of_nil : records_of [] ≡ []
unfolding parts_of records_in without_front_blanks without_end_blanks
records_of_nil = refl

parts_filled : (bytes : List ℕ) → 0 < length (parts_of bytes)
unfolding parts_of
parts_filled = split_filled is_separator

by_parts : (part : List ℕ) (parts : List (List ℕ)) → 0 < length parts → records_in (joined (part ∷ [] ∷ []) parts) ≡ records_in (part ∷ []) ++ records_in parts
by_parts part [] filled = absurd (omega arith)
by_parts part (next ∷ later) filled = ap records_in (joined_at (part ∷ []) [] next later) ∙ records_in-append (part ∷ []) (next ∷ later)

-- a separator at the end of some bytes ends their records
pub records_of-cut : (xs ys part : List ℕ) → parts_of xs ≡ part ∷ [] ∷ [] → records_of (xs ++ ys) ≡ records_in (part ∷ []) ++ records_of ys
records_of-cut xs ys part ends = grind (arith, common_steps, parts_of-append, joined, by_parts, parts_filled)

pub anew_first : (bytes : List ℕ) → BeginsAnew bytes 0
anew_first bytes = grind (arith, common_steps, records_of_nil)

-- where the records begin anew, those of all bytes fall apart
pub anew_all : (bytes : List ℕ) (start : ℕ) → BeginsAnew bytes start → start ≤ length bytes → records_of bytes ≡ records_of (take start bytes) ++ records_of (drop start bytes)
anew_all bytes start anew within = grind (arith, common_steps, take_rest)

module _ (bytes : List ℕ) (start : ℕ) (anew : BeginsAnew bytes start) where
  -- a separator stands behind `len` more bytes
  module _ (len : ℕ) (ends : parts_of (take (len + 1) (drop start bytes)) ≡ take len (drop start bytes) ∷ [] ∷ []) where
    cut_joins : (n : ℕ) → records_of (take (start + len + 1 + n) bytes)
        ≡ (records_of (take start bytes) ++ records_in (take len (drop start bytes) ∷ [])) ++ records_of (take n (drop (start + len + 1) bytes))
    cut_joins n =
        let far : start + len + 1 + n ≡ start + (len + 1 + n) = omega arith in
        let next : start + (len + 1) ≡ start + len + 1 = omega arith in
        let rest = drop start bytes in
        ap (λ m. records_of (take m bytes)) far ∙ anew.joins (len + 1 + n)
        ∙ ap (λ xs. records_of (take start bytes) ++ records_of xs) (take-add (len + 1) n (drop start bytes))
        ∙ ap (λ records. records_of (take start bytes) ++ records) (records_of-cut (take (len + 1) (drop start bytes)) (take n (drop (len + 1) (drop start bytes))) (take len (drop start bytes)) ends)
        ∙ ap (λ xs. records_of (take start bytes) ++ (records_in (take len (drop start bytes) ∷ []) ++ records_of (take n xs))) (drop-drop (len + 1) start bytes ∙ ap (λ m. drop m bytes) next)
        ∙ sym (append_assoc (records_of (take start bytes)) (records_in (take len (drop start bytes) ∷ [])) (records_of (take n (drop (start + len + 1) bytes))))

    cut_adds : records_of (take (start + len + 1) bytes) ≡ records_of (take start bytes) ++ records_in (take len (drop start bytes) ∷ [])
    cut_adds =
        let none : start + len + 1 ≡ start + len + 1 + 0 = omega arith in
        ap (λ m. records_of (take m bytes)) none ∙ cut_joins 0
        ∙ ap (λ records. (records_of (take start bytes) ++ records_in (take len (drop start bytes) ∷ [])) ++ records) records_of_nil
        ∙ append-nil (records_of (take start bytes) ++ records_in (take len (drop start bytes) ∷ []))

    pub part_cut : start + len < length bytes → IsPart bytes start len (start + len + 1)
    part_cut within = record {
      further = omega arith;
      within = omega arith;
      inside = omega arith;
      anew = record { joins = λ n. cut_joins n ∙ ap (λ records. records ++ records_of (take n (drop (start + len + 1) bytes))) (sym cut_adds) };
      adds = cut_adds;
    }

  -- no separator stands in the rest
  pub part_last : start < length bytes → parts_of (drop start bytes) ≡ drop start bytes ∷ [] → IsPart bytes start (length bytes - start) (length bytes)
  part_last within open_end = grind (arith, common_steps, take_rest, drop-length, append-nil, records_of_nil)

-- ---- blanks

all_blank : (xs : List ℕ) → All (λ c. is_blank c ≡ true) xs → length (trimmed xs) ≡ 0
unfolding without_front_blanks without_end_blanks
all_blank xs blank =
    let whole : prefix_len is_blank xs ≡ length xs = prefix_len_is is_blank xs (length xs) 0 (omega arith) (λ k l. blank k 0 l) (λ l. absurd (omega arith)) in
    let none : drop (prefix_len is_blank xs) xs ≡ [] = ap (λ n. drop n xs) whole ∙ drop-length xs in
    ap (λ ys. length (take (length ys - suffix_len is_blank ys) ys)) none

-- blanks alone are no record
records_of-blank : (xs : List ℕ) → All (λ c. is_blank c ≡ true) xs → records_of xs ≡ []
unfolding parts_of
records_of-blank xs blank = grind (arith, common_steps, slice_split_none, records_in-blank, all_blank)

-- the blanks in front of a part
front_blank : (part : List ℕ) → All (λ c. is_blank c ≡ true) (take (prefix_len is_blank part) part)
front_blank part = grind (arith, common_steps, prefix_len-le-length, All-from_get_or, length-take-le, prefix_len_passes)

-- a record behind blanks and before others
trimmed_whole : (part : List ℕ) → (more : List ℕ) × (trimmed part ++ more ≡ drop (prefix_len is_blank part) part)
unfolding without_front_blanks without_end_blanks
trimmed_whole part =
    let rest = drop (prefix_len is_blank part) part in
    (drop (length rest - suffix_len is_blank rest) rest, take-append-drop (length rest - suffix_len is_blank rest) rest)

module _ (bytes : List ℕ) (start len : ℕ) (anew : BeginsAnew bytes start) (inside : start + len ≤ length bytes) where
  part_length : length (take len (drop start bytes)) ≡ len
  part_length = length-take-le len (drop start bytes) (omega (arith, length-drop start bytes))

  pub blanks_before : records_of (take (start + prefix_len is_blank (take len (drop start bytes))) bytes) ≡ records_of (take start bytes)
  blanks_before =
      let part = take len (drop start bytes) in
      let few : prefix_len is_blank (take len (drop start bytes)) ≤ len = omega (arith, prefix_len-le-length is_blank (take len (drop start bytes)), part_length) in
      anew.joins (prefix_len is_blank (take len (drop start bytes)))
      ∙ ap (λ xs. records_of (take start bytes) ++ records_of xs) (sym (take-take (prefix_len is_blank (take len (drop start bytes))) len (drop start bytes) few))
      ∙ ap (λ records. records_of (take start bytes) ++ records) (records_of-blank _ (front_blank (take len (drop start bytes))))
      ∙ append-nil (records_of (take start bytes))

  pub stands_there : take (length (trimmed (take len (drop start bytes)))) (drop (start + prefix_len is_blank (take len (drop start bytes))) bytes) ≡ trimmed (take len (drop start bytes))
  stands_there =
      let part = take len (drop start bytes) in
      let k = prefix_len is_blank (take len (drop start bytes)) in
      let more = trimmed_whole (take len (drop start bytes)) in
      let far : drop (start + prefix_len is_blank (take len (drop start bytes))) bytes ≡ (trimmed (take len (drop start bytes)) ++ more.0) ++ drop len (drop start bytes) =
      sym (drop-drop (prefix_len is_blank (take len (drop start bytes))) start bytes)
      ∙ ap (drop (prefix_len is_blank (take len (drop start bytes)))) (sym (take-append-drop len (drop start bytes)))
      ∙ drop-append-le (prefix_len is_blank (take len (drop start bytes))) (take len (drop start bytes)) (drop len (drop start bytes)) (prefix_len-le-length is_blank (take len (drop start bytes)))
      ∙ ap (λ xs. xs ++ drop len (drop start bytes)) (sym more.1) in
      ap (take (length (trimmed (take len (drop start bytes))))) (far ∙ append_assoc (trimmed (take len (drop start bytes))) more.0 (drop len (drop start bytes)))
      ∙ take_at (trimmed (take len (drop start bytes))) (more.0 ++ drop len (drop start bytes)) (length (trimmed (take len (drop start bytes)))) refl

-- ---- the walk

-- a part that is a record
pub next_found : (bytes : List ℕ) (start at len next : ℕ) → BeginsAnew bytes at → start ≤ at → records_of (take at bytes) ≡ records_of (take start bytes) → IsPart bytes at len next →
    0 < length (trimmed (take len (drop at bytes))) → IsNext bytes start (at + prefix_len is_blank (take len (drop at bytes))) (trimmed (take len (drop at bytes))) next
next_found bytes start at len next anew from same part filled = grind (arith, common_steps, records_in-filled, blanks_before, stands_there)

-- a part that is none
pub next_blank : (bytes : List ℕ) (start at len next : ℕ) → records_of (take at bytes) ≡ records_of (take start bytes) → IsPart bytes at len next →
    length (trimmed (take len (drop at bytes))) ≡ 0 → records_of (take next bytes) ≡ records_of (take start bytes)
next_blank bytes start at len next same part blank = grind (arith, common_steps, records_in-blank, append-nil)

-- what a search for a separator answers
pub separator_within : (text : List ℕ) (r : Option ℕ) → IsFirstByte (is_byte3 124 10 13) text r →
    MatchOption r (parts_of text ≡ text ∷ []) (λ end. (end < length text) × (parts_of (take (end + 1) text) ≡ take end text ∷ [] ∷ []))
separator_within text None found = separator_found text None found
separator_within text (Some end) found = (found.0.high, separator_found text (Some end) found)

-- the bytes that a range of the log has
pub part_taken : (bytes : List ℕ) (at len : ℕ) → take (at + len - at) (drop at bytes) ≡ take len (drop at bytes)
part_taken bytes at len = grind (arith, common_steps)

-- the part before a separator that was found in the rest
pub part_of_rest : (bytes : List ℕ) (start len : ℕ) → BeginsAnew bytes start →
    (len < length (take (length bytes - start) (drop start bytes))) × (parts_of (take (len + 1) (take (length bytes - start) (drop start bytes))) ≡ take len (take (length bytes - start) (drop start bytes)) ∷ [] ∷ []) →
    IsPart bytes start len (start + len + 1)
part_of_rest bytes start len anew found =
    let within : len < length (drop start bytes) = rw (take_rest bytes start) at found.0 in
    part_cut bytes start anew len (rw (take_rest bytes start) at found.1) (omega (arith, length-drop start bytes))

-- the last part
pub part_of_all : (bytes : List ℕ) (start : ℕ) → BeginsAnew bytes start → start < length bytes →
    parts_of (take (length bytes - start) (drop start bytes)) ≡ take (length bytes - start) (drop start bytes) ∷ [] → IsPart bytes start (length bytes - start) (length bytes)
part_of_all bytes start anew within open_end = part_last bytes start anew within (rw (take_rest bytes start) at open_end)

-- how many blanks are in front
pub few_blanks : (bytes : List ℕ) (at len : ℕ) → at + len ≤ length bytes → at + prefix_len is_blank (take (at + len - at) (drop at bytes)) ≤ length bytes
few_blanks bytes at len inside = grind (arith, common_steps, length-take-le, length-drop, prefix_len-le-length)

-- a record, as the loop has cut it out
pub next_here : (bytes : List ℕ) (start at len next blanks : ℕ) (text : List ℕ) → BeginsAnew bytes at → start ≤ at → records_of (take at bytes) ≡ records_of (take start bytes) → IsPart bytes at len next →
    text ≡ trimmed (take (at + len - at) (drop at bytes)) → blanks ≡ prefix_len is_blank (take (at + len - at) (drop at bytes)) → 0 < length text → IsNext bytes start (at + blanks) text next
next_here bytes start at len next blanks text anew from same part is front filled =
    let text_is : text ≡ trimmed (take len (drop at bytes)) = is ∙ ap (λ xs. trimmed xs) (part_taken bytes at len) in
    let front_is : blanks ≡ prefix_len is_blank (take len (drop at bytes)) = front ∙ ap (prefix_len is_blank) (part_taken bytes at len) in
    rw (text_is, front_is) (next_found bytes start at len next anew from same part (subst (λ (xs : List ℕ). 0 < length xs) text_is filled))
