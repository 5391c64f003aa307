-- The parts and the ended records of bytes that more bytes follow.
use Rattle.std.proofs.{Common.{◌≡◌, ℕ, ◌+◌, ◌-◌, ◌<◌, List, [], ◌∷◌, ◌++◌, Option, length, take, map, MatchOption, refl, sym, ap, ◌∙◌, arith, length-append, filter, append_assoc, append-nil, take_at}, lemmas.List.{map-append}, lemmas.List.Elements.{filter-append}, lemmas.Grind.{common_steps}}
use Rattle.memchr.specs.Find.{IsFirstByte, is_byte3}
use Rattle.pmf_storelog.{specs.Separators.{is_separator, is_filled, trimmed, records_in, parts_of, ended_parts, records_of, ended_records}, proofs.SplitLemmas.{split_none, split_upto, split_filled, slice_split-append, joined, joined_at}}

-- what a search for a separator answers
pub separator_found : (text : List ℕ) (r : Option ℕ) → IsFirstByte (is_byte3 124 10 13) text r →
    MatchOption r (parts_of text ≡ text ∷ []) (λ end. parts_of (take (end + 1) text) ≡ take end text ∷ [] ∷ [])
unfolding parts_of
separator_found text r found = grind (arith, common_steps, split_none, split_upto)

pub parts_of-nil : parts_of [] ≡ [] ∷ []
unfolding parts_of
parts_of-nil = refl

pub parts_of-append : (xs ys : List ℕ) → parts_of (xs ++ ys) ≡ joined (parts_of xs) (parts_of ys)
unfolding parts_of
parts_of-append = slice_split-append is_separator

-- all but the last of the parts
pub ended_is : (bytes : List ℕ) (front : List (List ℕ)) (part : List ℕ) → parts_of bytes ≡ front ++ part ∷ [] → ended_parts bytes ≡ front
unfolding ended_parts
ended_is bytes front part is = ap (λ parts. take (length parts - 1) parts) is ∙ take_at front (part ∷ []) _ (omega (arith, length-append front (part ∷ [])))

-- a list with a last element is what stands before it, and it
last_apart : (xs : List (List ℕ)) → 0 < length xs → (front : List (List ℕ)) × (part : List ℕ) × (xs ≡ front ++ part ∷ [])
last_apart [] filled = absurd (omega arith)
last_apart (x ∷ []) filled = ([], x, refl)
last_apart (x ∷ y ∷ xs) filled = let rest = last_apart (y ∷ xs) (omega arith) in (x ∷ rest.0, rest.1, ap (λ l. x ∷ l) rest.2)

parts_filled : (bytes : List ℕ) → 0 < length (parts_of bytes)
unfolding parts_of
parts_filled = split_filled is_separator

-- the unfinished part, whatever the bytes
pub unfinished : (bytes : List ℕ) → (part : List ℕ) × (parts_of bytes ≡ ended_parts bytes ++ part ∷ [])
unfinished bytes = let apart = last_apart (parts_of bytes) (parts_filled bytes) in (apart.1, apart.2 ∙ ap (λ front. front ++ apart.1 ∷ []) (sym (ended_is bytes apart.0 apart.1 apart.2)))

pub records_in-append : (xs ys : List (List ℕ)) → records_in (xs ++ ys) ≡ records_in xs ++ records_in ys
unfolding records_in
records_in-append xs ys = ap (filter is_filled) (map-append trimmed xs ys) ∙ filter-append is_filled (map trimmed xs) (map trimmed ys)

-- bytes with no separator lengthen the unfinished part
module _ (bytes rest part : List ℕ) (kept : parts_of bytes ≡ ended_parts bytes ++ part ∷ []) (open_end : parts_of rest ≡ rest ∷ []) where
  longer : parts_of (bytes ++ rest) ≡ ended_parts bytes ++ (part ++ rest) ∷ []
  longer = rw (parts_of-append bytes rest, kept, open_end) (joined_at (ended_parts bytes) part rest [])

  pub ended_parts-open : ended_parts (bytes ++ rest) ≡ ended_parts bytes
  ended_parts-open = ended_is (bytes ++ rest) (ended_parts bytes) (part ++ rest) longer

  pub parts_of-open : parts_of (bytes ++ rest) ≡ ended_parts (bytes ++ rest) ++ (part ++ rest) ∷ []
  parts_of-open = longer ∙ ap (λ front. front ++ (part ++ rest) ∷ []) (sym ended_parts-open)

-- bytes with a separator at their end alone end it
module _ (bytes piece part end : List ℕ) (kept : parts_of bytes ≡ ended_parts bytes ++ part ∷ []) (ends : parts_of piece ≡ end ∷ [] ∷ []) where
  ended : parts_of (bytes ++ piece) ≡ (ended_parts bytes ++ (part ++ end) ∷ []) ++ [] ∷ []
  ended = grind (arith, common_steps, parts_of-append, joined_at, append_assoc)

  pub ended_parts-ended : ended_parts (bytes ++ piece) ≡ ended_parts bytes ++ (part ++ end) ∷ []
  ended_parts-ended = ended_is (bytes ++ piece) _ [] ended

  pub parts_of-ended : parts_of (bytes ++ piece) ≡ ended_parts (bytes ++ piece) ++ [] ∷ []
  parts_of-ended = ended ∙ ap (λ front. front ++ [] ∷ []) (sym ended_parts-ended)

  pub ended_records-ended : ended_records (bytes ++ piece) ≡ ended_records bytes ++ records_in ((part ++ end) ∷ [])
  ended_records-ended = ap records_in ended_parts-ended ∙ records_in-append (ended_parts bytes) ((part ++ end) ∷ [])

-- all records are the ended ones, and the one of the unfinished part
pub records_of-unfinished : (bytes part : List ℕ) → parts_of bytes ≡ ended_parts bytes ++ part ∷ [] → records_of bytes ≡ ended_records bytes ++ records_in (part ∷ [])
records_of-unfinished bytes part kept = ap records_in kept ∙ records_in-append (ended_parts bytes) (part ∷ [])

joined_ends : (front : List (List ℕ)) (part : List ℕ) (later ends : List (List ℕ)) (last : List ℕ) → later ≡ ends ++ last ∷ [] →
    (more : List (List ℕ)) × (final : List ℕ) × (joined (front ++ part ∷ []) later ≡ (front ++ more) ++ final ∷ [])
joined_ends front part later [] last is = ([], part ++ last, rw is (joined_at front part last [] ∙ ap (λ f. f ++ (part ++ last) ∷ []) (sym (append-nil front))))
joined_ends front part later (next ∷ ends) last is = (
  (part ++ next) ∷ ends,
  last,
  rw is (joined_at front part next (ends ++ last ∷ []) ∙ sym (append_assoc front ((part ++ next) ∷ ends) (last ∷ []))),
)

-- the records that are ended stay as they are, whatever follows
pub ended_records-more : (xs ys : List ℕ) → (more : List (List ℕ)) × (ended_records (xs ++ ys) ≡ ended_records xs ++ more)
ended_records-more xs ys =
    let of_xs = unfinished xs in let of_ys = last_apart (parts_of ys) (parts_filled ys) in let all = joined_ends (ended_parts xs) of_xs.0 (parts_of ys) of_ys.0 of_ys.1 of_ys.2 in
    let is : parts_of (xs ++ ys) ≡ (ended_parts xs ++ all.0) ++ all.1 ∷ [] =
    parts_of-append xs ys ∙ ap (λ parts. joined parts (parts_of ys)) of_xs.1 ∙ all.2 in
    (records_in all.0, ap records_in (ended_is (xs ++ ys) (ended_parts xs ++ all.0) all.1 is) ∙ records_in-append (ended_parts xs) all.0)
