-- Lines of a text that are records as they stand.
use Rattle.std.{proofs.Common.{◌≡◌, ℕ, suc, ◌<◌, false, List, [], ◌∷◌, ◌++◌, length, drop, All, refl, ap, ◌∙◌, arith, append_assoc, take_all, lt-ltb, flat_map}, proofs.lemmas.List.Sums.{prefix_len_is, suffix_len_is}, proofs.lemmas.List.Splits.{slice_split_at}, proofs.lemmas.Grind.{common_steps}}
use Rattle.pmf_storelog.{specs.Separators.{is_separator, is_blank, trimmed, without_front_blanks, without_end_blanks, records_in, parts_of, records_of}, proofs.PartLemmas.{records_in-append}}

-- a line that is a record as it stands: filled, no byte of it a separator or a blank
pub record IsPlain (line : List ℕ) : Type 0 where
  pub filled : 0 < length line
  pub whole : All (λ c. is_separator c ≡ false) line
  pub close : All (λ c. is_blank c ≡ false) line

front_kept : (line : List ℕ) → All (λ c. is_blank c ≡ false) line → without_front_blanks line ≡ line
unfolding without_front_blanks
front_kept line close = ap (λ n. drop n line) (prefix_len_is is_blank line 0 0 (omega arith) (λ k l. absurd (omega arith)) (λ l. close 0 0 l))

end_kept : (line : List ℕ) → 0 < length line → All (λ c. is_blank c ≡ false) line → without_end_blanks line ≡ line
unfolding without_end_blanks
end_kept line filled close = grind (arith, common_steps, suffix_len_is, take_all)

pub trimmed-plain : (line : List ℕ) → IsPlain line → trimmed line ≡ line
trimmed-plain line plain = ap without_end_blanks (front_kept line plain.close) ∙ end_kept line plain.filled plain.close

pub records_in-plain : (line : List ℕ) → IsPlain line → records_in (line ∷ []) ≡ line ∷ []
unfolding records_in
records_in-plain line plain = rw (trimmed-plain line plain, lt-ltb 0 (length line) plain.filled) refl

-- the records after a line, and the line
records_of-line : (line rest : List ℕ) → IsPlain line → records_of (line ++ 10 ∷ rest) ≡ line ∷ records_of rest
unfolding parts_of
records_of-line line rest plain =
    ap records_in (slice_split_at is_separator line 10 rest plain.whole refl) ∙ records_in-append (line ∷ []) (parts_of rest)
    ∙ ap (λ records. records ++ records_of rest) (records_in-plain line plain)

-- the text of some lines
abbrev pub text_of_lines : List (List ℕ) → List ℕ
text_of_lines lines = flat_map (λ line. line ++ 10 ∷ []) lines

-- are its records
pub records_of-lines : (lines : List (List ℕ)) → All IsPlain lines → records_of (text_of_lines lines) ≡ lines
unfolding parts_of records_in without_front_blanks without_end_blanks
records_of-lines [] plain = refl
records_of-lines (line ∷ lines) plain =
    ap records_of (append_assoc line (10 ∷ []) (text_of_lines lines)) ∙ records_of-line line (text_of_lines lines) (plain 0 [] (omega arith))
    ∙ ap (λ records. line ∷ records) (records_of-lines lines (λ k d l. plain (suc k) d (omega arith)))
