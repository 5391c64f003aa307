-- The text lines of a text, and of one with more behind it.
use Rattle.std.proofs.{Common.{◌≡◌, ℕ, ◌+◌, ◌-◌, List, [], ◌∷◌, ◌++◌, length, take, get_or, sym, ◌∙◌, ap, arith, length-append}, lemmas.List.{take_all, take_more}, Math.Seq.{get_or-append_seam, take-append_seam}}
use Rattle.pmf_storelog.proofs.SplitLemmas.{joined, joined_at, slice_split-append}
use Rattle.pmf_ledger.{specs.Loading.{is_line_end, left_of, lines_of, parts_of}, proofs.lemmas.LinesLemmas.{parts_filled}}

-- a list of parts without its last, and its last
module _ (parts : List (List ℕ)) (part : List ℕ) where
  pub without_last : take (length (parts ++ part ∷ []) - 1) (parts ++ part ∷ []) ≡ parts
  without_last = let long = length-append parts (part ∷ []) in let count : length (parts ++ part ∷ []) - 1 ≡ length parts = omega (arith, long) in rw count (take-append_seam parts (part ∷ []))

  pub last_is : get_or (parts ++ part ∷ []) (length (parts ++ part ∷ []) - 1) [] ≡ part
  last_is = let long = length-append parts (part ∷ []) in let count : length (parts ++ part ∷ []) - 1 ≡ length parts = omega (arith, long) in rw count (get_or-append_seam parts part [] [])

-- the text lines that are ended, and what stands behind them
pub parts_whole : (text : List ℕ) → parts_of text ≡ lines_of text ++ left_of text ∷ []
parts_whole text =
    let some = parts_filled text in let count : length (parts_of text) - 1 + 1 ≡ length (parts_of text) = omega (arith, some) in
    sym (take_all (length (parts_of text) - 1 + 1) (parts_of text) (omega (arith, count))) ∙ take_more (parts_of text) (length (parts_of text) - 1) [] (omega (arith, some))

-- the parts of a text with more behind it
parts_apart : (front rest : List ℕ) → parts_of (front ++ rest) ≡ joined (parts_of front) (parts_of rest)
unfolding parts_of
parts_apart front rest = slice_split-append is_line_end front rest

-- what is behind it goes on where its last part ends
pub parts_behind : (front rest next : List ℕ) (later : List (List ℕ)) → parts_of rest ≡ next ∷ later → parts_of (front ++ rest) ≡ lines_of front ++ (left_of front ++ next) ∷ later
parts_behind front rest next later is =
    parts_apart front rest ∙ ap (λ ps. joined ps (parts_of rest)) (parts_whole front) ∙ ap (λ ps. joined (lines_of front ++ left_of front ∷ []) ps) is
    ∙ joined_at (lines_of front) (left_of front) next later
