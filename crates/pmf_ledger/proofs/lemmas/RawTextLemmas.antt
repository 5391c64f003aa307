-- Text lines that bytes begin with, and blocks as they stand.
use Rattle.std.{proofs.Common.{◌≡◌, ◌||◌, ℕ, suc, ◌+◌, ◌-◌, ◌<◌, ◌≤◌, List, [], ◌∷◌, ◌++◌, length, take, drop, get_or, Option, Some, None, refl, sym, ◌∙◌, ap, subst, arith, append_assoc, append-nil, length-append, true}, proofs.lemmas.List.{drop-take, get_or_append_left, length-drop, take-append-drop, take-append-le, take-take}, proofs.lemmas.Grind.{common_steps}, proofs.Math.Seq.{drop-append_seam, drop-drop}, specs.List.{list_any}}
use Rattle.memchr.specs.Find.{IsFirstByte, is_byte}
use Rattle.pmf_ledger.{specs.declared.head.Head.{Head}, specs.Loading.{head_of, left_of, lines_of, parts_of}, specs.RawText.{HasNoFirst, IsFirstLines, IsWhole, RawBlock, row_lines_of, rows_behind, tells_fail_in}, proofs.lemmas.LinesLemmas.{lines_more, lines_none}, proofs.lemmas.LoneBlockLemmas.{left_on, lines_on, parts_on}, proofs.lemmas.TextFrontLemmas.{before_first, front_more, left_ended, lines_ended, rest_is}}

-- what is found in the rest of some bytes, as they are looked through
pub in_rest : (bytes : List ℕ) (n : ℕ) (r : Option ℕ) → n ≤ length bytes → IsFirstByte (is_byte 10) (take (length bytes - n) (drop n bytes)) r → IsFirstByte (is_byte 10) (drop n bytes) r
in_rest bytes n r within found = subst (λ xs. IsFirstByte (is_byte 10) xs r) (rest_is bytes n within) found

-- one text line more
module _ (bytes : List ℕ) (n k : ℕ) (within : n ≤ length bytes) (found : IsFirstByte (is_byte 10) (drop n bytes) (Some k)) where
  abbrev line : List ℕ
  line = take k (drop n bytes)

  line_on : take (n + k + 1) bytes ≡ take n bytes ++ (line ++ 10 ∷ [])
  line_on = sym (front_more bytes n k within found) ∙ append_assoc (take n bytes) line (10 ∷ [])

  one_line : lines_of (line ++ 10 ∷ []) ≡ line ∷ []
  unfolding parts_of
  one_line = lines_ended line (before_first (drop n bytes) k found) []

  none_left : left_of (line ++ 10 ∷ []) ≡ []
  unfolding parts_of
  none_left = left_ended line (before_first (drop n bytes) k found) []

  pub line_within : n + k + 1 ≤ length bytes
  line_within = let first = found.0 in let long = length-drop n bytes in omega (arith, first.high, long, within)

  pub lines_with : left_of (take n bytes) ≡ [] → lines_of (take (n + k + 1) bytes) ≡ lines_of (take n bytes) ++ line ∷ []
  lines_with ended = ap lines_of line_on ∙ lines_on (take n bytes) (line ++ 10 ∷ []) ended ∙ ap (λ ls. lines_of (take n bytes) ++ ls) one_line

  pub left_with : left_of (take n bytes) ≡ [] → left_of (take (n + k + 1) bytes) ≡ []
  left_with ended = ap left_of line_on ∙ left_on (take n bytes) (line ++ 10 ∷ []) ended ∙ none_left

pub no_lines : (bytes : List ℕ) → IsFirstLines bytes 0 0
unfolding parts_of
no_lines bytes = record { within = omega arith; ended = refl; lines = refl }

pub lines_next : (bytes : List ℕ) (count taken k : ℕ) → IsFirstLines bytes count taken → IsFirstByte (is_byte 10) (drop taken bytes) (Some k) → IsFirstLines bytes (count + 1) (taken + (k + 1))
lines_next bytes count taken k first found =
    let same : taken + (k + 1) ≡ taken + k + 1 = omega arith in
    subst (IsFirstLines bytes (count + 1)) (sym same) (record {
      within = line_within bytes taken k first.within found;
      ended = left_with bytes taken k first.within found first.ended;
      lines = ap (λ (ls : List (List ℕ)). length ls) (lines_with bytes taken k first.within found first.ended) ∙ length-append (lines_of (take taken bytes)) (take k (drop taken bytes) ∷ []) ∙ ap (λ n. n + 1) first.lines;
    })

-- the text lines of bytes, of which some are taken
pub lines_behind : (bytes : List ℕ) (taken : ℕ) → left_of (take taken bytes) ≡ [] → lines_of bytes ≡ lines_of (take taken bytes) ++ lines_of (drop taken bytes)
lines_behind bytes taken ended = ap lines_of (sym (take-append-drop taken bytes)) ∙ lines_on (take taken bytes) (drop taken bytes) ended

-- whether one of the text lines tells a fail: the first one, or another
pub fails_more : (bytes : List ℕ) (at k : ℕ) → IsFirstByte (is_byte 10) (drop at bytes) (Some k) →
    list_any tells_fail_in (lines_of (drop at bytes)) ≡ (tells_fail_in (take k (drop at bytes)) || list_any tells_fail_in (lines_of (drop (at + (k + 1)) bytes)))
fails_more bytes at k found =
    ap (list_any tells_fail_in) (lines_more (drop at bytes) k found) ∙ ap (λ xs. tells_fail_in (take k (drop at bytes)) || list_any tells_fail_in (lines_of xs)) (drop-drop (k + 1) at bytes)

-- no text line is left
pub lines_over : (bytes : List ℕ) (count taken : ℕ) → IsFirstLines bytes count taken → IsFirstByte (is_byte 10) (drop taken bytes) None → length (lines_of bytes) ≡ count
lines_over bytes count taken first none =
    ap (λ (ls : List (List ℕ)). length ls) (lines_behind bytes taken first.ended ∙ ap (λ ls. lines_of (take taken bytes) ++ ls) (lines_none (drop taken bytes) none) ∙ append-nil (lines_of (take taken bytes)))
    ∙ first.lines

-- bytes that begin with a block
module _ (block : RawBlock) (rest bytes : List ℕ) (whole : IsWhole block) (is : bytes ≡ block.bytes ++ rest) where
  pub parts_are : parts_of bytes ≡ (whole.line ∷ whole.more) ++ parts_of rest
  parts_are = ap parts_of is ∙ parts_on block.bytes rest whole.ended ∙ ap (λ ls. ls ++ parts_of rest) whole.lines

  pub lines_are : lines_of bytes ≡ whole.line ∷ (whole.more ++ lines_of rest)
  lines_are = ap lines_of is ∙ lines_on block.bytes rest whole.ended ∙ ap (λ ls. ls ++ lines_of rest) whole.lines

  long : length (whole.more ++ lines_of rest) ≡ (whole.head.events + whole.head.rows) + length (lines_of rest)
  long = length-append whole.more (lines_of rest) ∙ ap (λ n. n + length (lines_of rest)) whole.count

  -- have a text line
  pub not_unended : IsFirstByte (is_byte 10) bytes None → ⊥
  not_unended none = let count = ap (λ (ls : List (List ℕ)). length ls) (sym lines_are ∙ lines_none bytes none) in absurd (omega (arith, count))

  module _ (k : ℕ) (found : IsFirstByte (is_byte 10) bytes (Some k)) where
    line_is : whole.line ≡ take k bytes
    line_is = ap (λ (ls : List (List ℕ)). get_or ls 0 []) (sym lines_are ∙ lines_more bytes k found)

    more_are : whole.more ++ lines_of rest ≡ lines_of (drop (k + 1) bytes)
    more_are = ap (λ (ls : List (List ℕ)). drop 1 ls) (sym lines_are ∙ lines_more bytes k found)

    head_is : head_of (take k bytes) ≡ Some whole.head
    head_is = ap head_of (sym line_is) ∙ whole.told

    -- which is a head
    pub not_headless : head_of (take k bytes) ≡ None → ⊥
    not_headless none = let wrong : None ≡ Some whole.head = sym none ∙ head_is in cc

    module _ (head : Head) (told : head_of (take k bytes) ≡ Some head) where
      same_head : whole.head ≡ head
      same_head = let both : Some whole.head ≡ Some head = sym head_is ∙ told in cc

      enough : head.events + head.rows ≤ length (lines_of (drop (k + 1) bytes))
      enough = let count = long in let same = ap (λ (ls : List (List ℕ)). length ls) more_are in let is_head = ap (λ (h : Head). h.events + h.rows) same_head in omega (arith, count, same, is_head)

      -- and as many text lines behind it as this tells
      pub not_eventless : length (lines_of (drop (k + 1) bytes)) < head.events → ⊥
      not_eventless few = let all = enough in omega (arith, all, few)

      pub not_rowless : (events : ℕ) → IsFirstLines (drop (k + 1) bytes) head.events events → length (lines_of (drop events (drop (k + 1) bytes))) < head.rows → ⊥
      not_rowless events first few =
          let all = enough in
          let count = ap (λ (ls : List (List ℕ)). length ls) (lines_behind (drop (k + 1) bytes) events first.ended)
          ∙ length-append (lines_of (take events (drop (k + 1) bytes))) (lines_of (drop events (drop (k + 1) bytes))) ∙ ap (λ n. n + length (lines_of (drop events (drop (k + 1) bytes)))) first.lines in
          omega (arith, all, count, few)

-- what is found in some bytes is found where more follow
found_more : (bytes more : List ℕ) (k : ℕ) → IsFirstByte (is_byte 10) bytes (Some k) → IsFirstByte (is_byte 10) (bytes ++ more) (Some k)
found_more bytes more k (first, passes) = (
  record {
    low = first.low;
    high = omega (arith, first.high, length-append bytes more);
    before = λ i low less here. first.before i low less (subst (λ c. is_byte 10 c ≡ true) (get_or_append_left bytes more 0 i (omega (arith, less, first.high))) here);
  },
  subst (λ c. is_byte 10 c ≡ true) (sym (get_or_append_left bytes more 0 k first.high)) passes,
)

-- where the first text line is no head, no block begins, whatever follows
pub no_block_begins : (bytes : List ℕ) (k : ℕ) → IsFirstByte (is_byte 10) bytes (Some k) → head_of (take k bytes) ≡ None → (more : List ℕ) → HasNoFirst (bytes ++ more)
no_block_begins bytes k found none more = λ block rest whole is.
    not_headless block rest (bytes ++ more) whole is k (found_more bytes more k found) (ap head_of (take-append-le k bytes more (let first = found.0 in omega (arith, first.high))) ∙ none)

-- some bytes, and some more behind them
take_plus : (m n : ℕ) (xs : List ℕ) → take (m + n) xs ≡ take m xs ++ take n (drop m xs)
take_plus m n xs =
    let front : take m (take (m + n) xs) ≡ take m xs = grind (arith, common_steps, take-take) in
    sym (take-append-drop m (take (m + n) xs)) ∙ ap (λ ys. ys ++ drop m (take (m + n) xs)) front ∙ ap (λ ys. take m xs ++ ys) (drop-take m n xs)

pub head_within : (bytes : List ℕ) (k : ℕ) → IsFirstByte (is_byte 10) bytes (Some k) → k + 1 ≤ length bytes
head_within bytes k found = let inside = line_within bytes 0 k (omega arith) found in omega (arith, inside)

-- the first text line
first_line : (bytes : List ℕ) (k : ℕ) → IsFirstByte (is_byte 10) bytes (Some k) → (left_of (take (k + 1) bytes) ≡ []) × (lines_of (take (k + 1) bytes) ≡ take k bytes ∷ [])
unfolding parts_of
first_line bytes k found =
    let none : 0 + k + 1 ≡ k + 1 = omega arith in
    subst (λ n. (left_of (take n bytes) ≡ []) × (lines_of (take n bytes) ≡ take k bytes ∷ [])) none (left_with bytes 0 k (omega arith) found refl, lines_with bytes 0 k (omega arith) found refl)

-- what begins with a head and as many text lines as it tells is a block
module _ (bytes : List ℕ) (k events rows : ℕ) (head : Head) (found : IsFirstByte (is_byte 10) bytes (Some k)) (told : head_of (take k bytes) ≡ Some head)
    (first : IsFirstLines (drop (k + 1) bytes) head.events events) (second : IsFirstLines (drop events (drop (k + 1) bytes)) head.rows rows) where
  abbrev body : List ℕ
  body = take events (drop (k + 1) bytes) ++ take rows (drop events (drop (k + 1) bytes))

  pub block_within : (k + 1 + events) + rows ≤ length bytes
  block_within =
      let one = first.within in let two = second.within in let inside = head_within bytes k found in
      let behind = length-drop (k + 1) bytes in let later = length-drop events (drop (k + 1) bytes) in omega (arith, one, two, inside, behind, later)

  bytes_are : take ((k + 1 + events) + rows) bytes ≡ take (k + 1) bytes ++ body
  bytes_are =
      let sum : (k + 1 + events) + rows ≡ (k + 1) + (events + rows) = omega arith in
      ap (λ n. take n bytes) sum ∙ take_plus (k + 1) (events + rows) bytes ∙ ap (λ xs. take (k + 1) bytes ++ xs) (take_plus events rows (drop (k + 1) bytes))

  body_lines : lines_of body ≡ lines_of (take events (drop (k + 1) bytes)) ++ lines_of (take rows (drop events (drop (k + 1) bytes)))
  body_lines = lines_on (take events (drop (k + 1) bytes)) (take rows (drop events (drop (k + 1) bytes))) first.ended

  pub block_whole : IsWhole (record { name = head.name; bytes = take ((k + 1 + events) + rows) bytes })
  block_whole = record {
    line = take k bytes;
    more = lines_of body;
    lines = ap lines_of bytes_are ∙ lines_on (take (k + 1) bytes) body (first_line bytes k found).0 ∙ ap (λ ls. ls ++ lines_of body) (first_line bytes k found).1;
    ended = ap left_of bytes_are ∙ left_on (take (k + 1) bytes) body (first_line bytes k found).0 ∙ left_on (take events (drop (k + 1) bytes)) (take rows (drop events (drop (k + 1) bytes))) first.ended ∙ second.ended;
    head = head;
    told = told;
    named = refl;
    count = ap (λ (ls : List (List ℕ)). length ls) body_lines
        ∙ length-append (lines_of (take events (drop (k + 1) bytes))) (lines_of (take rows (drop events (drop (k + 1) bytes)))) ∙ ap (λ n. n + length (lines_of (take rows (drop events (drop (k + 1) bytes))))) first.lines
        ∙ ap (λ n. head.events + n) second.lines;
  }

  -- and the text lines behind its events are those of its rows
  pub rows_here : row_lines_of (take ((k + 1 + events) + rows) bytes) ≡ lines_of (drop (k + 1 + events) (take ((k + 1 + events) + rows) bytes))
  unfolding row_lines_of block_whole parts_of
  rows_here =
      let block = take ((k + 1 + events) + rows) bytes in
      let event_lines = lines_of (take events (drop (k + 1) bytes)) in
      let row_lines = lines_of (take rows (drop events (drop (k + 1) bytes))) in
      let lines : lines_of block ≡ take k bytes ∷ (event_lines ++ row_lines) = block_whole.lines ∙ ap (λ ls. take k bytes ∷ ls) body_lines in
      let behind : drop (k + 1 + events) block ≡ take rows (drop events (drop (k + 1) bytes)) =
      drop-take (k + 1 + events) rows bytes ∙ ap (take rows) (sym (drop-drop events (k + 1) bytes)) in
      let ends : drop (suc head.events) (take k bytes ∷ (event_lines ++ row_lines)) ≡ row_lines = ap (λ n. drop n (event_lines ++ row_lines)) (sym first.lines) ∙ drop-append_seam event_lines row_lines in
      ap (λ ls. rows_behind (head_of (get_or ls 0 [])) ls) lines ∙ ap (λ h. rows_behind h (take k bytes ∷ (event_lines ++ row_lines))) told ∙ ends ∙ ap lines_of (sym behind)
