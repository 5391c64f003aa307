-- A ledger text whose end has not come.
use Rattle.std.proofs.{Common.{◌≡◌, ℕ, suc, ◌+◌, ◌-◌, ◌<◌, ◌≤◌, true, false, List, [], ◌∷◌, ◌++◌, length, take, drop, get_or, Option, Some, None, Result, Ok, Err, MatchResult, is_some, refl, sym, ◌∙◌, ap, subst, arith, append_assoc, append-nil, length-take-le, get_or-take}, lemmas.List.{take_all, drop-take, get_or-drop, length-drop, take-append-drop, take-take, take_more}, lemmas.Bool.Decides.{Decides-eqb}, lemmas.List.Elements.{All-append, All-from_get_or}, lemmas.List.Splits.{slice_split_at, slice_split_none}, lemmas.Bool.{false_from_ne_true}, lemmas.Grind.{common_steps}}
use Rattle.memchr.specs.Find.{IsFirstByte, is_byte}
use Rattle.pmf_event.specs.{Section.{Trace}}
use Rattle.pmf_verdict.specs.Checked.{Checked}
use Rattle.pmf_ledger.{specs.declared.blocks.Next.{Next}, specs.declared.block_lines.{BlockFault.{BlockFault}, BlockFault.TheVariants.{Text, OutOfOrder}}, specs.declared.block_reader.BlockReader.{BlockReader}, specs.declared.loading.LedgerFault.{LedgerFault}, specs.declared.loading.LedgerFault.TheVariants.{NotALedger}, specs.BlockReading.{AreLinesOf, EndsWithin, GivesBlock, HasNoLineEnd, HasTaken, IsOutOfOrder, RefusesFront, RefusesLine, without_blocks}, specs.Following.{IsNext, is_over}, specs.Loading.{Reading, AtFault, unread, after_line, after_lines, is_line_end, parts_of, lines_of, left_of, fault_at_end, fault_through, reading_through}, proofs.lemmas.LinesLemmas.{later, lines-count, parts_filled, stays, take_before}}

-- no line end before the first one, and none where there is none
pub before_first : (bytes : List ℕ) (n : ℕ) → IsFirstByte (is_byte 10) bytes (Some n) → HasNoLineEnd (take n bytes)
before_first bytes n found =
    let first = found.0 in
    All-from_get_or (λ c. is_line_end c ≡ false) (take n bytes) 0
    (λ i below. subst (λ c. is_line_end c ≡ false) (sym (get_or-take n bytes i 0 (omega (arith, length-take-le n bytes (omega (arith, first.high))))))
    (false_from_ne_true _ (first.before i (omega arith) (omega (arith, length-take-le n bytes (omega (arith, first.high)))))))

pub where_none : (bytes : List ℕ) → IsFirstByte (is_byte 10) bytes None → HasNoLineEnd bytes
where_none bytes none = All-from_get_or (λ c. is_line_end c ≡ false) bytes 0 (λ i below. false_from_ne_true _ (none i (omega arith) below))

module _ (front : List ℕ) (unended : HasNoLineEnd front) where
  pub parts_alone : parts_of front ≡ front ∷ []
  unfolding parts_of
  parts_alone = slice_split_none is_line_end front unended

  pub lines_alone : lines_of front ≡ []
  lines_alone = rw parts_alone refl

  pub left_alone : left_of front ≡ front
  left_alone = rw parts_alone refl

  module _ (more : List ℕ) where
    pub parts_ended : parts_of (front ++ 10 ∷ more) ≡ front ∷ parts_of more
    unfolding parts_of
    parts_ended = slice_split_at is_line_end front 10 more unended refl

    pub lines_ended : lines_of (front ++ 10 ∷ more) ≡ front ∷ lines_of more
    lines_ended = rw parts_ended (take_before front (parts_of more) (parts_filled more))

    pub left_ended : left_of (front ++ 10 ∷ more) ≡ left_of more
    left_ended = let some = parts_filled more in rw parts_ended (grind (arith, common_steps))

-- nothing was read
pub within-start : EndsWithin [] [] 1 unread
within-start = record { unended = λ i d inside. absurd (omega (arith, inside)); goes_on = λ more. refl; counted = λ more. lines-count more; left = λ more. refl }

module _ (text front : List ℕ) (line : ℕ) (r : Reading) (here : EndsWithin text front line r) where
  -- more of the text line
  pub within-more : (rest : List ℕ) → HasNoLineEnd rest → EndsWithin (text ++ rest) (front ++ rest) line r
  within-more rest none = record {
    unended = All-append (λ c. is_line_end c ≡ false) front rest here.unended none;
    goes_on = λ more. rw (append_assoc front rest more, append_assoc text rest more) (here.goes_on (rest ++ more));
    counted = λ more. rw (append_assoc front rest more, append_assoc text rest more) (here.counted (rest ++ more));
    left = λ more. rw (append_assoc front rest more, append_assoc text rest more) (here.left (rest ++ more));
  }

  -- and its end
  goes_on_next : (more : List ℕ) → after_lines (after_line r line front) (line + 1) (lines_of more) ≡ reading_through ((text ++ 10 ∷ []) ++ more)
  unfolding after_lines
  goes_on_next more =
      let next : line + 1 ≡ suc line = omega arith in
      rw (next, append_assoc text (10 ∷ []) more) (ap (λ lines. after_lines r line lines) (sym (lines_ended front here.unended more)) ∙ here.goes_on (10 ∷ more))

  pub within-next : EndsWithin (text ++ 10 ∷ []) [] (line + 1) (after_line r line front)
  within-next = record {
    unended = λ i d inside. absurd (omega (arith, inside));
    goes_on = goes_on_next;
    counted = λ more.
        let all = here.counted (10 ∷ more) in let lines = ap (λ (ls : List (List ℕ)). length ls) (lines_ended front here.unended more) in
        rw (append_assoc text (10 ∷ []) more) (omega (arith, all, lines));
    left = λ more. rw (append_assoc text (10 ∷ []) more) (sym (left_ended front here.unended more) ∙ here.left (10 ∷ more));
  }

  -- where the reading stops, so does every text that begins so
  pub stops_at : (found : LedgerFault) → r.stage ≡ AtFault found → (more : List ℕ) → fault_through (text ++ more) ≡ Some found
  unfolding fault_through
  stops_at found is more =
      let same : reading_through (text ++ more) ≡ r = sym (here.goes_on more) ∙ stays r found line (lines_of (front ++ more)) is in
      rw (same, is) refl

  pub blocks_go_on : (more : List ℕ) → (rest : List Trace) × ((reading_through (text ++ more)).blocks ≡ r.blocks ++ rest)
  blocks_go_on more = let rest = later r line (lines_of (front ++ more)) in (rest.0, ap (λ (e : Reading). e.blocks) (sym (here.goes_on more)) ∙ rest.1)

  -- where nothing follows, the reading is that of the text
  pub reading_is : reading_through text ≡ r
  unfolding after_lines
  reading_is =
      let here_on : after_lines r line (lines_of (front ++ [])) ≡ reading_through (text ++ []) = here.goes_on [] in
      sym (rw (append-nil text, append-nil front, lines_alone front here.unended) at here_on)

  pub fault_is : fault_through text ≡ fault_at_end r.stage line (length front)
  unfolding fault_through
  fault_is =
      let all : line + length (lines_of (front ++ [])) ≡ length (parts_of (text ++ [])) = here.counted [] in
      let behind : left_of (front ++ []) ≡ left_of (text ++ []) = here.left [] in
      let count : line ≡ length (parts_of text) = let it = rw (append-nil text, append-nil front, lines_alone front here.unended) at all in omega (arith, it) in
      let left : front ≡ left_of text = sym (left_alone front here.unended) ∙ rw (append-nil text, append-nil front) at behind in
      ap (λ (e : Reading). fault_at_end e.stage (length (parts_of text)) (length (left_of text))) reading_is
      ∙ ap (λ n. fault_at_end r.stage n (length (left_of text))) (sym count) ∙ ap (λ (xs : List ℕ). fault_at_end r.stage line (length xs)) (sym left)

  pub over : (awaited : Next) → IsNext (without_blocks r) awaited → is_over awaited front ≡ true → fault_through text ≡ None
  over awaited comes is = fault_is ∙ grind (arith, common_steps)

  pub not_over : (awaited : Next) → IsNext (without_blocks r) awaited → is_over awaited front ≡ false → fault_through text ≡ Some (NotALedger line)
  not_over awaited comes is = fault_is ∙ grind (arith, common_steps)

-- the front of a piece up to behind its next line end
pub front_more : (piece : List ℕ) (n len : ℕ) → n ≤ length piece → IsFirstByte (is_byte 10) (drop n piece) (Some len) → (take n piece ++ take len (drop n piece)) ++ 10 ∷ [] ≡ take (n + len + 1) piece
front_more piece n len within found =
    let first = found.0 in let long = length-drop n piece in
    let inside : n + len < length piece = omega (arith, first.high, long, within) in
    let byte : get_or piece (n + len) 0 ≡ 10 = sym (get_or-drop n piece len 0) ∙ (Decides-eqb (get_or (drop n piece) len 0) 10).0 found.1 in
    let front : take n (take (n + len) piece) ≡ take n piece = grind (arith, common_steps, take-take) in
    let joint : take n piece ++ take len (drop n piece) ≡ take (n + len) piece =
    ap (λ xs. take n piece ++ xs) (sym (drop-take n len piece)) ∙ ap (λ xs. xs ++ drop n (take (n + len) piece)) (sym front) ∙ take-append-drop n (take (n + len) piece) in
    ap (λ xs. xs ++ 10 ∷ []) joint ∙ ap (λ b. take (n + len) piece ++ b ∷ []) (sym byte) ∙ sym (take_more piece (n + len) 0 inside)

-- what a front refuses, a longer one refuses
pub refuses_more : (text rest : List ℕ) (found : BlockFault) → RefusesFront text found → RefusesFront (text ++ rest) found
refuses_more text rest (Text found) refuses = λ of_text more. subst (λ xs. fault_through xs ≡ Some found) (sym (append_assoc text rest more)) (refuses of_text (rest ++ more))
refuses_more text rest (OutOfOrder name) refuses = λ more. subst (λ xs. IsOutOfOrder (reading_through xs).blocks name) (sym (append_assoc text rest more)) (refuses (rest ++ more))

-- and what the front of a piece refuses, the piece
pub refuses_piece : (text piece : List ℕ) (n : ℕ) (found : BlockFault) → RefusesFront (text ++ take n piece) found → RefusesFront (text ++ piece) found
refuses_piece text piece n found refuses =
    subst (λ xs. RefusesFront xs found) (append_assoc text (take n piece) (drop n piece) ∙ ap (λ xs. text ++ xs) (take-append-drop n piece)) (refuses_more (text ++ take n piece) (drop n piece) found refuses)

-- the rest of a piece, as it is looked through
module _ (piece : List ℕ) (n : ℕ) (within : n ≤ length piece) where
  pub rest_is : take (length piece - n) (drop n piece) ≡ drop n piece
  rest_is = let long = length-drop n piece in grind (arith, common_steps, take_all)

  -- with no line end it is the front of a text line
  pub rest_unended : IsFirstByte (is_byte 10) (take (length piece - n) (drop n piece)) None → HasNoLineEnd (take (length piece - n) (drop n piece))
  rest_unended none = where_none (take (length piece - n) (drop n piece)) none

  pub all_taken : (text : List ℕ) → (text ++ take n piece) ++ take (length piece - n) (drop n piece) ≡ text ++ piece
  all_taken text = ap (λ xs. (text ++ take n piece) ++ xs) rest_is ∙ append_assoc text (take n piece) (drop n piece) ∙ ap (λ xs. text ++ xs) (take-append-drop n piece)

  module _ (len : ℕ) (found : IsFirstByte (is_byte 10) (take (length piece - n) (drop n piece)) (Some len)) where
    count_is : (n + len) - n ≡ len
    count_is = omega arith

    in_rest : IsFirstByte (is_byte 10) (drop n piece) (Some len)
    in_rest = subst (λ xs. IsFirstByte (is_byte 10) xs (Some len)) rest_is found

    pub line_unended : HasNoLineEnd (take ((n + len) - n) (drop n piece))
    line_unended = rw count_is (before_first (drop n piece) len in_rest)

    pub line_end_within : n + len + 1 ≤ length piece
    line_end_within = let first = in_rest.0 in let long = length-drop n piece in omega (arith, first.high, long, within)

    pub text_more : (text : List ℕ) → ((text ++ take n piece) ++ take ((n + len) - n) (drop n piece)) ++ 10 ∷ [] ≡ text ++ take (n + len + 1) piece
    text_more text =
        rw count_is (ap (λ xs. xs ++ 10 ∷ []) (append_assoc text (take n piece) (take len (drop n piece))) ∙ append_assoc text (take n piece ++ take len (drop n piece)) (10 ∷ [])
        ∙ ap (λ xs. text ++ xs) (front_more piece n len within in_rest))

-- a block is given beside the same blocks
pub gives_same : (r same e : Reading) (given : Option Checked) → same.blocks ≡ r.blocks → GivesBlock same e given → GivesBlock r e given
gives_same r same e None is gives = gives ∙ is
gives_same r same e (Some c) is (gives, by) = (gives ∙ ap (λ ss. ss ++ c.section ∷ []) is, by)

pub none_given : (r e : Reading) (given : Option Checked) → is_some given ≡ false → GivesBlock r e given → e.blocks ≡ r.blocks
none_given r e None is gives = gives
none_given r e (Some c) is gives = let wrong : true ≡ false = is in cc

-- a text line was read whole
module _ (text front : List ℕ) (line : ℕ) (r : Reading) (reader : BlockReader) (here : EndsWithin text front line r) (none : reader.front.items ≡ []) where
  line_refused : (found : BlockFault) → RefusesLine r (after_line r line front) found → RefusesFront (text ++ 10 ∷ []) found
  line_refused (Text found) refuses = λ of_text. stops_at (text ++ 10 ∷ []) [] (line + 1) (after_line r line front) (within-next text front line r here) found (refuses of_text)
  line_refused (OutOfOrder name) (s, t, found, whole, named, apart) = λ more.
      let go_on = blocks_go_on (text ++ 10 ∷ []) [] (line + 1) (after_line r line front) (within-next text front line r here) more in
      (r.blocks, t, go_on.0, s, go_on.1 ∙ ap (λ ss. ss ++ go_on.0) whole ∙ append_assoc r.blocks (t ∷ []) go_on.0, found, named, apart)

  pub line_taken : (result : Result (Option Checked) BlockFault) →
      MatchResult result (λ given. AreLinesOf (after_line r line front) (line + 1) reader.lines × GivesBlock r (after_line r line front) given) (RefusesLine r (after_line r line front)) →
      MatchResult result (λ given. (e : Reading) × HasTaken (text ++ 10 ∷ []) e reader × GivesBlock r e given) (RefusesFront (text ++ 10 ∷ []))
  line_taken (Ok given) (lines, gives) = (
    after_line r line front,
    record { line = line + 1; lines = lines; within = subst (λ xs. EndsWithin (text ++ 10 ∷ []) xs (line + 1) (after_line r line front)) (sym none) (within-next text front line r here) },
    gives,
  )
  line_taken (Err found) refuses = line_refused found refuses
