-- A text has its blocks in one way, and the text of a ledger has those of its sections.
use Rattle.std.{proofs.Common.{◌≡◌, ℕ, suc, ◌+◌, ◌^◌, ◌<◌, List, [], ◌∷◌, ◌++◌, length, map, drop, get_or, flat_map, codes, Some, None, All, refl, sym, ◌∙◌, ap, subst, arith, inl, inr, append_assoc, append-nil, length-append, drop_at, decimal, Bool, true, false, not, ◌||◌, bytes_eq, rules}, proofs.lemmas.List.{append_cancel_right, length-map}, proofs.lemmas.List.Splits.{join_with_byte-slice_split}, proofs.lemmas.List.Elements.{All-from_recursion, All-head, All-map, All-tail, All-weaker, Contains-get_or, recursion_from_All}, proofs.lemmas.List.Kept.{AllPairs-cons}, proofs.Math.Seq.{drop-append_seam}, specs.List.{AllByRecursion, join_with_byte, list_any}, proofs.lemmas.Grind.{common_steps}}
use Rattle.pmf_event.specs.declared.{finding.Finding.{Finding}, finding.Finding.TheVariants.{PersistPass}, profile.Profile.{Profile}, profile.Profile.TheVariants.{One, Two}, row.Row.{Row}}
use Rattle.pmf_storelog.proofs.{FrontLemmas.{number_in_front-decimal}, PlainLemmas.{text_of_event}, PlainRecordLemmas.{text_of_lines}}
use Rattle.pmf_verdict.specs.{declared.outcome.Outcome.TheVariants.{Fail}, Outcome.{is_same, outcome_of}, Checked.{Checked, rows_in}, Text.{text_of_finding, text_of_pair}}
use Rattle.pmf_ledger.{specs.declared.head.Head.{Head}, specs.LedgerText.{text_of_block, text_of_end, version_of}, specs.Laws.{BlocksTellTheirFails, CanBeSpelled, LedgerTextsHaveTheirBlocks, TextsHaveTheirBlocksInOneWay}, specs.Loading.{head_of, is_line_end, left_of, lines_of, parts_of}, specs.Names.{IsBefore, Rises}, specs.RawText.{IsRawFront, IsRawText, IsVersion, IsWhole, RawBlock, RawNamesRise, bytes_of, begins_no_fail, raw_block, row_lines_of, rows_behind, tells_fail, tells_fail_in, trusted_version_of}, specs.ReportTold.{FitsRow}, proofs.lemmas.LedgerTextLemmas.{block-one, block-text, block_lines, body_lines, end_line, head_line, head_of-end, head_of-line, head_told}, proofs.lemmas.RawTextLemmas.{lines_are, parts_are}, proofs.lemmas.ReportToldLemmas.{begins}, proofs.lemmas.SpelledLemmas.{OneLine, decimal-one, left_of-lines, lines_of-lines, one-append, text_without_end}, proofs.lemmas.TextFrontLemmas.{parts_ended}, proofs.lemmas.UniqueLemmas.{Rises-first, Rises-rest}}

-- parts that are one are of one text
one_text : (x y : List ℕ) → parts_of x ≡ parts_of y → x ≡ y
unfolding parts_of
one_text x y same = sym (join_with_byte-slice_split 10 x) ∙ ap (join_with_byte 10) same ∙ join_with_byte-slice_split 10 y

-- bytes begin with one block
module _ (a b : RawBlock) (x y : List ℕ) (whole_a : IsWhole a) (whole_b : IsWhole b) (same : a.bytes ++ x ≡ b.bytes ++ y) where
  both : (whole_a.line ∷ whole_a.more) ++ parts_of x ≡ (whole_b.line ∷ whole_b.more) ++ parts_of y
  both = sym (parts_are a x (a.bytes ++ x) whole_a refl) ∙ parts_are b y (a.bytes ++ x) whole_b same

  one_head : whole_a.head ≡ whole_b.head
  one_head =
      let line : whole_a.line ≡ whole_b.line = ap (λ (ls : List (List ℕ)). get_or ls 0 []) both in
      let told : Some whole_a.head ≡ Some whole_b.head = sym whole_a.told ∙ ap head_of line ∙ whole_b.told in cc

  one_count : length whole_a.more ≡ length whole_b.more
  one_count = whole_a.count ∙ ap (λ (h : Head). h.events + h.rows) one_head ∙ sym whole_b.count

  pub one_rest : x ≡ y
  one_rest = one_text x y
      (sym (drop_at whole_a.more (parts_of x) (length whole_a.more) refl) ∙ ap (λ (ls : List (List ℕ)). drop (length whole_a.more) (drop 1 ls)) both
      ∙ drop_at whole_b.more (parts_of y) (length whole_a.more) (sym one_count))

  pub one_block : a ≡ b
  one_block =
      let name : a.name ≡ b.name = sym whole_a.named ∙ ap (λ (h : Head). h.name) one_head ∙ whole_b.named in
      let bytes : a.bytes ≡ b.bytes = append_cancel_right a.bytes b.bytes x (same ∙ ap (λ z. b.bytes ++ z) (sym one_rest)) in
      λ i. record { name = name i; bytes = bytes i }

-- the last text line begins no block
pub end_is_none : (blocks : ℕ) (block : RawBlock) (rest : List ℕ) → IsWhole block → text_of_end blocks ≡ block.bytes ++ rest → ⊥
unfolding text_of_end end_line
end_is_none blocks block rest whole is =
    let one = one-append (codes "end verdicts=") (decimal blocks) (search rules) (decimal-one blocks) in
    let text : text_of_lines (end_line blocks ∷ []) ≡ text_of_end blocks = grind (arith, common_steps, append_assoc, append-nil) in
    let lines : lines_of (text_of_end blocks) ≡ end_line blocks ∷ [] = ap lines_of (sym text) ∙ lines_of-lines (end_line blocks ∷ []) (one, tt) in
    let line : whole.line ≡ end_line blocks = ap (λ (ls : List (List ℕ)). get_or ls 0 []) (sym (lines_are block rest (text_of_end blocks) whole is) ∙ lines) in
    let wrong : None ≡ Some whole.head = sym (head_of-end blocks) ∙ ap head_of (sym line) ∙ whole.told in cc

-- the blocks of a text, of which some are known
pub blocks_once : (xs ys : List RawBlock) (rest : List ℕ) (n : ℕ) → All IsWhole xs → All IsWhole ys → bytes_of xs ++ rest ≡ bytes_of ys ++ text_of_end n →
    (more : List RawBlock) × (ys ≡ xs ++ more) × (rest ≡ bytes_of more ++ text_of_end n)
blocks_once [] ys rest n each all same = (ys, refl, same)
blocks_once (x ∷ xs) [] rest n each all same = absurd (end_is_none n x (bytes_of xs ++ rest) (All-head IsWhole x xs each) (sym same ∙ append_assoc x.bytes (bytes_of xs) rest))
blocks_once (x ∷ xs) (y ∷ ys) rest n each all same =
    let grouped : x.bytes ++ (bytes_of xs ++ rest) ≡ y.bytes ++ (bytes_of ys ++ text_of_end n) = sym (append_assoc x.bytes (bytes_of xs) rest) ∙ same ∙ append_assoc y.bytes (bytes_of ys) (text_of_end n) in
    let whole_x = All-head IsWhole x xs each in let whole_y = All-head IsWhole y ys all in
    let it = blocks_once xs ys rest n (All-tail IsWhole x xs each) (All-tail IsWhole y ys all) (one_rest x y _ _ whole_x whole_y grouped) in
    (it.0, ap (λ z. z ∷ ys) (sym (one_block x y _ _ whole_x whole_y grouped)) ∙ ap (λ zs. x ∷ zs) it.1, it.2)

-- the first text line
abbrev line_end : List ℕ
line_end = codes "\n"

version-one : (profile : Profile) (line : List ℕ) → IsVersion profile line → OneLine line
version-one One line (inl is) = subst OneLine (sym is) (search rules)
version-one One line (inr is) = subst OneLine (sym is) (search rules)
version-one Two line (inl is) = subst OneLine (sym is) (search rules)
version-one Two line (inr is) = subst OneLine (sym is) (search rules)

-- which of two profiles the text line tells
abbrev tells_one : List ℕ → Bool
tells_one line = bytes_eq line (version_of One) || bytes_eq line (trusted_version_of One)

abbrev is_one : Profile → Bool
is_one One = true
is_one Two = false

told_by : (profile : Profile) (line : List ℕ) → IsVersion profile line → tells_one line ≡ is_one profile
told_by One line (inl is) = subst (λ l. tells_one l ≡ true) (sym is) (search rules)
told_by One line (inr is) = subst (λ l. tells_one l ≡ true) (sym is) (search rules)
told_by Two line (inl is) = subst (λ l. tells_one l ≡ false) (sym is) (search rules)
told_by Two line (inr is) = subst (λ l. tells_one l ≡ false) (sym is) (search rules)

one_profile : (p q : Profile) → is_one p ≡ is_one q → p ≡ q
one_profile p q same = grind (arith, common_steps)

module _ (p q : Profile) (v w : List ℕ) (x y : List ℕ) (of_p : IsVersion p v) (of_q : IsVersion q w) (same : (v ++ codes "\n") ++ x ≡ (w ++ codes "\n") ++ y) where
  parts_one : v ∷ parts_of x ≡ w ∷ parts_of y
  parts_one =
      sym (parts_ended v (All-from_recursion (λ c. is_line_end c ≡ false) v (version-one p v of_p)) x) ∙ ap parts_of (sym (append_assoc v (codes "\n") x) ∙ same ∙ append_assoc w (codes "\n") y)
      ∙ parts_ended w (All-from_recursion (λ c. is_line_end c ≡ false) w (version-one q w of_q)) y

  pub profile_once : p ≡ q
  profile_once = one_profile p q (sym (told_by p v of_p) ∙ ap tells_one (ap (λ (ls : List (List ℕ)). get_or ls 0 []) parts_one) ∙ told_by q w of_q)

  pub behind_once : x ≡ y
  behind_once = one_text x y (ap (λ (ls : List (List ℕ)). drop 1 ls) parts_one)

-- a text that begins with some blocks has these, and more
pub front_once : (p q : Profile) (xs ys : List RawBlock) (front rest text : List ℕ) → IsRawFront p xs front → text ≡ front ++ rest → IsRawText q ys text →
    (p ≡ q) × ((more : List RawBlock) × (ys ≡ xs ++ more) × (rest ≡ bytes_of more ++ text_of_end (length ys)))
front_once p q xs ys front rest text begins is (whole, of_whole, ended) =
    let same : (begins.version ++ codes "\n") ++ (bytes_of xs ++ rest) ≡ (of_whole.version ++ codes "\n") ++ (bytes_of ys ++ text_of_end (length ys)) =
    sym (append_assoc (begins.version ++ codes "\n") (bytes_of xs) rest) ∙ ap (λ zs. zs ++ rest) (sym begins.front_is) ∙ sym is ∙ ended ∙ ap (λ zs. zs ++ text_of_end (length ys)) of_whole.front_is
    ∙ append_assoc (of_whole.version ++ codes "\n") (bytes_of ys) (text_of_end (length ys)) in (
      profile_once p q begins.version of_whole.version _ _ begins.versioned of_whole.versioned same,
      blocks_once xs ys rest (length ys) begins.each of_whole.each (behind_once p q begins.version of_whole.version _ _ begins.versioned of_whole.versioned same),
    )

-- no block stands in the last text line
none_in_end : (more : List RawBlock) (m n : ℕ) → All IsWhole more → text_of_end n ≡ bytes_of more ++ text_of_end m → more ≡ []
none_in_end [] m n each same = refl
none_in_end (x ∷ more) m n each same = absurd (end_is_none n x (bytes_of more ++ text_of_end m) (All-head IsWhole x more each) (same ∙ append_assoc x.bytes (bytes_of more) (text_of_end m)))

all_behind : (xs more : List RawBlock) → All IsWhole (xs ++ more) → All IsWhole more
all_behind [] more each = each
all_behind (x ∷ xs) more each = all_behind xs more (All-tail IsWhole x (xs ++ more) each)

pub raw_once : TextsHaveTheirBlocksInOneWay
raw_once text p q xs ys (front, begins, ended) other =
    let it = front_once p q xs ys front (text_of_end (length xs)) text begins ended other in
    let each = subst (All IsWhole) it.1.1 other.1.each in
    let none = none_in_end it.1.0 (length ys) (length xs) (all_behind xs it.1.0 each) it.1.2 in
    (it.0, sym (append-nil xs) ∙ ap (λ zs. xs ++ zs) (sym none) ∙ sym it.1.1)

-- the block of a section
block_raw : (s : Checked) → CanBeSpelled s → IsWhole (raw_block s)
unfolding block_lines body_lines head_told
block_raw s (spelled, few_rows) = record {
  line = head_line s.section.name (length s.section.events) (length (rows_in s));
  more = body_lines s.section.events (rows_in s);
  lines = ap lines_of (block-text s) ∙ lines_of-lines (block_lines s) (block-one s spelled);
  ended = ap left_of (block-text s) ∙ left_of-lines (block_lines s) (block-one s spelled);
  head = head_told s.section.name (length s.section.events) (length (rows_in s));
  told = head_of-line s.section.name (length s.section.events) (length (rows_in s)) spelled.run spelled.number (let few = spelled.few in omega (arith, few)) few_rows;
  named = refl;
  count = length-append (map text_of_event s.section.events) (map text_without_end (rows_in s)) ∙ grind (arith, common_steps, length-map);
}

blocks_are : (sections : List Checked) → flat_map text_of_block sections ≡ bytes_of (map raw_block sections)
blocks_are [] = refl
blocks_are (s ∷ sections) = ap (λ rest. text_of_block s ++ rest) (blocks_are sections)

rises_map : (sections : List Checked) → Rises sections → RawNamesRise (map raw_block sections)
rises_map [] rises = λ i j d less inside. absurd (omega (arith, inside))
rises_map (s ∷ more) rises =
    let R : RawBlock → RawBlock → Type 0 = λ a b. IsBefore a.name b.name in
    AllPairs-cons R (raw_block s) (map raw_block more) (All-map (R (raw_block s)) raw_block more (λ k d inside. Rises-first (λ (c : Checked). c.section.name) s more rises (get_or more k d) (Contains-get_or more k d inside)))
    (rises_map more (Rises-rest (λ (c : Checked). c.section.name) s more rises))

pub ledger_raw : LedgerTextsHaveTheirBlocks
ledger_raw l rises each = (
  (version_of l.profile ++ codes "\n") ++ bytes_of (map raw_block l.sections),
  record {
    version = version_of l.profile;
    versioned = inl refl;
    each = All-map IsWhole raw_block l.sections (All-weaker CanBeSpelled (λ s. IsWhole (raw_block s)) block_raw l.sections each);
    rises = rises_map l.sections rises;
    front_is = refl;
  },
  grind (arith, common_steps, append_assoc, blocks_are, length-map),
)

-- ---- whether a block tells a fail

words-fail : (k : ℕ) (f : Finding) → not (begins_no_fail (Some (k, text_of_finding k f))) ≡ is_same Fail (outcome_of f)
unfolding text_of_finding text_of_pair is_same
words-fail k PersistPass = refl
words-fail k _ = refl

row-fails : (row : Row) → row.place < 2 ^ 64 → tells_fail_in (text_without_end row) ≡ is_same Fail (outcome_of row.finding)
unfolding tells_fail_in
row-fails row small =
    ap (λ found. not (begins_no_fail found)) (number_in_front-decimal row.place (text_of_finding row.place row.finding) small (begins row.place row.finding)) ∙ words-fail row.place row.finding

rows-fail : (rows : List Row) → AllByRecursion FitsRow rows → list_any tells_fail_in (map text_without_end rows) ≡ list_any (λ row. is_same Fail (outcome_of row.finding)) rows
rows-fail [] fits = refl
rows-fail (row ∷ rows) fits =
    ap (λ b. b || list_any tells_fail_in (map text_without_end rows)) (row-fails row fits.0.0) ∙ ap (λ b. is_same Fail (outcome_of row.finding) || b) (rows-fail rows fits.1)

pub block_fails : BlocksTellTheirFails
unfolding tells_fail row_lines_of body_lines head_told block_raw
block_fails s can fits =
    let whole = block_raw s can in
    let events = map text_of_event s.section.events in
    let behind : drop (suc (length s.section.events)) (whole.line ∷ whole.more) ≡ map text_without_end (rows_in s) =
    ap (λ n. drop n (events ++ map text_without_end (rows_in s))) (sym (length-map s.section.events text_of_event)) ∙ drop-append_seam events (map text_without_end (rows_in s)) in
    ap (λ lines. list_any tells_fail_in (rows_behind (head_of (get_or lines 0 [])) lines)) whole.lines ∙ ap (λ head. list_any tells_fail_in (rows_behind head (whole.line ∷ whole.more))) whole.told
    ∙ ap (λ lines. list_any tells_fail_in lines) behind ∙ rows-fail (rows_in s) (recursion_from_All FitsRow (rows_in s) fits)
