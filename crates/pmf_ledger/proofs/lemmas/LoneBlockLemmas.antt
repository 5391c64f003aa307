-- A block that is read apart from its text, and then stands in it.
use Rattle.std.proofs.{Common.{◌≡◌, ℕ, suc, ◌+◌, ◌-◌, ◌<◌, Bool, true, false, List, [], ◌∷◌, ◌++◌, length, Some, refl, sym, ◌∙◌, ap, subst, arith, codes, append_assoc, append-nil, length-append, rules}, lemmas.List.{length_push}, lemmas.List.Elements.{All-from_recursion, All-nil}, lemmas.Grind.{common_steps}}
use Rattle.pmf_event.specs.{declared.name.Name.{Name}, declared.profile.Profile.{Profile}, declared.profile.Profile.TheVariants.{One, Two}, Section.{Trace}}
use Rattle.pmf_ledger.{specs.declared.block_lines.BlockLines.{BlockLines}, specs.declared.lone_block.LoneBlock.{LoneBlock}, specs.BlockReading.{AreLinesOf, EndsWithin, GivesBlock, HasNoLineEnd, behind}, specs.Following.{IsNext}, specs.LedgerText.{version_of}, specs.Loading.{Reading, Stage, AtVersion, AtBlock, AtEvents, AtRows, AtEnd, AtFault, after_line, after_line_at, after_lines, after_row, after_version, is_line_end, left_of, lines_of, parts_of, reading_through, unread, with_events, with_rows, with_section}, specs.LoneBlock.{IsLone}, specs.Names.{IsBefore}, proofs.lemmas.BlockReadingLemmas.{rises_more}, proofs.lemmas.TextPartsLemmas.{last_is, parts_behind, parts_whole, without_last}, proofs.lemmas.LedgerTextLemmas.{profile_of-version}, proofs.lemmas.LinesLemmas.{parts_filled, stays}, proofs.lemmas.ReadingLemmas.{line-at}, proofs.lemmas.TextFrontLemmas.{left_alone, lines_alone, reading_is, within-more, within-next, within-start}}

-- whether a text line neither ended the text nor was refused
abbrev goes_on : Stage → Bool
goes_on AtEnd = false
goes_on (AtFault found) = false
goes_on _ = true

-- such a one does the same wherever it stands, and behind whatever blocks
line_moved : (r : Reading) (n m : ℕ) (blocks : List Trace) (text : List ℕ) → goes_on (after_line r n text).stage ≡ true → after_line (behind blocks r) m text ≡ behind blocks (after_line r n text)
unfolding after_line after_line_at after_row with_section with_events with_rows
line_moved r n m blocks text goes = grind (arith, common_steps, append_assoc)

-- where a block comes next at last, no text line ended the text or was refused
went_on : (r : Reading) (n : ℕ) (texts : List (List ℕ)) → (after_lines r n texts).stage ≡ AtBlock → goes_on r.stage ≡ true
unfolding after_lines after_line_at
went_on r n texts is = by r.stage refl texts is
  where
    by : (stage : Stage) → r.stage ≡ stage → (ts : List (List ℕ)) → (after_lines r n ts).stage ≡ AtBlock → goes_on r.stage ≡ true
    by AtVersion here ts last = rw here refl
    by AtBlock here ts last = rw here refl
    by (AtEvents section more told) here ts last = rw here refl
    by (AtRows section rows) here ts last = rw here refl
    by (AtFault found) here ts last = let wrong : AtFault found ≡ AtBlock = sym here ∙ ap (λ (e : Reading). e.stage) (sym (stays r found n ts here)) ∙ last in cc
    by AtEnd here [] last = let wrong : AtEnd ≡ AtBlock = sym here ∙ last in cc
    by AtEnd here (text ∷ ts) last =
        let refused = line-at r n text AtEnd here in
        let stage = ap (λ (e : Reading). e.stage) refused in
        let wrong = sym stage ∙ ap (λ (e : Reading). e.stage) (sym (stays (after_line r n text) _ (suc n) ts stage)) ∙ last in cc

lines_moved : (r : Reading) (n m : ℕ) (blocks : List Trace) (texts : List (List ℕ)) → (after_lines r n texts).stage ≡ AtBlock →
    after_lines (behind blocks r) m texts ≡ behind blocks (after_lines r n texts)
unfolding after_lines
lines_moved r n m blocks [] is = refl
lines_moved r n m blocks (text ∷ texts) is =
    ap (λ e. after_lines e (suc m) texts) (line_moved r n m blocks text (went_on (after_line r n text) (suc n) texts is)) ∙ lines_moved (after_line r n text) (suc n) (suc m) blocks texts is

-- the profile stays as the first text line tells it
abbrev has_begun : Stage → Bool
has_begun AtVersion = false
has_begun _ = true

line_begun : (r : Reading) (n : ℕ) (text : List ℕ) → has_begun r.stage ≡ true → (has_begun (after_line r n text).stage ≡ true) × ((after_line r n text).profile ≡ r.profile)
unfolding after_line after_line_at after_row with_section with_events with_rows
line_begun r n text begun = grind (arith, common_steps)

profile_stays : (r : Reading) (n : ℕ) (texts : List (List ℕ)) → has_begun r.stage ≡ true → (after_lines r n texts).profile ≡ r.profile
unfolding after_lines
profile_stays r n [] begun = refl
profile_stays r n (text ∷ texts) begun = let next = line_begun r n text begun in profile_stays (after_line r n text) (suc n) texts next.0 ∙ next.1

-- some text lines, and then more
after-more : (r : Reading) (n : ℕ) (front rest : List (List ℕ)) → after_lines r n (front ++ rest) ≡ after_lines (after_lines r n front) (n + length front) rest
unfolding after_lines
after-more r n [] rest = let none : n + length {A = List ℕ} [] ≡ n = omega arith in rw none refl
after-more r n (text ∷ front) rest = let one : n + length (text ∷ front) ≡ suc n + length front = omega arith in rw one (after-more (after_line r n text) (suc n) front rest)

-- bytes that end with a text line, and more behind them
module _ (bytes more : List ℕ) (ended : left_of bytes ≡ []) where
  pub parts_on : parts_of (bytes ++ more) ≡ lines_of bytes ++ parts_of more
  parts_on = by (parts_of more) refl
    where
      by : (parts : List (List ℕ)) → parts_of more ≡ parts → parts_of (bytes ++ more) ≡ lines_of bytes ++ parts_of more
      by [] is = let some = parts_filled more in let none = ap (λ (ps : List (List ℕ)). length ps) is in absurd (omega (arith, some, none))
      by (next ∷ later) is = parts_behind bytes more next later is ∙ ap (λ xs. lines_of bytes ++ (xs ++ next) ∷ later) ended ∙ ap (λ ps. lines_of bytes ++ ps) (sym is)

  parts_all : parts_of (bytes ++ more) ≡ (lines_of bytes ++ lines_of more) ++ left_of more ∷ []
  parts_all = parts_on ∙ ap (λ ps. lines_of bytes ++ ps) (parts_whole more) ∙ sym (append_assoc (lines_of bytes) (lines_of more) (left_of more ∷ []))

  pub lines_on : lines_of (bytes ++ more) ≡ lines_of bytes ++ lines_of more
  lines_on = rw parts_all (without_last (lines_of bytes ++ lines_of more) (left_of more))

  pub left_on : left_of (bytes ++ more) ≡ left_of more
  left_on = rw parts_all (last_is (lines_of bytes ++ lines_of more) (left_of more))

-- a text that goes on by bytes that end with a text line
pub within-lines : (text bytes : List ℕ) (line : ℕ) (r e : Reading) → EndsWithin text [] line r → left_of bytes ≡ [] → after_lines r line (lines_of bytes) ≡ e →
    EndsWithin (text ++ bytes) [] (line + length (lines_of bytes)) e
within-lines text bytes line r e here ended is = record {
  unended = here.unended;
  goes_on = λ more.
      ap (λ o. after_lines o (line + length (lines_of bytes)) (lines_of more)) (sym is) ∙ sym (after-more r line (lines_of bytes) (lines_of more))
      ∙ ap (after_lines r line) (sym (lines_on bytes more ended)) ∙ here.goes_on (bytes ++ more) ∙ ap reading_through (sym (append_assoc text bytes more));
  counted = λ more.
      let all = here.counted (bytes ++ more) in let lines = ap (λ (ls : List (List ℕ)). length ls) (lines_on bytes more ended) in
      let long = length-append (lines_of bytes) (lines_of more) in
      rw (append_assoc text bytes more) (omega (arith, all, lines, long));
  left = λ more. rw (append_assoc text bytes more) (sym (left_on bytes more ended) ∙ here.left (bytes ++ more));
}

-- behind the first text line
module _ (profile : Profile) where
  abbrev pub begun : Reading
  begun = after_version unread 1 (Some profile)

  version_unended : HasNoLineEnd (version_of profile)
  version_unended = by profile
    where
      by : (p : Profile) → HasNoLineEnd (version_of p)
      by One = All-from_recursion (λ c. is_line_end c ≡ false) (version_of One) (search rules)
      by Two = All-from_recursion (λ c. is_line_end c ≡ false) (version_of Two) (search rules)

  pub within-version : EndsWithin (version_of profile ++ codes "\n") [] 2 begun
  unfolding after_line_at
  within-version =
      let line = within-next (version_of profile) (version_of profile) 1 unread (within-more [] [] 1 unread within-start (version_of profile) version_unended) in
      subst (λ e. EndsWithin (version_of profile ++ codes "\n") [] 2 e) (line-at unread 1 (version_of profile) AtVersion refl ∙ ap (after_version unread 1) (profile_of-version profile)) line

  -- bytes that were read there, up to where a block may begin
  module _ (bytes front : List ℕ) (line : ℕ) (e : Reading) (here : EndsWithin ((version_of profile ++ codes "\n") ++ bytes) front line e) (none : front ≡ []) where
    abbrev text : List ℕ
    text = (version_of profile ++ codes "\n") ++ bytes

    ends : EndsWithin text [] line e
    ends = subst (λ xs. EndsWithin text xs line e) none here

    read : after_lines begun 2 (lines_of bytes) ≡ e
    read = within-version.goes_on bytes ∙ reading_is text [] line e ends

    ended : left_of bytes ≡ []
    ended = within-version.left bytes ∙ ap left_of (sym (append-nil text)) ∙ sym (ends.left []) ∙ left_alone [] (All-nil (λ c. is_line_end c ≡ false))

    pub count : line ≡ 2 + length (lines_of bytes)
    count =
        let first = within-version.counted bytes in let last = ends.counted [] in let same = ap (λ xs. length (parts_of xs)) (append-nil text) in
        let no_line = ap (λ (ls : List (List ℕ)). length ls) (lines_alone [] (All-nil (λ c. is_line_end c ≡ false))) in
        omega (arith, first, last, same, no_line)

    -- they are a block
    module _ (lone : LoneBlock) (comes : e.stage ≡ AtBlock) (given : GivesBlock begun e (Some lone.verdict)) (lines : lone.lines ≡ line - 2) where
      by_profile : e.profile ≡ profile
      by_profile = ap (λ (o : Reading). o.profile) (sym read) ∙ profile_stays begun 2 (lines_of bytes) refl

      moved : (r : Reading) (n : ℕ) → r.profile ≡ profile → r.stage ≡ AtBlock → after_lines r n (lines_of bytes) ≡ with_rows r lone.verdict.section []
      unfolding with_rows
      moved r n by at =
          let bare : r ≡ behind r.blocks begun = λ i. record { profile = by i; blocks = sym (append-nil r.blocks) i; stage = at i } in
          let whole : behind r.blocks e ≡ with_rows r lone.verdict.section [] = λ i. record { profile = (by_profile ∙ sym by) i; blocks = r.blocks ++ given.0 i; stage = comes i } in
          ap (λ o. after_lines o n (lines_of bytes)) bare ∙ lines_moved begun 2 n r.blocks (lines_of bytes) (ap (λ (o : Reading). o.stage) read ∙ comes) ∙ ap (behind r.blocks) read ∙ whole

      pub read_alone : IsLone profile bytes lone
      read_alone = record { ended = ended; lines = lines ∙ (let long = count in omega (arith, long)); by = given.1 ∙ by_profile; reads = moved }

pub gives_lone : (r : Reading) (bytes : List ℕ) (lone : LoneBlock) → IsLone r.profile bytes lone → GivesBlock r (with_rows r lone.verdict.section []) (Some lone.verdict)
unfolding with_rows
gives_lone r bytes lone is = (refl, is.by)

-- the block stands in a text, where one comes next
module _ (r : Reading) (line : ℕ) (bytes : List ℕ) (lone : LoneBlock) (is : IsLone r.profile bytes lone) (comes : r.stage ≡ AtBlock) where
  some_line : 0 < lone.lines
  unfolding after_lines with_rows
  some_line = by (lines_of bytes) refl
    where
      by : (texts : List (List ℕ)) → lines_of bytes ≡ texts → 0 < lone.lines
      by [] none =
          let same : r ≡ with_rows r lone.verdict.section [] = ap (after_lines r line) (sym none) ∙ is.reads r line refl comes in
          let long = ap (λ (e : Reading). length e.blocks) same in let one = length_push r.blocks lone.verdict.section in absurd (omega (arith, long, one))
      by (text ∷ texts) some = let count = is.lines ∙ ap (λ (ts : List (List ℕ)). length ts) some in omega (arith, count)

  pub lines_stand : (lines : BlockLines) (next count : ℕ) (name : Name) → AreLinesOf r line lines → next ≡ lines.line + lone.lines → count ≡ lines.count + 1 →
      name ≡ lone.verdict.section.name → ((last : Name) → lines.last ≡ Some last → IsBefore last name) →
      AreLinesOf (with_rows r lone.verdict.section []) (line + lone.lines) (record { blocks = lines.blocks; next = lines.next; line = next; count = count; last = Some name })
  unfolding with_rows
  lines_stand lines next count name are next_is count_is named after = record {
    stands = (record { pile = are.stands.0.pile; count = are.stands.0.count }, subst (λ stage. IsNext (record { profile = r.profile; blocks = []; stage = stage }) lines.next) comes are.stands.1);
    line_is = next_is ∙ ap (λ n. n + lone.lines) are.line_is;
    count = let long = length_push r.blocks lone.verdict.section in let so = are.count in omega (arith, long, so, count_is);
    few = let few = are.few in let some = some_line in omega (arith, few, some, next_is, count_is);
    rises = rises_more r.blocks lone.verdict.section are.rises lines.last are.last (λ last is_last. subst (IsBefore last) named (after last is_last));
    last = (r.blocks, lone.verdict.section, refl, sym named);
  }

  pub stands_within : (text front : List ℕ) → EndsWithin text front line r → front ≡ [] → EndsWithin (text ++ bytes) front (line + lone.lines) (with_rows r lone.verdict.section [])
  stands_within text front here none =
      let ends = within-lines text bytes line r (with_rows r lone.verdict.section []) (subst (λ xs. EndsWithin text xs line r) none here) is.ended (is.reads r line refl comes) in
      subst (λ xs. EndsWithin (text ++ bytes) xs (line + lone.lines) (with_rows r lone.verdict.section [])) (sym none)
      (subst (λ n. EndsWithin (text ++ bytes) [] (line + n) (with_rows r lone.verdict.section [])) (sym is.lines) ends)
