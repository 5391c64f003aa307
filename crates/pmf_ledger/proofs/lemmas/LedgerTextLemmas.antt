-- The text of a ledger loads as that ledger.
use Rattle.std.{proofs.Common.{◌≡◌, ℕ, suc, ◌+◌, ◌-◌, ◌^◌, ◌<◌, ◌≤◌, List, [], ◌∷◌, ◌++◌, length, map, Some, None, refl, sym, ◌∙◌, ap, subst, arith, rules, append_assoc, length-append, codes, if◌then◌else◌, decimal, le-ltb, All, flat_map, append-nil, take_at, drop_at}, specs.List.{AllByRecursion}, proofs.lemmas.List.{length_push, length-map}, proofs.lemmas.List.Elements.{recursion_from_All, All-contains}, proofs.lemmas.Slice.Eq.{bytes_eq-Decides}, proofs.lemmas.Grind.{common_steps}}
use Rattle.pmf_event.specs.{declared.event.Event.{Event}, declared.name.Name.{Name}, declared.profile.Profile.{Profile}, declared.row.Row.{Row}, declared.section.TheConstants.{EVENT_LIMIT}, Section.{Trace}}
use Rattle.pmf_storelog.{specs.Canonical.{line_of_event}, specs.Spelling.{AllValid}, proofs.EventLineLemmas.{event_of_line-event}, proofs.FrontLemmas.{BeginsWithNoDigit, number_in_front-decimal}, proofs.PlainRecordLemmas.{text_of_lines}, proofs.PlainLemmas.{text_of_event}}
use Rattle.pmf_verdict.specs.{Checked.{Checked, checked_by, rows_in}, Rows.{rows_of}, Text.{text_of_row, text_of_rows}}
use Rattle.pmf_ledger.{specs.declared.head.Head.{Head}, specs.declared.loading.LedgerFault.TheVariants.{FalseRows}, specs.declared.loading.TheConstants.{LEDGER_LIMIT}, specs.Gathered.{IsLedgerOf}, specs.LedgerText.{IsSpelled, version_of, text_of_head, text_of_block, text_of_end, text_of_ledger}, specs.LedgerValue.{LedgerValue}, specs.Loading.{Reading, Stage, AtVersion, AtBlock, AtEvents, AtRows, AtEnd, AtFault, at, unread, alone, number_behind, profile_of, head_of, head_of_run, head_of_number, head_of_events, head_of_rows, end_of, after_version, after_head, after_end, after_event, after_row, after_line, after_line_at, after_lines, with_events, with_section, with_rows, lines_of, left_of, reading_of, fault_of, LoadsAs}, specs.Names.{Rises}, proofs.lemmas.AddingLemmas.{from_map}, proofs.lemmas.ReadingLemmas.{event-added, rows_told, end-here, line-at}, proofs.lemmas.SpelledLemmas.{OneLine, one-append, decimal-one, text_without_end, row-one, event-one, lines_of-lines, left_of-lines, lines-append, each-append}}

-- the text lines of a ledger
unfoldable pub head_line : Name → ℕ → ℕ → List ℕ
head_line name events rows = codes "section " ++ decimal name.run ++ codes "." ++ decimal name.number ++ codes " events=" ++ decimal events ++ codes " rows=" ++ decimal rows

unfoldable pub end_line : ℕ → List ℕ
end_line blocks = codes "end verdicts=" ++ decimal blocks

unfoldable pub body_lines : List Event → List Row → List (List ℕ)
body_lines events rows = map text_of_event events ++ map text_without_end rows

unfoldable pub block_lines : Checked → List (List ℕ)
unfolding body_lines
block_lines s = head_line s.section.name (length s.section.events) (length (rows_in s)) ∷ body_lines s.section.events (rows_in s)

abbrev ledger_lines : LedgerValue → List (List ℕ)
ledger_lines l = version_of l.profile ∷ (flat_map block_lines l.sections ++ end_line (length l.sections) ∷ [])

event_lines : (events : List Event) → flat_map line_of_event events ≡ text_of_lines (map text_of_event events)
event_lines [] = refl
event_lines (event ∷ events) = ap (λ rest. line_of_event event ++ rest) (event_lines events)

pub row_lines : (rows : List Row) → text_of_rows rows ≡ text_of_lines (map text_without_end rows)
row_lines [] = refl
row_lines (row ∷ rows) = ap (λ rest. text_of_row row ++ rest) (row_lines rows)

pub block-text : (s : Checked) → text_of_block s ≡ text_of_lines (block_lines s)
unfolding text_of_block text_of_head head_line block_lines body_lines
block-text s = grind (arith, common_steps, append_assoc, event_lines, row_lines, lines-append)

blocks-text : (sections : List Checked) → flat_map text_of_block sections ≡ text_of_lines (flat_map block_lines sections)
blocks-text [] = refl
blocks-text (s ∷ sections) = grind (arith, common_steps, block-text, lines-append, blocks-text sections)

ledger-text : (l : LedgerValue) → text_of_ledger l ≡ text_of_lines (ledger_lines l)
unfolding text_of_end end_line
ledger-text l = grind (arith, common_steps, append_assoc, blocks-text, append-nil, lines-append)

events-one : (events : List Event) → AllByRecursion AllValid events → AllByRecursion OneLine (map text_of_event events)
events-one [] valid = tt
events-one (event ∷ events) valid = (event-one event valid.0, events-one events valid.1)

pub rows-one : (rows : List Row) → AllByRecursion OneLine (map text_without_end rows)
rows-one [] = tt
rows-one (row ∷ rows) = (row-one row, rows-one rows)

pub block-one : (s : Checked) → IsSpelled s → AllByRecursion OneLine (block_lines s)
unfolding block_lines body_lines head_line
block-one s spelled = grind (arith, common_steps, each-append, events-one, recursion_from_All, rows-one, one-append, decimal-one)

blocks-one : (sections : List Checked) → AllByRecursion IsSpelled sections → AllByRecursion OneLine (flat_map block_lines sections)
blocks-one [] spelled = tt
blocks-one (s ∷ sections) spelled = grind (arith, common_steps, each-append, block-one, blocks-one sections spelled.1)

ledger-one : (l : LedgerValue) → AllByRecursion IsSpelled l.sections → AllByRecursion OneLine (ledger_lines l)
unfolding end_line
ledger-one l spelled = (grind (arith, common_steps), each-append (flat_map block_lines l.sections) (end_line (length l.sections) ∷ []) (blocks-one l.sections spelled) (one-append (codes "end verdicts=") (decimal (length l.sections)) (search rules) (decimal-one (length l.sections)), tt))

-- numbers behind words
pub number_behind-word : (word : List ℕ) (n : ℕ) (rest : List ℕ) → n < 2 ^ 64 → BeginsWithNoDigit rest → number_behind word (word ++ (decimal n ++ rest)) ≡ Some (n, rest)
unfolding number_behind
number_behind-word word n rest small none = grind (arith, common_steps, take_at, bytes_eq-Decides, drop_at, number_in_front-decimal)

regroup : (a b c d e f g h : List ℕ) → a ++ b ++ c ++ d ++ e ++ f ++ g ++ h ≡ a ++ (b ++ (c ++ (d ++ (e ++ (f ++ (g ++ (h ++ [])))))))
regroup a b c d e f g h = simp (append_assoc, append-nil) refl

unfoldable pub head_told : Name → ℕ → ℕ → Head
head_told name events rows = record { name = name; events = events; rows = rows }

pub head_of-line : (name : Name) (events rows : ℕ) → name.run < 2 ^ 64 → name.number < 2 ^ 64 → events < 2 ^ 64 → rows < 2 ^ 64 →
    head_of (head_line name events rows) ≡ Some (head_told name events rows)
unfolding head_of head_line head_told
head_of-line name events rows run number few short =
    let last = decimal rows ++ [] in let third = decimal events ++ (codes " rows=" ++ last) in let second = decimal name.number ++ (codes " events=" ++ third) in
    ap head_of (regroup (codes "section ") (decimal name.run) (codes ".") (decimal name.number) (codes " events=") (decimal events) (codes " rows=") (decimal rows))
    ∙ ap head_of_run (number_behind-word (codes "section ") name.run (codes "." ++ second) run refl)
    ∙ ap (head_of_number name.run) (number_behind-word (codes ".") name.number (codes " events=" ++ third) number refl)
    ∙ ap (head_of_events name) (number_behind-word (codes " events=") events (codes " rows=" ++ last) few refl)
    ∙ ap (λ found. head_of_rows name events (alone found)) (number_behind-word (codes " rows=") rows [] short tt)

pub head_of-end : (blocks : ℕ) → head_of (end_line blocks) ≡ None
unfolding head_of number_behind end_line
head_of-end blocks = refl

end_of-line : (blocks : ℕ) → blocks < 2 ^ 64 → end_of (end_line blocks) ≡ Some blocks
unfolding end_of end_line
end_of-line blocks small =
    ap (λ digits. end_of (codes "end verdicts=" ++ digits)) (sym (append-nil (decimal blocks))) ∙ ap alone (number_behind-word (codes "end verdicts=") blocks [] small tt)

-- the reading after more text lines
lines-after : (r : Reading) (n : ℕ) (xs ys : List (List ℕ)) → after_lines r n (xs ++ ys) ≡ after_lines (after_lines r n xs) (n + length xs) ys
unfolding after_lines
lines-after r n [] ys = grind (arith, common_steps)
lines-after r n (x ∷ xs) ys = grind (arith, common_steps, lines-after (after_line r n x) (suc n) xs ys)

-- the text lines lead from one reading to the other, wherever they stand
Leads : Reading → List (List ℕ) → Reading → Type 0
Leads r lines e = (n : ℕ) → after_lines r n lines ≡ e

leads-none : (r : Reading) → Leads r [] r
unfolding Leads after_lines
leads-none r = λ n. refl

leads-cons : (r e f : Reading) (x : List ℕ) (xs : List (List ℕ)) → ((n : ℕ) → after_line r n x ≡ e) → Leads e xs f → Leads r (x ∷ xs) f
unfolding Leads after_lines
leads-cons r e f x xs step rest = λ n. ap (λ o. after_lines o (suc n) xs) (step n) ∙ rest (suc n)

leads-append : (r e f : Reading) (xs ys : List (List ℕ)) → Leads r xs e → Leads e ys f → Leads r (xs ++ ys) f
unfolding Leads
leads-append r e f xs ys first second = λ n. lines-after r n xs ys ∙ ap (λ o. after_lines o (n + length xs) ys) (first n) ∙ second (n + length xs)

-- what comes next doesn't matter to a step
rows-at : (r : Reading) (stage : Stage) (section : Trace) (rows : List Row) → with_rows (at r stage) section rows ≡ with_rows r section rows
unfolding with_rows
rows-at r stage section rows = grind (arith, common_steps)

section-at : (r : Reading) (stage : Stage) (section : Trace) (told : ℕ) → with_section (at r stage) section told ≡ with_section r section told
unfolding with_section
section-at r stage section told = grind (arith, common_steps, rows-at)

events-at : (r : Reading) (stage : Stage) (section : Trace) (more told : ℕ) → with_events (at r stage) section more told ≡ with_events r section more told
unfolding with_events
events-at r stage section more told = grind (arith, common_steps, section-at)

-- rows
row-step : (r : Reading) (section : Trace) (row : Row) (rows : List Row) (n : ℕ) → after_line (with_rows r section (row ∷ rows)) n (text_without_end row) ≡ with_rows r section rows
unfolding with_rows after_row after_line_at
row-step r section row rows n =
    let here = at r (AtRows section (row ∷ rows)) in line-at here n (text_without_end row) (AtRows section (row ∷ rows)) refl
    ∙ ap (λ same. if same then with_rows here section rows else at here (AtFault (FalseRows section.name))) ((bytes_eq-Decides (text_of_row row) (text_of_row row)).1 refl)
    ∙ rows-at r (AtRows section (row ∷ rows)) section rows

leads-rows : (r : Reading) (section : Trace) (rows : List Row) → Leads (with_rows r section rows) (map text_without_end rows) (with_rows r section [])
leads-rows r section [] = leads-none (with_rows r section [])
leads-rows r section (row ∷ rows) = grind (arith, common_steps, leads-cons, row-step, leads-rows r section rows)

-- events
module _ (r : Reading) (name : Name) (told : ℕ) where
  of_events : List Event → Trace
  of_events events = record { name = name; events = events }

  event-step : (done left : List Event) (event : Event) (n : ℕ) → AllValid event → length done < EVENT_LIMIT →
      after_line (with_events r (of_events done) (length (event ∷ left)) told) n (text_of_event event) ≡ with_events r (of_events (done ++ event ∷ [])) (length left) told
  unfolding with_events of_events after_line_at
  event-step done left event n valid few =
      let stage = AtEvents (of_events done) (length (event ∷ left)) told in let here = at r stage in let one_less : length (event ∷ left) - 1 ≡ length left = omega arith in
      line-at here n (text_of_event event) stage refl ∙ ap (after_event here n (of_events done) (length (event ∷ left)) told) (event_of_line-event event valid)
      ∙ event-added here n (of_events done) (length (event ∷ left)) told event (λ full. omega (arith, full, few))
      ∙ events-at r stage (of_events (done ++ event ∷ [])) (length (event ∷ left) - 1) told ∙ ap (λ k. with_events r (of_events (done ++ event ∷ [])) k told) one_less

  leads-events : (done left : List Event) → AllByRecursion AllValid left → length done + length left ≤ EVENT_LIMIT →
      Leads (with_events r (of_events done) (length left) told) (map text_of_event left) (with_section r (of_events (done ++ left)) told)
  unfolding with_events
  leads-events done [] valid few = rw (append-nil done) (leads-none (with_section r (of_events done) told))
  leads-events done (event ∷ left) valid few = grind (arith, common_steps, length_push, append_assoc, leads-cons, event-step, leads-events (done ++ event ∷ []) left valid.1)

-- a block
after_blocks : Profile → List Trace → Reading
after_blocks profile blocks = record { profile = profile; blocks = blocks; stage = AtBlock }

module _ (profile : Profile) (blocks : List Trace) (section : Trace) (spelled : IsSpelled (checked_by profile section)) (short : length (rows_of profile section.events) < 2 ^ 64) where
  abbrev r : Reading
  r = after_blocks profile blocks

  abbrev rows : List Row
  rows = rows_of profile section.events

  head-step : (n : ℕ) → after_line r n (head_line section.name (length section.events) (length rows)) ≡ with_events r (record { name = section.name; events = [] }) (length section.events) (length rows)
  unfolding after_blocks head_told after_line_at
  head-step n =
      let text = head_line section.name (length section.events) (length rows) in line-at r n text AtBlock refl
      ∙ ap (after_head r n text) (head_of-line section.name (length section.events) (length rows) spelled.run spelled.number (let few = spelled.few in omega (arith, few)) short)

  leads-block : Leads r (block_lines (checked_by profile section)) (after_blocks profile (blocks ++ section ∷ []))
  unfolding block_lines body_lines after_blocks with_rows of_events
  leads-block =
      leads-cons r (with_events r (record { name = section.name; events = [] }) (length section.events) (length rows)) (after_blocks profile (blocks ++ section ∷ []))
      (head_line section.name (length section.events) (length rows)) (map text_of_event section.events ++ map text_without_end rows) head-step
      (leads-append _ (with_section r section (length rows)) _ (map text_of_event section.events) (map text_without_end rows)
      (leads-events r section.name (length rows) [] section.events (recursion_from_All AllValid section.events spelled.valid) (let few = spelled.few in omega (arith, few)))
      (subst (λ e. Leads e (map text_without_end rows) (with_rows r section [])) (sym (rows_told r section (length rows) refl)) (leads-rows r section rows)))

-- all blocks
abbrev AllBy : Profile → List Checked → Type 0
AllBy profile sections = AllByRecursion (λ (s : Checked). s.profile ≡ profile) sections

abbrev traces : List Checked → List Trace
traces sections = map (λ (s : Checked). s.section) sections

rows-few : (s : Checked) → length (rows_in s) < length (block_lines s)
unfolding block_lines body_lines
rows-few s = grind (arith, common_steps, length-append, length-map)

leads-blocks : (profile : Profile) (done : List Trace) (sections : List Checked) → AllBy profile sections → AllByRecursion IsSpelled sections → length (flat_map block_lines sections) < 2 ^ 64 →
    Leads (after_blocks profile done) (flat_map block_lines sections) (after_blocks profile (done ++ traces sections))
leads-blocks profile done [] by spelled few = rw (append-nil done) (leads-none (after_blocks profile done))
leads-blocks profile done (s ∷ sections) by spelled few =
    let long = length-append (block_lines s) (flat_map block_lines sections) in let less = rows-few s in
    let is : s ≡ checked_by profile s.section = ap (λ own. checked_by own s.section) by.0 in let short : length (rows_in s) < 2 ^ 64 = omega (arith, few, long, less) in
    let block = subst (λ c. Leads (after_blocks profile done) (block_lines c) (after_blocks profile (done ++ s.section ∷ []))) (sym is)
    (leads-block profile done s.section (subst IsSpelled is spelled.0) (subst (λ c. length (rows_in c) < 2 ^ 64) is short)) in
    let rest = leads-blocks profile (done ++ s.section ∷ []) sections by.1 spelled.1 (omega (arith, few, long)) in
    leads-append (after_blocks profile done) (after_blocks profile (done ++ s.section ∷ [])) (after_blocks profile (done ++ traces (s ∷ sections)))
    (block_lines s) (flat_map block_lines sections) block
    (subst (λ blocks. Leads (after_blocks profile (done ++ s.section ∷ [])) (flat_map block_lines sections) (after_blocks profile blocks)) (append_assoc done (s.section ∷ []) (traces sections)) rest)

sections-few : (sections : List Checked) → length sections ≤ length (flat_map block_lines sections)
sections-few [] = omega arith
sections-few (s ∷ sections) =
    let long = length-append (block_lines s) (flat_map block_lines sections) in let less = rows-few s in let rest = sections-few sections in omega (arith, long, less, rest)

lines-long : (lines : List (List ℕ)) → length lines ≤ length (text_of_lines lines)
lines-long [] = omega arith
lines-long (line ∷ lines) = grind (arith, common_steps, length-append, lines-long lines)

-- the text of some lines
reading-lines : (text : List ℕ) (lines : List (List ℕ)) → text ≡ text_of_lines lines → AllByRecursion OneLine lines → length text ≤ LEDGER_LIMIT → reading_of text ≡ after_lines unread 1 lines
unfolding reading_of
reading-lines text lines is each short = rw (le-ltb LEDGER_LIMIT (length text) short) (ap (after_lines unread 1) (ap lines_of is ∙ lines_of-lines lines each))

no_fault : (text : List ℕ) → (reading_of text).stage ≡ AtEnd → left_of text ≡ [] → fault_of text ≡ None
unfolding fault_of
no_fault text is none = rw (none, is) refl

pub profile_of-version : (profile : Profile) → profile_of (version_of profile) ≡ Some profile
unfolding profile_of
profile_of-version profile = grind (arith, common_steps)

module _ (l : LedgerValue) (rises : Rises l.sections) (checked : All (λ (c : Checked). c.profile ≡ l.profile) l.sections) (spelled : All IsSpelled l.sections) (short : length (text_of_ledger l) ≤ LEDGER_LIMIT) where
  each_spelled : AllByRecursion IsSpelled l.sections
  each_spelled = recursion_from_All IsSpelled l.sections spelled

  whole : Reading
  whole = record { profile = l.profile; blocks = traces l.sections; stage = AtEnd }

  few_lines : length (flat_map block_lines l.sections) + 2 ≤ LEDGER_LIMIT
  few_lines = grind (arith, common_steps, ledger-text, lines-long, length-append)

  end-step : (n : ℕ) → after_line (after_blocks l.profile (traces l.sections)) n (end_line (length l.sections)) ≡ whole
  unfolding whole after_blocks after_line_at
  end-step n =
      let r = after_blocks l.profile (traces l.sections) in let few = sections-few l.sections in let small : length l.sections < 2 ^ 64 = omega (arith, few, few_lines) in
      line-at r n (end_line (length l.sections)) AtBlock refl ∙ ap (after_head r n (end_line (length l.sections))) (head_of-end (length l.sections))
      ∙ ap (after_end r n) (end_of-line (length l.sections) small) ∙ end-here r n (length l.sections) (length l.sections) (sym (length-map l.sections (λ (s : Checked). s.section))) refl

  version-step : (n : ℕ) → after_line unread n (version_of l.profile) ≡ after_blocks l.profile []
  unfolding after_blocks after_line_at
  version-step n = line-at unread n (version_of l.profile) AtVersion refl ∙ ap (after_version unread n) (profile_of-version l.profile)

  leads-ledger : Leads unread (ledger_lines l) whole
  leads-ledger =
      leads-cons unread (after_blocks l.profile []) whole (version_of l.profile) (flat_map block_lines l.sections ++ end_line (length l.sections) ∷ []) version-step
      (leads-append (after_blocks l.profile []) (after_blocks l.profile (traces l.sections)) whole (flat_map block_lines l.sections) (end_line (length l.sections) ∷ [])
      (leads-blocks l.profile [] l.sections (recursion_from_All (λ (c : Checked). c.profile ≡ l.profile) l.sections checked) each_spelled (omega (arith, few_lines)))
      (leads-cons (after_blocks l.profile (traces l.sections)) whole whole (end_line (length l.sections)) [] end-step (leads-none whole)))

  reading_is : reading_of (text_of_ledger l) ≡ whole
  unfolding Leads
  reading_is = reading-lines (text_of_ledger l) (ledger_lines l) (ledger-text l) (ledger-one l each_spelled) short ∙ leads-ledger 1

  of_ledger : IsLedgerOf l.profile (traces l.sections) l
  of_ledger = grind (arith, common_steps, from_map, All-contains)

  -- what is written of a ledger loads as the ledger
  pub loads-written : LoadsAs (text_of_ledger l) l
  unfolding whole
  loads-written = record {
    faultless =
        no_fault (text_of_ledger l) (ap (λ (o : Reading). o.stage) reading_is)
        (ap left_of (ledger-text l) ∙ left_of-lines (ledger_lines l) (ledger-one l each_spelled));
    gathered = subst (λ (o : Reading). IsLedgerOf o.profile o.blocks l) (sym reading_is) of_ledger;
  }
