-- A ledger text read text line by text line: what is left of it, and where the reading ends.
use Rattle.std.proofs.{Common.{◌≡◌, ℕ, suc, ◌+◌, ◌-◌, ◌<◌, ◌≤◌, true, false, ◌==◌, List, [], ◌∷◌, ◌++◌, length, take, drop, Bool, Option, Some, None, refl, sym, ◌∙◌, ap, subst, arith, if◌then◌else◌, le-ltb, lt-ltb, append_assoc, append-nil, length-drop, length-take-le, rules}, lemmas.Grind.{common_steps}, lemmas.List.{length_push}}
use Rattle.memchr.specs.Find.{IsFirstByte, is_byte}
use Rattle.pmf_event.specs.{declared.name.Name.{Name}, declared.profile.Profile.{Profile}, Section.{Trace}}
use Rattle.pmf_storelog.proofs.SplitLemmas.{split_none, split_some, split_filled}
use Rattle.pmf_ledger.{specs.declared.blocks.Blocks.{Blocks}, specs.declared.blocks.Next.{Next}, specs.declared.loading.LedgerFault.{LedgerFault}, specs.declared.loading.LedgerFault.TheVariants.{NotALedger}, specs.declared.loading.TheConstants.{LEDGER_LIMIT}, specs.Following.{HasRead, IsNext, StandsFor, IsStoppedBy, is_over}, specs.Gathered.{IsLedgerOf}, specs.Gathering.{Agrees}, specs.LedgerValue.{LedgerValue}, specs.declared.head.Head.{Head}, specs.Loading.{Reading, AtVersion, AtBlock, AtEnd, AtFault, at, unread, after_version, after_head, after_end, profile_of, head_of, end_of, after_row, after_line_at, with_rows, with_section, with_events, after_line, after_lines, is_line_end, parts_of, lines_of, left_of, reading_of, fault_at_end, fault_of, IsFirstOther, IsRefusedWith, LineTakesMemory, LoadsAs, MayWantMemory}, proofs.lemmas.MergingLemmas.{none_of_empty}, proofs.lemmas.ReadingLemmas.{line-at}}

-- the first of some parts, with more behind it
pub take_before : {X : Type 0} (x : X) (xs : List X) → 0 < length xs → take (length (x ∷ xs) - 1) (x ∷ xs) ≡ x ∷ take (length xs - 1) xs
take_before x xs some = grind (arith, common_steps)

pub parts_filled : (text : List ℕ) → 0 < length (parts_of text)
unfolding parts_of
parts_filled text = split_filled is_line_end text

module _ (rest : List ℕ) (end : ℕ) (found : IsFirstByte (is_byte 10) rest (Some end)) where
  parts_more : parts_of rest ≡ take end rest ∷ parts_of (drop (end + 1) rest)
  unfolding parts_of
  parts_more = split_some is_line_end rest end found

  pub lines_more : lines_of rest ≡ take end rest ∷ lines_of (drop (end + 1) rest)
  lines_more = rw parts_more (take_before (take end rest) (parts_of (drop (end + 1) rest)) (parts_filled (drop (end + 1) rest)))

  pub left_more : left_of rest ≡ left_of (drop (end + 1) rest)
  left_more = let some = parts_filled (drop (end + 1) rest) in rw parts_more (grind (arith, common_steps))

module _ (rest : List ℕ) (none : IsFirstByte (is_byte 10) rest None) where
  parts_none : parts_of rest ≡ rest ∷ []
  unfolding parts_of
  parts_none = split_none is_line_end rest none

  pub lines_none : lines_of rest ≡ []
  lines_none = rw parts_none refl

  pub left_none : left_of rest ≡ rest
  left_none = rw parts_none refl

-- a reading has the blocks of another, and more
record Extends (r e : Reading) : Type 0 where
  more : List Trace
  whole : e.blocks ≡ r.blocks ++ more

same_blocks : (r e : Reading) → e.blocks ≡ r.blocks → Extends r e
same_blocks r e same = record { more = []; whole = same ∙ sym (append-nil r.blocks) }

extends-if : (r : Reading) (v : Bool) (e f : Reading) → Extends r e → Extends r f → Extends r (if v then e else f)
extends-if r v e f first second = search rules

extends : (r : Reading) (n : ℕ) (text : List ℕ) → Extends r (after_line r n text)
unfolding after_line after_line_at after_row with_section with_events with_rows
extends r n text = search (rules, same_blocks, extends-if)

pub blocks-more : (r : Reading) (n : ℕ) (text : List ℕ) → length (after_line r n text).blocks ≤ length r.blocks + 1
unfolding after_line after_line_at after_row with_section with_events with_rows
blocks-more r n text = grind (arith, common_steps)

-- the reading after more text lines has the blocks from before them, and more
pub later : (r : Reading) (n : ℕ) (texts : List (List ℕ)) → (more : List Trace) × ((after_lines r n texts).blocks ≡ r.blocks ++ more)
unfolding after_lines
later r n [] = ([], sym (append-nil r.blocks))
later r n (text ∷ texts) =
    let e = extends r n text in let rest = later (after_line r n text) (suc n) texts in
    (e.more ++ rest.0, rest.1 ∙ ap (λ blocks. blocks ++ rest.0) e.whole ∙ append_assoc r.blocks e.more rest.0)

-- a fault stays
pub stays : (r : Reading) (found : LedgerFault) (n : ℕ) (texts : List (List ℕ)) → r.stage ≡ AtFault found → after_lines r n texts ≡ r
unfolding after_lines after_line_at
stays r found n [] is = refl
stays r found n (text ∷ texts) is = let same = line-at r n text (AtFault found) is in ap (λ e. after_lines e (suc n) texts) same ∙ stays r found (suc n) texts is

pub after-push : (r : Reading) (n : ℕ) (front : List (List ℕ)) (text : List ℕ) →
    after_lines r n (front ++ text ∷ []) ≡ after_line (after_lines r n front) (n + length front) text
unfolding after_lines
after-push r n [] text = let none : n + length {A = List ℕ} [] ≡ n = omega arith in rw none refl
after-push r n (first ∷ front) text =
    let one : n + length (first ∷ front) ≡ suc n + length front = omega arith in rw one (after-push (after_line r n first) (suc n) front text)

-- the text lines before this rest lead to this reading
unfoldable pub IsBehind : List ℕ → List ℕ → ℕ → Reading → Type 0
IsBehind text rest line r =
    (front : List (List ℕ)) × (lines_of text ≡ front ++ lines_of rest) × (after_lines unread 1 front ≡ r) × (1 + length front ≡ line)

behind-start : (text : List ℕ) → IsBehind text text 1 unread
unfolding after_lines IsBehind
behind-start text = ([], refl, refl, refl)

behind-next : (text rest : List ℕ) (line end : ℕ) (r : Reading) → IsBehind text rest line r → IsFirstByte (is_byte 10) rest (Some end) →
    IsBehind text (drop (end + 1) rest) (line + 1) (after_line r line (take end rest))
unfolding IsBehind
behind-next text rest line end r (front, whole, read, count) found =
    let next = take end rest in let long = length_push front next in (
      front ++ next ∷ [],
      whole ∙ ap (λ lines. front ++ lines) (lines_more rest end found) ∙ sym (append_assoc front (next ∷ []) (lines_of (drop (end + 1) rest))),
      after-push unread 1 front next ∙ ap (λ n. after_line (after_lines unread 1 front) n next) count ∙ ap (λ o. after_line o line next) read,
      omega (arith, long, count),
    )

-- in the text at this line, with this rest: the reading so far leads to the reading of the whole
pub record IsAt (text rest : List ℕ) (line : ℕ) (r : Reading) : Type 0 where
  pub whole : after_lines r line (lines_of rest) ≡ reading_of text
  pub count : line + length (lines_of rest) ≡ length (parts_of text)
  pub left : left_of rest ≡ left_of text
  pub few : length r.blocks < line
  pub short : line + length rest ≤ length text + 1
  pub behind : IsBehind text rest line r

pub lines-count : (text : List ℕ) → 1 + length (lines_of text) ≡ length (parts_of text)
lines-count text = grind (arith, common_steps, parts_filled, length-take-le)

pub IsAt-start : (text : List ℕ) → length text ≤ LEDGER_LIMIT → IsAt text text 1 unread
unfolding reading_of
IsAt-start text short = grind (arith, common_steps, le-ltb, lines-count, behind-start)

-- too long
pub refused-long : (text : List ℕ) → LEDGER_LIMIT < length text → IsRefusedWith text (NotALedger 0)
unfolding reading_of fault_of
refused-long text long = rw (lt-ltb LEDGER_LIMIT (length text) long) ((λ s t here there same. absurd (omega (arith, here.1))), refl)

-- a text line on
pub IsAt-next : (text rest : List ℕ) (line end : ℕ) (r : Reading) → IsAt text rest line r → end < length rest → IsFirstByte (is_byte 10) rest (Some end) →
    IsAt text (drop (end + 1) rest) (line + 1) (after_line r line (take end rest))
unfolding after_lines
IsAt-next text rest line end r here inside found = grind (arith, common_steps, lines_more, left_more, blocks-more, length-drop, behind-next)

-- where the reading stops, so does the text
module _ (text rest : List ℕ) (line : ℕ) (r : Reading) (here : IsAt text rest line r) where
  stopped_at : (found : LedgerFault) → Agrees r.blocks × (r.stage ≡ AtFault found) → Agrees (reading_of text).blocks × (fault_of text ≡ Some found)
  unfolding fault_of
  stopped_at found stop = search (rules, stays)

  other_at : (name : Name) → IsFirstOther r.blocks name → IsFirstOther (reading_of text).blocks name
  other_at name first =
      let more = later r line (lines_of rest) in
      record {
        before = first.before;
        section = first.section;
        rest = first.rest ++ more.0;
        whole = ap (λ (o : Reading). o.blocks) (sym here.whole) ∙ more.1 ∙ ap (λ blocks. blocks ++ more.0) first.whole ∙ append_assoc first.before (first.section ∷ first.rest) more.0;
        agrees = first.agrees;
        other = first.other;
        named = first.named;
      }

  pub refused-at : (found : LedgerFault) → IsStoppedBy r found → IsRefusedWith text found
  refused-at found stop = search (rules, stopped_at, other_at)

-- memory may be wanted where a text line takes some
pub wants-at : (text rest : List ℕ) (line end : ℕ) (r : Reading) (blocks : Blocks) → IsAt text rest line r → HasRead r blocks →
    IsFirstByte (is_byte 10) rest (Some end) → length text ≤ LEDGER_LIMIT → LineTakesMemory r.stage (take end rest) → MayWantMemory text
unfolding IsBehind
wants-at text rest line end r blocks here read found fits takes =
    let behind = here.behind in
    record {
      fits = fits;
      before = behind.0;
      line = take end rest;
      rest = lines_of (drop (end + 1) rest);
      whole = behind.1 ∙ ap (λ lines. behind.0 ++ lines) (lines_more rest end found);
      agrees = subst (λ (o : Reading). Agrees o.blocks) (sym behind.2) read.pile.agrees;
      takes = subst (λ (o : Reading). LineTakesMemory o.stage (take end rest)) (sym behind.2) takes;
    }

-- ---- a text with a block takes memory at the head of its first

-- behind the end nothing is read
ended : (r : Reading) (n : ℕ) (texts : List (List ℕ)) → r.stage ≡ AtEnd → (after_lines r n texts).blocks ≡ r.blocks
unfolding after_lines after_line_at
ended r n [] is = refl
ended r n (text ∷ texts) is =
    let next = line-at r n text AtEnd is in
    ap (λ e. (after_lines e (suc n) texts).blocks) next ∙ ap (λ (o : Reading). o.blocks) (stays (at r (AtFault (NotALedger n))) (NotALedger n) (suc n) texts refl)

-- what is no head is followed by no block
no_head : (r : Reading) (n : ℕ) (texts : List (List ℕ)) (told : Option ℕ) → (after_lines (after_end r n told) (suc n) texts).blocks ≡ r.blocks
no_head r n texts None = ap (λ (o : Reading). o.blocks) (stays (at r (AtFault (NotALedger n))) (NotALedger n) (suc n) texts refl)
no_head r n texts (Some told) = by (told == length r.blocks)
  where
    by : (here : Bool) → (after_lines (at r (if here then AtEnd else AtFault (NotALedger n))) (suc n) texts).blocks ≡ r.blocks
    by true = ended (at r AtEnd) (suc n) texts refl
    by false = ap (λ (o : Reading). o.blocks) (stays (at r (AtFault (NotALedger n))) (NotALedger n) (suc n) texts refl)

-- behind the version
abbrev at_block : Profile → Reading
at_block profile = record { profile = profile; blocks = []; stage = AtBlock }

wanted-head : (text first second : List ℕ) (rest : List (List ℕ)) (profile : Profile) → lines_of text ≡ first ∷ second ∷ rest → length text ≤ LEDGER_LIMIT → after_line unread 1 first ≡ at_block profile →
    (head : Option Head) → head_of second ≡ head → ((after_lines (after_head (at_block profile) 2 second head) 3 rest).blocks ≡ [] → ⊥) → MayWantMemory text
unfolding after_lines
wanted-head text first second rest profile whole fits read None is some = absurd (some (no_head (at_block profile) 2 rest (end_of second)))
wanted-head text first second rest profile whole fits read (Some head) is some = record {
  fits = fits;
  before = first ∷ [];
  line = second;
  rest = rest;
  whole = whole;
  agrees = subst (λ (o : Reading). Agrees o.blocks) (sym read) (λ s t has_s has_t same. absurd (none_of_empty [] s refl has_s));
  takes = subst (λ (o : Reading). LineTakesMemory o.stage second) (sym read) (λ none. let wrong : None ≡ Some head = sym none ∙ is in cc);
}

wanted-version : (text first : List ℕ) (lines : List (List ℕ)) → lines_of text ≡ first ∷ lines → length text ≤ LEDGER_LIMIT → (told : Option Profile) → after_line unread 1 first ≡ after_version unread 1 told →
    ((after_lines (after_version unread 1 told) 2 lines).blocks ≡ [] → ⊥) → MayWantMemory text
unfolding after_lines after_line_at
wanted-version text first lines whole fits None read some = absurd (some (ap (λ (o : Reading). o.blocks) (stays (at unread (AtFault (NotALedger 1))) (NotALedger 1) 2 lines refl)))
wanted-version text first [] whole fits (Some profile) read some = absurd (some refl)
wanted-version text first (second ∷ rest) whole fits (Some profile) read some =
    let next = line-at (at_block profile) 2 second AtBlock refl in
    wanted-head text first second rest profile whole fits read (head_of second) refl (λ none. some (ap (λ e. (after_lines e 3 rest).blocks) next ∙ none))

wanted-lines : (text : List ℕ) (lines : List (List ℕ)) → lines_of text ≡ lines → length text ≤ LEDGER_LIMIT → ((after_lines unread 1 lines).blocks ≡ [] → ⊥) → MayWantMemory text
unfolding after_lines after_line_at
wanted-lines text [] whole fits some = absurd (some refl)
wanted-lines text (first ∷ lines) whole fits some =
    let version = line-at unread 1 first AtVersion refl in
    wanted-version text first lines whole fits (profile_of first) version (λ none. some (ap (λ e. (after_lines e 2 lines).blocks) version ∙ none))

-- where no text line is left, the reading is that of the text
module _ (text rest : List ℕ) (line : ℕ) (r : Reading) (here : IsAt text rest line r) (none : IsFirstByte (is_byte 10) rest None) where
  reading_is : reading_of text ≡ r
  unfolding after_lines
  reading_is = sym here.whole ∙ ap (after_lines r line) (lines_none rest none)

  count_is : length (parts_of text) ≡ line
  count_is = grind (arith, common_steps, lines_none)

  fault_is : fault_of text ≡ fault_at_end r.stage line (length rest)
  unfolding fault_of
  fault_is = rw (sym here.left ∙ left_none rest none, count_is, reading_is) refl

  over : (blocks : Blocks) (awaited : Next) → IsNext r awaited → is_over awaited rest ≡ true → fault_at_end r.stage line (length rest) ≡ None
  over blocks awaited comes is = grind (arith, common_steps)

  not_over : (blocks : Blocks) (awaited : Next) → IsNext r awaited → is_over awaited rest ≡ false → fault_at_end r.stage line (length rest) ≡ Some (NotALedger line)
  not_over blocks awaited comes is = grind (arith, common_steps)

  pub loads-at : (blocks : Blocks) (awaited : Next) → StandsFor r blocks awaited → is_over awaited rest ≡ true → (ledger : LedgerValue) → IsLedgerOf r.profile r.blocks ledger → LoadsAs text ledger
  loads-at blocks awaited stands is ledger gathered = record {
    faultless = fault_is ∙ over blocks awaited stands.1 is;
    gathered = subst (λ (o : Reading). IsLedgerOf o.profile o.blocks ledger) (sym reading_is) gathered;
  }

  pub refused-end : (blocks : Blocks) (awaited : Next) → StandsFor r blocks awaited → is_over awaited rest ≡ false → IsRefusedWith text (NotALedger line)
  refused-end blocks awaited stands is = (
    subst (λ (o : Reading). Agrees o.blocks) (sym reading_is) stands.0.pile.agrees,
    fault_is ∙ not_over blocks awaited stands.1 is,
  )

  -- blocks that were read took memory
  pub wants-some : length text ≤ LEDGER_LIMIT → (r.blocks ≡ [] → ⊥) → MayWantMemory text
  unfolding IsBehind
  wants-some fits some =
      let behind = here.behind in
      wanted-lines text behind.0 (behind.1 ∙ ap (λ more. behind.0 ++ more) (lines_none rest none) ∙ append-nil behind.0) fits
      (λ empty. some (ap (λ (o : Reading). o.blocks) (sym behind.2) ∙ empty))
