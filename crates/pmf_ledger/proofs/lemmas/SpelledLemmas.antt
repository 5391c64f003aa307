-- The text lines of what is spelled: where no line end stands in them, the text is split into them again.
use Rattle.std.{proofs.Common.{◌≡◌, ℕ, zero, suc, ◌-◌, ◌%◌, ◌/◌, false, List, [], ◌∷◌, ◌++◌, length, get_or, refl, arith, append_assoc, length-append, take_at, decimal}, specs.Fmt.{digits_onto, digit_glyph, digits}, specs.List.{AllByRecursion}, proofs.lemmas.Bool.{ne_eqb}, proofs.lemmas.Grind.{flat_map-append, common_steps}, proofs.lemmas.List.Elements.{All-from_recursion, recursion_from_All}, proofs.lemmas.List.Splits.{slice_split_at}}
use Rattle.pmf_event.specs.{declared.event.Event.{Event}, declared.finding.Finding.{Finding}, declared.row.Row.{Row}, Address.{address}}
use Rattle.pmf_storelog.{specs.Separators.{is_separator}, specs.Spelling.{AllValid}, proofs.EventLineLemmas.{text-one_line}, proofs.PlainRecordLemmas.{text_of_lines}, proofs.PlainLemmas.{text_of_event}}
use Rattle.pmf_verdict.specs.Text.{text_of_pair, text_of_finding}
use Rattle.pmf_ledger.specs.Loading.{is_line_end, parts_of, lines_of, left_of}

-- no line end stands in the text
abbrev pub OneLine : List ℕ → Type 0
OneLine text = AllByRecursion (λ c. is_line_end c ≡ false) text

pub one-append : (xs ys : List ℕ) → OneLine xs → OneLine ys → OneLine (xs ++ ys)
one-append xs ys one more = grind (arith, common_steps)

-- a digit is no line end
glyph-one : (d : ℕ) → is_line_end (digit_glyph false d) ≡ false
glyph-one d = grind (arith, common_steps, ne_eqb)

onto-one : (k base n : ℕ) (acc : List ℕ) → OneLine acc → OneLine (digits_onto k base false n acc)
onto-one zero base n acc one = one
onto-one (suc k) base n acc one = grind (arith, common_steps, glyph-one, onto-one k base (n / base) (digit_glyph false (n % base) ∷ acc) (glyph-one (n % base), one))

pub decimal-one : (n : ℕ) → OneLine (decimal n)
unfolding digits
decimal-one n = onto-one 64 10 n [] tt

pub address-one : (n : ℕ) → OneLine (address n)
unfolding digits
address-one n = (refl, (refl, onto-one 64 16 n [] tt))

-- the text of a row, without its line end
abbrev pub text_without_end : Row → List ℕ
text_without_end row = decimal row.place ++ text_of_finding row.place row.finding

finding-one : (k : ℕ) (finding : Finding) → OneLine (text_of_finding k finding)
unfolding text_of_finding text_of_pair
finding-one k finding = grind (arith, common_steps, address-one, decimal-one, one-append)

pub row-one : (row : Row) → OneLine (text_without_end row)
row-one row = one-append (decimal row.place) (text_of_finding row.place row.finding) (decimal-one row.place) (finding-one row.place row.finding)

-- an event's text line
not_separator : (c : ℕ) → is_separator c ≡ false → is_line_end c ≡ false
not_separator c none = grind (arith, common_steps, ne_eqb)

event-recursion : (text : List ℕ) → AllByRecursion (λ c. is_separator c ≡ false) text → OneLine text
event-recursion [] none = tt
event-recursion (c ∷ text) none = (not_separator c none.0, event-recursion text none.1)

pub event-one : (event : Event) → AllValid event → OneLine (text_of_event event)
event-one event valid = event-recursion (text_of_event event) (recursion_from_All (λ c. is_separator c ≡ false) (text_of_event event) (text-one_line event valid))

-- some text lines, each with its end, are split into themselves and nothing behind them
pub parts_of-lines : (lines : List (List ℕ)) → AllByRecursion OneLine lines → parts_of (text_of_lines lines) ≡ lines ++ [] ∷ []
unfolding parts_of
parts_of-lines [] each = refl
parts_of-lines (line ∷ lines) each = grind (arith, common_steps, append_assoc, slice_split_at, All-from_recursion, parts_of-lines lines each.1)

last-of : (lines : List (List ℕ)) → get_or (lines ++ [] ∷ []) (length (lines ++ [] ∷ []) - 1) [] ≡ []
last-of lines = grind (arith, common_steps, length-append)

pub lines_of-lines : (lines : List (List ℕ)) → AllByRecursion OneLine lines → lines_of (text_of_lines lines) ≡ lines
lines_of-lines lines each = rw (parts_of-lines lines each) (take_at lines ([] ∷ []) (length (lines ++ [] ∷ []) - 1) (let long = length-append lines ([] ∷ []) in omega (arith, long)))

pub left_of-lines : (lines : List (List ℕ)) → AllByRecursion OneLine lines → left_of (text_of_lines lines) ≡ []
left_of-lines lines each = rw (parts_of-lines lines each) (last-of lines)

-- texts of lines joined
pub lines-append : (xs ys : List (List ℕ)) → text_of_lines (xs ++ ys) ≡ text_of_lines xs ++ text_of_lines ys
lines-append xs ys = flat_map-append (λ line. line ++ 10 ∷ []) xs ys

pub each-append : (xs ys : List (List ℕ)) → AllByRecursion OneLine xs → AllByRecursion OneLine ys → AllByRecursion OneLine (xs ++ ys)
each-append xs ys each more = grind (arith, common_steps)
