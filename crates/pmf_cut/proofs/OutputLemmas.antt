-- What the files say when records are put into them, and what is handed out of them.
use Rattle.std.{proofs.{Common.{◌≡◌, ◌≢◌, inl, inr, ℕ, zero, suc, ◌+◌, ◌-◌, ◌^◌, ◌==◌, if◌then◌else◌, ◌<◌, ◌≤◌, Bool, true, false, List, [], ◌∷◌, ◌++◌, length, take, get_or, set, Contains, Some, Ok, slice_get, nat_eq, codes, refl, sym, ap, subst, ◌∙◌, arith, rules, append_assoc, append-nil, length-append, length-set}, lemmas.Bool.{cases_eq, eq-eqb, ne_eqb, cases_lt}, lemmas.Option.{slice_get_read}, lemmas.List.{get_or-set_same, take_at, take_more, get_or_default, nil_from_length}, lemmas.List.Elements.{All-from_recursion}, lemmas.List.Splits.{slice_split_at}, lemmas.Fmt.{decimal_is_IsNumeral, length-decimal-le}}, specs.{Fmt.{decimal}, Str.Parse.{AllDigits}, List.{starts_with}}}
use Rattle.pmf_event.specs.declared.event.Event.{Event}
use Rattle.pmf_storelog.{specs.{declared.record.Saying.{Saying}, declared.record.Saying.TheVariants.{Happens, Enters}, Records.{record_of, saying_of_fields, section_of_fields, section_of_number, saying_of}, Numbers.{number_of}, Separators.{is_separator, is_blank, without_front_blanks, without_end_blanks, records_in, parts_of, ended_parts, records_of}, LogText.{events_in, current_of}, Spelling.{AllValid}}, proofs.{PartLemmas.{parts_of-append, parts_of-ended, records_in-append}, SplitLemmas.{joined_at}, LogLemmas.{events_in-event, events_in-enter, events_in-nothing, current_of-push}, CanonicalLemmas.{numeral_of-digits, each-digits, each-append, no_field_end, fields_of-more, fields_of-last}, PlainLemmas.{text_of_event, text_of_event-plain, no_separator, no_blank}, PlainRecordLemmas.{IsPlain, records_in-plain}, SpellingLemmas.{record_of-event}}}
use Rattle.pmf_cut.specs.{declared.output.Output.{Output}, declared.output.Outputs.{Outputs}, declared.output.Text.{Text}, Cutting.{SayNothing}, Outputs.{waiting_in, current_in, AllWait, Puts, behind_part, Holds, Spells, text_of, said, IsSaid, Says, bytes_for, HandsOut}}

-- a line that is a record, and what it says, with a separator behind it
spells-plain : (text : List ℕ) (saying : Saying) → IsPlain text → record_of text ≡ Ok saying → Spells (text ++ 124 ∷ []) saying
unfolding parts_of
spells-plain text saying plain says = search (arith, slice_split_at, records_in-plain)

pub spells_event : (event : Event) (line text bytes : List ℕ) (n : ℕ) → AllValid event → line ≡ text_of_event event ++ codes "\n" → n ≡ length line → text ≡ take (n - 1) line → bytes ≡ text ++ 124 ∷ [] →
    Spells bytes (Happens event)
spells_event event line text bytes n valid line_is n_is text_is is = grind (arith, text_of_event, length-append, take_at, spells-plain, text_of_event-plain, record_of-event)

-- digits are not `0x`
digits-front : (ds : List ℕ) → AllDigits 10 ds → starts_with nat_eq ds (codes "0x") ≡ false
digits-front v0 each = grind arith

-- a decimal number reads as itself
number_of-decimal : (n : ℕ) → n < 2 ^ 64 → number_of (decimal n) ≡ Some n
unfolding number_of
number_of-decimal n small =
    let numeral = decimal_is_IsNumeral n small in
    rw (digits-front (decimal n) numeral.0.1) (numeral_of-digits 10 20 (decimal n) n numeral.0.0 (length-decimal-le 20 n (omega arith) (omega arith) small) numeral.0.1 numeral.1 small)

-- the text of a marker that is put in
abbrev marker_text : ℕ → List ℕ
marker_text number = codes "PMT.SECTION;" ++ decimal number

marker-plain : (n : ℕ) → n < 2 ^ 64 → IsPlain (marker_text n)
marker-plain n small =
    let digits = (decimal_is_IsNumeral n small).0.1 in
    record {
      filled = omega (arith, length-append (codes "PMT.SECTION;") (decimal n));
      whole = All-from_recursion (λ c. is_separator c ≡ false) (marker_text n) (each-append _ (codes "PMT.SECTION;") (decimal n) (search rules) (each-digits _ 10 (λ c small. no_separator c (omega (arith, small))) (decimal n) digits));
      close = All-from_recursion (λ c. is_blank c ≡ false) (marker_text n) (each-append _ (codes "PMT.SECTION;") (decimal n) (search rules) (each-digits _ 10 (λ c small. no_blank c (omega (arith, small))) (decimal n) digits));
    }

record_of-marker : (n : ℕ) → n < 2 ^ 64 → record_of (marker_text n) ≡ Ok (Enters n)
unfolding record_of saying_of section_of_fields
record_of-marker n small =
    let digits = (decimal_is_IsNumeral n small).0.1 in
    ap saying_of_fields
    (fields_of-more (codes "PMT.SECTION") (decimal n) (search rules)
    ∙ ap (λ fs. codes "PMT.SECTION" ∷ fs) (fields_of-last (decimal n) (each-digits _ 10 (λ c small. no_field_end c (omega (arith, small))) (decimal n) digits)))
    ∙ ap section_of_number (number_of-decimal n small)

pub spells_marker : (n : ℕ) (bytes : List ℕ) → n < 2 ^ 64 → bytes ≡ marker_text n ++ 124 ∷ [] → Spells bytes (Enters n)
spells_marker n bytes small is = rw is (spells-plain (marker_text n) (Enters n) (marker-plain n small) (record_of-marker n small))

-- records behind a text that a separator ends
pub nothing_behind : (ends : Bool) → records_in (behind_part ends) ≡ []
unfolding records_in without_front_blanks without_end_blanks
nothing_behind v0 = grind arith

pub holds-open : (ends : Bool) (text bytes : List ℕ) (more : List (List ℕ)) → parts_of text ≡ ended_parts text ++ [] ∷ [] → Holds ends bytes more → records_of (text ++ bytes) ≡ records_of text ++ more
holds-open ends text bytes more ended holds =
    let front = ended_parts text in
    let is : parts_of (text ++ bytes) ≡ front ++ holds.part ∷ behind_part ends = rw (parts_of-append text bytes, ended, holds.parts) (joined_at front [] holds.part (behind_part ends)) in
    let last : records_in (holds.part ∷ behind_part ends) ≡ more = records_in-append (holds.part ∷ []) (behind_part ends) ∙ rw (holds.records_are, nothing_behind ends) (append-nil more) in
    let before : records_of text ≡ records_in front = ap records_in ended ∙ records_in-append front ([] ∷ []) ∙ rw (nothing_behind true) (append-nil (records_in front)) in
    ap records_in is ∙ records_in-append front (holds.part ∷ behind_part ends) ∙ rw (last, before) refl

pub holds-ended : (ends : Bool) (text bytes : List ℕ) (more : List (List ℕ)) → ends ≡ true → parts_of text ≡ ended_parts text ++ [] ∷ [] → Holds ends bytes more → parts_of (text ++ bytes) ≡ ended_parts (text ++ bytes) ++ [] ∷ []
holds-ended v0 text bytes more is ended holds = grind (arith, parts_of-ended)

-- what more records say: these events of the number, which is current behind them, and none of any other
record Adds (records more : List (List ℕ)) (number : ℕ) (events : List Event) : Type 0 where
  pub here : events_in (records ++ more) number ≡ events_in records number ++ events
  pub others : (name : ℕ) → name ≢ number → events_in (records ++ more) name ≡ events_in records name
  pub current_is : current_of (records ++ more) ≡ number

adds-event : (records : List (List ℕ)) (text : List ℕ) (number : ℕ) (event : Event) → record_of text ≡ Ok (Happens event) → current_of records ≡ number → Adds records (text ∷ []) number (event ∷ [])
adds-event records text number event says is = record {
  here = events_in-event records text event says number ∙ rw (eq-eqb (current_of records) number is) refl;
  others = λ name other. events_in-event records text event says name ∙ rw (ne_eqb (current_of records) name (λ same. other (sym same ∙ is))) refl;
  current_is = current_of-push records text ∙ rw says is;
}

adds-marker : (records : List (List ℕ)) (text : List ℕ) (number : ℕ) → record_of text ≡ Ok (Enters number) → Adds records (text ∷ []) number []
adds-marker records text number says = grind (arith, events_in-enter, append-nil, current_of-push)

adds-nothing : (records more : List (List ℕ)) (number : ℕ) → SayNothing more → current_of records ≡ number → Adds records more number []
adds-nothing records v1 number says is = grind (arith, append-nil, events_in-nothing, current_of-push)

-- bytes that are such records are put into a file
puts-adds : (ends : Bool) (old new : Outputs) (file number : ℕ) (bytes : List ℕ) (more : List (List ℕ)) (events : List Event) → Puts old new file bytes number → Holds ends bytes more →
    ((records : List (List ℕ)) → current_of records ≡ current_in old file → Adds records more number events) → Says ends file number events old new
puts-adds ends old new file number bytes more events puts holds adds = λ handed there opened.
    let put = puts there in
    let ended = (opened file).ended refl in
    let text : text_of handed new file ≡ text_of handed old file ++ bytes = ap (λ t. handed file ++ t) put.here ∙ sym (append_assoc (handed file) (waiting_in old file) bytes) in
    let records : records_of (text_of handed new file) ≡ records_of (text_of handed old file) ++ more = ap records_of text ∙ holds-open ends (text_of handed old file) bytes more ended holds in
    let is = adds (records_of (text_of handed old file)) (opened file).current_is in
    let same : (other : ℕ) → other ≢ file → text_of handed new other ≡ text_of handed old other = λ other apart. ap (λ t. handed other ++ t) (put.others other apart).0 in
    record {
      opened = λ other. elim (cases_eq other file) [
        | inl here ↦ rw here (record {
          ended = λ is. rw text (holds-ended ends (text_of handed old file) bytes more is ended holds);
          current_is = ap current_of records ∙ is.current_is ∙ sym put.its;
        })
        | inr apart ↦ grind arith
      ];
      here = ap (λ r. events_in r number) records ∙ is.here;
      others = grind arith;
      current_is = put.its;
      count = put.count;
      waits = put.waits;
    }

pub puts-event : (ends : Bool) (old new : Outputs) (file number : ℕ) (bytes text : List ℕ) (event : Event) → current_in old file ≡ number → Puts old new file bytes number → Holds ends bytes (text ∷ []) →
    record_of text ≡ Ok (Happens event) → Says ends file number (event ∷ []) old new
puts-event ends old new file number bytes text event current puts holds says =
    puts-adds ends old new file number bytes (text ∷ []) (event ∷ []) puts holds (λ records is. adds-event records text number event says (is ∙ current))

pub puts-marker : (ends : Bool) (old new : Outputs) (file number : ℕ) (bytes text : List ℕ) → Puts old new file bytes number → Holds ends bytes (text ∷ []) → record_of text ≡ Ok (Enters number) →
    Says ends file number [] old new
puts-marker ends old new file number bytes text puts holds says = puts-adds ends old new file number bytes (text ∷ []) [] puts holds (λ records is. adds-marker records text number says)

pub puts-nothing : (ends : Bool) (old new : Outputs) (file number : ℕ) (bytes : List ℕ) (more : List (List ℕ)) → current_in old file ≡ number → Puts old new file bytes number → Holds ends bytes more →
    SayNothing more → Says ends file number [] old new
puts-nothing ends old new file number bytes more current puts holds says = puts-adds ends old new file number bytes more [] puts holds (λ records is. adds-nothing records more number says (is ∙ current))

-- more events behind these
said-more : (ends : Bool) (handed : ℕ → List ℕ) (file number : ℕ) (xs ys : List Event) (old mid new : Outputs) → IsSaid true handed file number xs old mid → IsSaid ends handed file number ys mid new →
    IsSaid ends handed file number (xs ++ ys) old new
said-more ends handed file number xs ys old mid new first next = record {
  opened = next.opened;
  here = next.here ∙ ap (λ said. said ++ ys) first.here ∙ append_assoc (said handed old file number) xs ys;
  others = λ other name which. next.others other name which ∙ first.others other name which;
  current_is = next.current_is;
  count = next.count ∙ first.count;
  waits = λ all. next.waits (first.waits all);
}

-- one event more, behind those that the file says of the number
pub says-event : (ends : Bool) (file number : ℕ) (xs : List Event) (old mid new : Outputs) (bytes text : List ℕ) (event : Event) → Says true file number xs old mid → Puts mid new file bytes number →
    Holds ends bytes (text ∷ []) → record_of text ≡ Ok (Happens event) → Says ends file number (xs ++ event ∷ []) old new
says-event ends file number xs old mid new bytes text event first puts holds says = λ handed there opened.
    let one = first handed there opened in
    said-more ends handed file number xs (event ∷ []) old mid new one (puts-event ends mid new file number bytes text event one.current_is puts holds says handed (omega (arith, one.count)) one.opened)

-- the event at a place of a list of which those before it are said
pub says-next : (file number k : ℕ) (events : List Event) (event : Event) (old mid new : Outputs) (bytes : List ℕ) → k < length events → event ≡ get_or events k event → Says true file number (take k events) old mid →
    Spells bytes (Happens event) → Puts mid new file bytes number → Says true file number (take (k + 1) events) old new
says-next file number k events event old mid new bytes within is first spells puts =
    subst (λ es. Says true file number es old new) (ap (λ e. take k events ++ e ∷ []) is ∙ sym (take_more events k event within))
    (says-event true file number (take k events) old mid new bytes spells.text event first puts spells.holds spells.says)

-- an element that is set, and another one
pub set-other : {X : Type 0} (xs : List X) (i j : ℕ) (x : X) → j ≢ i → slice_get (set xs i x) j ≡ slice_get xs j
set-other [] i j output apart = refl
set-other (x ∷ xs) zero zero output apart = absurd (apart refl)
set-other (x ∷ xs) zero (suc j) output apart = refl
set-other (x ∷ xs) (suc i) zero output apart = refl
set-other (x ∷ xs) (suc i) (suc j) output apart = set-other xs i j output (λ same. apart (ap suc same))

set-here : (outputs : List Output) (i : ℕ) (output : Output) → i < length outputs → slice_get (set outputs i output) i ≡ Some output
set-here outputs i output within = slice_get_read (set outputs i output) (length outputs) i output (sym (length-set outputs i output)) within (sym (get_or-set_same outputs i output output within))

-- the bytes go to a file that waits
pub puts_set : (old new : Outputs) (file : ℕ) (bytes : List ℕ) (before after : Output) → before ≡ get_or old.files.items file before → new.files.items ≡ set old.files.items file after →
    after.text.items ≡ before.text.items ++ bytes → (AllWait old → (other : ℕ) → 0 < length (waiting_in old other) → Contains new.waiting.items other) →
    (AllWait old → file < length old.files.items → Contains new.waiting.items file) → Puts old new file bytes after.current
puts_set old new file bytes before after at is text waits has = grind (arith, set-here, set-other, slice_get_read, length-set, cases_eq)

-- the texts with one more
bytes_for-push : (texts : List Text) (text : Text) (file : ℕ) → bytes_for (texts ++ text ∷ []) file ≡ bytes_for texts file ++ bytes_for (text ∷ []) file
bytes_for-push [] text file = refl
bytes_for-push (first ∷ texts) text file = rw (bytes_for-push texts text file) (sym (append_assoc _ (bytes_for texts file) (bytes_for (text ∷ []) file)))

-- the first ones of the files with these names are handed out
pub record Drained (old : Outputs) (names : List ℕ) (done : ℕ) (texts : List Text) (mid : Outputs) : Type 0 where
  pub kept : (file : ℕ) → bytes_for texts file ++ waiting_in mid file ≡ waiting_in old file
  pub gone : (k : ℕ) → k < done → waiting_in mid (get_or names k 0) ≡ []
  pub currents : (file : ℕ) → current_in mid file ≡ current_in old file
  pub count : length mid.files.items ≡ length old.files.items

-- one more
module _ (old mid new : Outputs) (names : List ℕ) (done name : ℕ) (texts : List Text) (bytes : List ℕ) (name_is : name ≡ get_or names done 0) (so_far : Drained old names done texts mid) (taken : bytes ≡ waiting_in mid name)
    (none_left : waiting_in new name ≡ []) (others : (other : ℕ) → other ≢ name → waiting_in new other ≡ waiting_in mid other) (currents : (other : ℕ) → current_in new other ≡ current_in mid other)
    (count : length new.files.items ≡ length mid.files.items) where
  drained-step : (more : List Text) → ((file : ℕ) → bytes_for more file ≡ bytes_for texts file ++ (if name == file then bytes else [])) → Drained old names (done + 1) more new
  drained-step more is = grind (arith, cases_eq, eq-eqb, append-nil, ne_eqb)

  pub drained-push : (text : Text) → text.file ≡ name → text.bytes.items ≡ bytes → Drained old names (done + 1) (texts ++ text ∷ []) new
  drained-push text file_is bytes_is = drained-step (texts ++ text ∷ []) (λ file. bytes_for-push texts text file ∙ rw (file_is, bytes_is, append-nil (if name == file then bytes else [])) refl)

  pub drained_empty : length bytes ≡ 0 → Drained old names (done + 1) texts new
  drained_empty empty = grind (arith, drained-step, nil_from_length, append-nil)

-- all of them
pub hands-out : (old new : Outputs) (names : List ℕ) (done : ℕ) (texts : List Text) → names ≡ old.waiting.items → length names ≤ done → Drained old names done texts new → HandsOut old texts new
hands-out old new names done texts is all so_far = grind (arith, cases_lt, get_or_default, nil_from_length, length-append)
