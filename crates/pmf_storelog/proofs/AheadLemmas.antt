-- Records that add their events to whatever section is current: with one more, by stretches of a piece, and taken at once behind others.
use Rattle.std.proofs.{Common.{take-append-drop, ◌≡◌, ◌==◌, ℕ, ◌+◌, ◌-◌, ◌≤◌, Bool, true, false, cond, List, [], ◌∷◌, ◌++◌, None, Ok, length, length-append, take, drop, refl, sym, ap, ◌∙◌, arith, append_assoc, append-nil, ne_eqb, eq-eqb}, lemmas.Bool.{cases_order}, lemmas.List.Sums.{sum_by-append}, lemmas.List.{drop-drop, take_rest}, Math.Seq.{take-add}, lemmas.Grind.{common_steps}}
use Rattle.pmf_event.specs.declared.{event.Event.{Event}, section.TheConstants.{EVENT_LIMIT}}
use Rattle.pmf_storelog.{specs.declared.plain.Plain.{Plain}, specs.declared.record.Saying.TheVariants.{Happens, Skipped}, specs.declared.tally.Tally.{Tally}, specs.Ahead.{AddsTo, IsClosed, IsPlain, IsStretchOf, between, with_number_of}, specs.LogText.{current_of, numbers_of, events_in, skipped_of, is_skipped, first_fault, refusal_after}, specs.Records.{record_of}, specs.Rising.{with_number}, specs.Sections.{HasSections, with_events}, specs.Separators.{ended_parts, ended_records, parts_of, records_in}, specs.Tally.{HasTaken}, specs.Answers.{IsShown}, specs.declared.fault.LogFault.{LogFault}, specs.Progress.{HasParsed, HasParsedTo, Reaches}, specs.declared.progress.Progress.{Progress}, specs.declared.stretch.Stretch.{Stretch}, proofs.SplitLemmas.{joined, joined_at}, proofs.PartLemmas.{ended_is, parts_of-append, records_in-append, ended_records-ended, parts_of-ended, parts_of-nil}, proofs.TallyLemmas.{records_in-none}, proofs.LogLemmas.{current_of-push, numbers_of-push, events_in-event, events_in-nothing, skipped_of-event, first_fault-push}, proofs.SectionLemmas.{sections_as}}

-- a number that was put among others is there
twice : (ns : List ℕ) (n : ℕ) → with_number (with_number ns n) n ≡ with_number ns n
twice [] n = grind (arith, common_steps, cases_order)
twice (x ∷ ns) n = grind (arith, common_steps, cases_order, twice ns n)

one_more : (ns : List ℕ) (n : ℕ) (events : List Event) (event : Event) → with_number (with_number_of ns n events) n ≡ with_number_of ns n (events ++ event ∷ [])
one_more ns n [] event = refl
one_more ns n (e ∷ events) event = twice ns n

more_events : (here : Bool) (before events : List Event) (event : Event) →
    cond here (cond here (before ++ events) before ++ event ∷ []) (cond here (before ++ events) before) ≡ cond here (before ++ (events ++ event ∷ [])) before
more_events true before events event = append_assoc before events (event ∷ [])
more_events false before events event = refl

pub adds_none : (before : List (List ℕ)) → AddsTo before (before ++ []) [] 0
adds_none before = rw (append-nil before) (record {
  current = refl;
  numbers = refl;
  events_are = λ number. grind (arith, common_steps, append-nil);
  skipped_are = omega arith;
  faultless = λ none room. none;
})

module _ (before after : List (List ℕ)) (events : List Event) (skipped : ℕ) (adds : AddsTo before after events skipped) (text : List ℕ) where
  -- how many events the current section then has
  long : length (events_in after (current_of after)) ≡ length (events_in before (current_of before)) + length events
  long = grind (arith, common_steps, length-append, eq-eqb)

  event_faultless : (event : Event) → record_of text ≡ Ok (Happens event) → first_fault before ≡ None →
      length (events_in before (current_of before)) + length (events ++ event ∷ []) ≤ EVENT_LIMIT → first_fault (after ++ text ∷ []) ≡ None
  unfolding refusal_after
  event_faultless event says none room =
      let more = length-append events (event ∷ []) in
      let clean = adds.faultless none (omega (arith, more)) in let few = ne_eqb (length (events_in after (current_of after))) EVENT_LIMIT (omega (arith, long, more)) in
      rw (first_fault-push after text, clean, says, few) refl

  pub adds_event : (event : Event) → record_of text ≡ Ok (Happens event) → AddsTo before (after ++ text ∷ []) (events ++ event ∷ []) skipped
  adds_event event says = record {
    current = rw (current_of-push after text, says) adds.current;
    numbers = rw (numbers_of-push after text, says, adds.current, adds.numbers) (one_more (numbers_of before) (current_of before) events event);
    events_are = λ number. events_in-event after text event says number
        ∙ rw (adds.current, adds.events_are number) (more_events (current_of before == number) (events_in before number) events event);
    skipped_are = skipped_of-event after text event says ∙ adds.skipped_are;
    faultless = event_faultless event says;
  }

  skipped_of-nothing : record_of text ≡ Ok Skipped → skipped_of (after ++ text ∷ []) ≡ skipped_of after + 1
  unfolding skipped_of is_skipped
  skipped_of-nothing says = rw (sum_by-append (λ x. cond (is_skipped x) 1 0) after (text ∷ []), says) (omega arith)

  nothing_faultless : record_of text ≡ Ok Skipped → first_fault before ≡ None →
      length (events_in before (current_of before)) + length events ≤ EVENT_LIMIT → first_fault (after ++ text ∷ []) ≡ None
  unfolding refusal_after
  nothing_faultless says none room = rw (first_fault-push after text, adds.faultless none room, says) refl

  pub adds_skipped : record_of text ≡ Ok Skipped → AddsTo before (after ++ text ∷ []) events (skipped + 1)
  adds_skipped says = record {
    current = rw (current_of-push after text, says) adds.current;
    numbers = rw (numbers_of-push after text, says) adds.numbers;
    events_are = λ number. events_in-nothing after text says number ∙ adds.events_are number;
    skipped_are = skipped_of-nothing says ∙ ap (λ n. n + 1) adds.skipped_are ∙ omega arith;
    faultless = λ none room. nothing_faultless says none room;
  }

pub plain_none : (plain : Plain) → plain.section.events ≡ [] → plain.records ≡ 0 → plain.skipped ≡ 0 → IsPlain [] plain
plain_none plain none records skipped = record {
  adds = λ before. rw (none, skipped) (adds_none before);
  count = records;
}

module _ (records : List (List ℕ)) (old new : Plain) (is : IsPlain records old) (text : List ℕ) (more : new.records ≡ old.records + 1) where
  pub plain_event : (event : Event) → record_of text ≡ Ok (Happens event) → new.section.events ≡ old.section.events ++ event ∷ [] → new.skipped ≡ old.skipped →
      IsPlain (records ++ text ∷ []) new
  plain_event event says events same = record {
    adds = λ before. rw (← append_assoc before records (text ∷ []), events, same) (adds_event before (before ++ records) old.section.events old.skipped (is.adds before) text event says);
    count = omega (arith, length-append records (text ∷ []), more, is.count);
  }

  pub plain_skipped : record_of text ≡ Ok Skipped → new.section.events ≡ old.section.events → new.skipped ≡ old.skipped + 1 → IsPlain (records ++ text ∷ []) new
  plain_skipped says same skipped = record {
    adds = λ before. rw (← append_assoc before records (text ∷ []), same, skipped) (adds_skipped before (before ++ records) old.section.events old.skipped (is.adds before) text says);
    count = omega (arith, length-append records (text ∷ []), more, is.count);
  }

empty_between : (piece : List ℕ) (from : ℕ) → between piece from from ≡ []
empty_between piece from = let none : from - from ≡ 0 = omega arith in rw none refl

between_more : (piece : List ℕ) (from end more : ℕ) → from ≤ end → between piece from (end + more) ≡ between piece from end ++ take more (drop end piece)
between_more piece from end more rises =
    let sum : end + more - from ≡ (end - from) + more = omega arith in let back : from + (end - from) ≡ end = omega arith in
    let behind : drop (end - from) (drop from piece) ≡ drop end piece = drop-drop (end - from) from piece ∙ ap (λ n. drop n piece) back in
    ap (λ n. take n (drop from piece)) sum ∙ take-add (end - from) more (drop from piece) ∙ ap (λ (l : List ℕ). take (end - from) (drop from piece) ++ take more l) behind

-- no bytes are closed, and have no records
pub closed_none : (piece : List ℕ) (from : ℕ) → IsClosed (between piece from from)
closed_none piece from = let none : ended_parts [] ≡ [] = ended_is [] [] [] parts_of-nil in rw (empty_between piece from, none) parts_of-nil

pub plain_between : (piece : List ℕ) (from : ℕ) (plain : Plain) → IsPlain [] plain → IsPlain (ended_records (between piece from from)) plain
plain_between piece from plain is = let none : ended_parts [] ≡ [] = ended_is [] [] [] parts_of-nil in rw (empty_between piece from, none, records_in-none) is

-- a stretch with one part more
module _ (piece : List ℕ) (from end len : ℕ) (rises : from ≤ end) (part : List ℕ) (closed : IsClosed (between piece from end)) (ends : parts_of (take (len + 1) (drop end piece)) ≡ part ∷ [] ∷ []) where
  longer : between piece from (end + (len + 1)) ≡ between piece from end ++ take (len + 1) (drop end piece)
  longer = between_more piece from end (len + 1) rises

  pub next_closed : IsClosed (between piece from (end + (len + 1)))
  next_closed = rw longer (parts_of-ended (between piece from end) (take (len + 1) (drop end piece)) [] part closed ends)

  pub next_plain : (plain : Plain) → IsPlain (ended_records (between piece from end) ++ records_in (part ∷ [])) plain → IsPlain (ended_records (between piece from (end + (len + 1)))) plain
  next_plain plain is = rw (longer, ended_records-ended (between piece from end) (take (len + 1) (drop end piece)) [] part closed ends) is

-- what was kept of records is taken behind others
pub taken_plain : (run : ℕ) (before records : List (List ℕ)) (old new : Tally) (plain : Plain) → HasTaken run before old → IsPlain records plain →
    length (events_in before (current_of before)) + length plain.section.events ≤ EVENT_LIMIT →
    HasSections run (with_number_of (numbers_of before) (current_of before) plain.section.events) (with_events (events_in before) (current_of before) plain.section.events) (current_of before) new.sections →
    new.records ≡ old.records + plain.records → new.skipped ≡ old.skipped + plain.skipped → HasTaken run (before ++ records) new
taken_plain run before records old new plain taken is room sections more skipped =
    let adds = is.adds before in
    record {
      faultless = adds.faultless taken.faultless room;
      sections = sections_as run _ (numbers_of (before ++ records)) _ (events_in (before ++ records)) _ (current_of (before ++ records)) new.sections (sym adds.numbers) adds.events_are (sym adds.current) sections;
      count = omega (arith, length-append before records, taken.count, is.count, more);
      skipped = omega (arith, taken.skipped, adds.skipped_are, skipped);
    }

-- the parts of closed bytes stand behind those of closed bytes
joined_closed : (front ends : List (List ℕ)) → joined (front ++ [] ∷ []) (ends ++ [] ∷ []) ≡ (front ++ ends) ++ [] ∷ []
joined_closed front [] = joined_at front [] [] [] ∙ ap (λ (f : List (List ℕ)). f ++ [] ∷ []) (sym (append-nil front))
joined_closed front (part ∷ ends) = joined_at front [] part (ends ++ [] ∷ []) ∙ sym (append_assoc front (part ∷ ends) ([] ∷ []))

module _ (xs ys : List ℕ) (closed : IsClosed xs) (closed_too : IsClosed ys) where
  both_parts : parts_of (xs ++ ys) ≡ (ended_parts xs ++ ended_parts ys) ++ [] ∷ []
  both_parts = rw (parts_of-append xs ys, closed, closed_too) (joined_closed (ended_parts xs) (ended_parts ys))

  both_ended : ended_parts (xs ++ ys) ≡ ended_parts xs ++ ended_parts ys
  both_ended = ended_is (xs ++ ys) (ended_parts xs ++ ended_parts ys) [] both_parts

  both_closed : IsClosed (xs ++ ys)
  both_closed = both_parts ∙ ap (λ (front : List (List ℕ)). front ++ [] ∷ []) (sym both_ended)

  both_records : ended_records (xs ++ ys) ≡ ended_records xs ++ ended_records ys
  both_records = ap records_in both_ended ∙ records_in-append (ended_parts xs) (ended_parts ys)

-- the front of a piece up to a later place
to_later : (bytes piece : List ℕ) (start end : ℕ) → start ≤ end → bytes ++ take end piece ≡ (bytes ++ take start piece) ++ between piece start end
to_later bytes piece start end rises =
    let sum : start + (end - start) ≡ end = omega arith in
    ap (λ n. bytes ++ take n piece) (sym sum) ∙ ap (λ (l : List ℕ). bytes ++ l) (take-add start (end - start) piece) ∙ sym (append_assoc bytes (take start piece) (between piece start end))

-- a stretch is taken where nothing is kept of a part
module _ (piece : List ℕ) (stretch : Stretch) (is : IsStretchOf piece stretch) (old new : Progress) (empty : old.carry.items ≡ []) (same : new.carry.items ≡ []) where
  stretch_parsed : (run : ℕ) (bytes : List ℕ) → HasParsed run (bytes ++ take stretch.from piece) old →
      ((before records : List (List ℕ)) → HasTaken run before old.tally → IsPlain records stretch.plain → HasTaken run (before ++ records) new.tally) →
      HasParsed run (bytes ++ take stretch.end piece) new
  stretch_parsed run bytes parsed take_plain =
      let front = bytes ++ take stretch.from piece in let text = between piece stretch.from stretch.end in
      let closed : IsClosed front = rw empty at parsed.parts in
      rw (to_later bytes piece stretch.from stretch.end is.rises) (record {
        taken = rw (both_records front text closed is.closed) (take_plain (ended_records front) (ended_records text) parsed.taken is.plain);
        parts = rw same (both_closed front text closed is.closed);
      })

  pub stretch_reached : (start : ℕ) → stretch.from ≡ start → new.tally.records ≤ old.tally.records + stretch.plain.records →
      ((run : ℕ) (before records : List (List ℕ)) → HasTaken run before old.tally → IsPlain records stretch.plain → HasTaken run (before ++ records) new.tally) →
      Reaches piece start stretch.end old new
  stretch_reached start from grows take_plain = record {
    rises = omega (arith, from, is.rises);
    within = is.within;
    grows = omega (arith, from, grows, is.few, is.rises);
    parsed = λ run bytes parsed. stretch_parsed run bytes (rw from parsed) (take_plain run);
  }

-- reading goes on from where it came
pub reached_both : (piece : List ℕ) (start mid end : ℕ) (old met new : Progress) → Reaches piece start mid old met → Reaches piece mid end met new → Reaches piece start end old new
reached_both piece start mid end old met new first more = record {
  rises = omega (arith, first.rises, more.rises);
  within = more.within;
  grows = omega (arith, first.grows, more.grows);
  parsed = λ run bytes parsed. more.parsed run bytes (first.parsed run bytes parsed);
}

-- before any byte of a piece
pub at_start : (run : ℕ) (bytes piece : List ℕ) (progress : Progress) → HasParsed run bytes progress → HasParsed run (bytes ++ take 0 piece) progress
at_start run bytes piece progress parsed = rw (append-nil bytes) parsed

-- reading goes on behind a front of the piece, which was read
module _ (run : ℕ) (bytes piece : List ℕ) (start : ℕ) where
  whole_again : (bytes ++ take start piece) ++ take (length piece - start) (drop start piece) ≡ bytes ++ piece
  whole_again = append_assoc bytes (take start piece) (take (length piece - start) (drop start piece)) ∙ ap (λ l. bytes ++ l) (ap (λ l. take start piece ++ l) (take_rest piece start) ∙ take-append-drop start piece)

  pub parsed_behind : (rest : List ℕ) (progress : Progress) → HasParsedTo run (bytes ++ take start piece) (take (length piece - start) (drop start piece)) rest progress → HasParsedTo run bytes piece rest progress
  parsed_behind rest progress reached = record {
    front = take start piece ++ reached.front;
    whole = append_assoc (take start piece) reached.front rest ∙ ap (λ l. take start piece ++ l) (reached.whole ∙ take_rest piece start) ∙ take-append-drop start piece;
    open_end = reached.open_end;
    parsed = rw (← append_assoc bytes (take start piece) reached.front) reached.parsed;
  }

  pub shown_behind : (fault : LogFault) → IsShown fault (first_fault (ended_records ((bytes ++ take start piece) ++ take (length piece - start) (drop start piece)))) → IsShown fault (first_fault (ended_records (bytes ++ piece)))
  shown_behind fault shown = rw (← whole_again) shown
