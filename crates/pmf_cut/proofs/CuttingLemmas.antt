-- What a cutter has cut, with one part, one section or one event more.
use Rattle.std.{proofs.Common.{◌≡◌, ◌≢◌, ◌⊎◌, inl, inr, ⊎_elim, ℕ, zero, suc, ◌+◌, ◌-◌, ◌<◌, ◌≤◌, Bool, true, false, cond, List, [], ◌∷◌, ◌++◌, length, take, drop, set, slice_get, Option, Some, None, Ok, refl, sym, ap, subst, ◌∙◌, arith, length-drop, append_assoc, append-nil, take_all, eq-eqb, ne_eqb, ◌==◌, add-one}, proofs.lemmas.Bool.{cases_eq, cases_lt}, proofs.lemmas.List.{drop-take, take-append-drop, take-take, take-append-le, drop-append-le, drop_all, length_push}, proofs.lemmas.List.Sums.{sum_by-cons}, proofs.lemmas.Option.{slice_get_within}, proofs.Math.Path.{fun_ext}, specs.BTreeMap.{get}, specs.Ordering.{nat_cmp}}
use Rattle.pmf_event.specs.{declared.event.Event.{Event}, declared.event.Event.TheVariants.{Ordered}, Store.{event_at}}
use Rattle.pmf_storelog.{specs.declared.record.Saying.TheVariants.{Happens, Enters}, specs.Records.{record_of}, specs.Separators.{ended_parts, parts_of, records_in, records_of}, specs.LogText.{events_in, current_of, number_after}, proofs.PartLemmas.{ended_is, parts_of-append, parts_of-nil}, proofs.TallyLemmas.{current_of-nil, events_in-nil}, proofs.SplitLemmas.{joined, joined_at}, proofs.LogLemmas.{events_in-event, events_in-enter, events_in-nothing, current_of-push}}
use Rattle.pmf_cut.{specs.{declared.section.Cutting.{Cutting}, declared.part.Part.{Part}, declared.output.Outputs.{Outputs}, declared.output.Text.{Text}, declared.cutter.Cutter.{Cutter}, Alike.{IsCut}, Parts.{IsPartOf, part_of}, Deferred.{Begins, BeginsBehind, IsUpTo}, Written.{WrittenPart, IsWritten, AllKnow, KnowsOrders, AreUpTo, AreNumbered, AreOf, IsAmong, NoneNamed, IsCutInto, said_in}, Outputs.{AllOpen, AllWait, HandsOut, Holds, IsNew, IsOpen, bytes_for, IsSaid, Says, current_in, said, text_of, waiting_in}, Cutting.{GoesOnAs, IsKept, HasPart, HasPast, KnowsNext, SamePast, lost_in, TakesEvent, HasSection, IsCurrent, IsPlaced, HasCut, IsNamed, MoreFiles, SayNothing, Cuts, CutsPart, CutsParts, CutsTo, Drains, HasCutAll, HasRead, handed_with}}, proofs.DeferredLemmas.{last-is}, proofs.OrderLemmas.{knows-there, past-next}, proofs.OutputLemmas.{holds-ended, holds-open, nothing_behind, set-other}}

none_is_some : {X : Type 0} {x : X} → None ≡ Some x → ⊥
none_is_some same = cc

-- the events behind the first ones, up to a last one, where more follow
up_to-push : (first last : ℕ) (es more : List Event) → first ≤ last → last ≤ length es → take (last - first) (drop first (es ++ more)) ≡ take (last - first) (drop first es)
up_to-push first last es more begins within = grind (arith, drop-append-le, take-append-le, length-drop)

all-push : (first : ℕ) (es : List Event) (e : Event) → first ≤ length es → take (length (es ++ e ∷ []) - first) (drop first (es ++ e ∷ [])) ≡ take (length es - first) (drop first es) ++ e ∷ []
all-push first es e within = grind (arith, take_all, length-drop, drop-append-le)

none-behind : (es : List Event) (n : ℕ) → n ≡ length es → take (length es - n) (drop n es) ≡ []
none-behind es n is = take_all (length es - n) (drop n es) (omega (arith, length-drop n es)) ∙ drop_all n es (omega arith)

event-behind : (es : List Event) (e : Event) (rest : List Event) → event_at (es ++ e ∷ rest) (suc (length es)) ≡ Some e
unfolding event_at
event-behind [] e rest = refl
event-behind (x ∷ es) e rest = event-behind es e rest

-- the same is said of each part's number
abbrev SameAt : (ℕ → ℕ → List Event) → (ℕ → ℕ → List Event) → List WrittenPart → Type 0
SameAt says then-says [] = Unit {0}
SameAt says then-says (part ∷ before) = ((file : ℕ) → then-says file part.number ≡ says file part.number) × SameAt says then-says before

same-of : (names : ℕ → Option ℕ) (number : ℕ) (says says' : ℕ → ℕ → List Event) → ((name : ℕ) → names name ≡ Some number → (file : ℕ) → says' file name ≡ says file name) →
    (parts : List WrittenPart) → AreOf names number parts → SameAt says says' parts
same-of names number says says' same [] of_it = tt
same-of names number says says' same (part ∷ before) of_it = (same part.number of_it.0, same-of names number says says' same before of_it.1)

same-but : (name : ℕ) (says says' : ℕ → ℕ → List Event) → ((other : ℕ) → other ≢ name → (file : ℕ) → says' file other ≡ says file other) →
    (parts : List WrittenPart) → NoneNamed name parts → SameAt says says' parts
same-but name says says' same [] none = tt
same-but name says says' same (part ∷ before) none = (same part.number none.0, same-but name says says' same before none.1)

none-named : (names : ℕ → Option ℕ) (name number : ℕ) → names name ≡ None → (parts : List WrittenPart) → AreOf names number parts → NoneNamed name parts
none-named names name number free [] of_it = tt
none-named names name number free (part ∷ before) of_it =
    ((λ same. none_is_some (sym free ∙ ap names (sym same) ∙ of_it.0)), none-named names name number free before of_it.1)

of-kept : (names names' : ℕ → Option ℕ) (number : ℕ) → ((name : ℕ) → names name ≡ Some number → names' name ≡ Some number) → (parts : List WrittenPart) → AreOf names number parts → AreOf names' number parts
of-kept names names' number kept [] of_it = tt
of-kept names names' number kept (part ∷ before) of_it = (kept part.number of_it.0, of-kept names names' number kept before of_it.1)

-- what was cut whatever follows is cut with one event more
cut-more : (es more : List Event) (first : ℕ) (head : List Event) → ((rest : List Event) → IsCut (es ++ rest) first (part_of (es ++ rest) first head) (length head)) →
    (rest : List Event) → IsCut ((es ++ more) ++ rest) first (part_of ((es ++ more) ++ rest) first head) (length head)
cut-more es more first head cut rest = grind (arith, append_assoc)

-- the parts of a section, where the same is said of them, or more events follow
up_to-same : (says says' : ℕ → ℕ → List Event) (es : List Event) (parts : List WrittenPart) (last : ℕ) → SameAt says says' parts → AreUpTo says es parts last → AreUpTo says' es parts last
up_to-same says says' es [] last same up_to = up_to
up_to-same says says' es (part ∷ before) last same up_to = (
  record {
    within = up_to.0.within;
    here = same.0 part.file ∙ up_to.0.here;
    elsewhere = λ file other. same.0 file ∙ up_to.0.elsewhere file other;
    cut = up_to.0.cut;
  },
  up_to-same says says' es before part.first same.1 up_to.1,
)

up_to-more : (says : ℕ → ℕ → List Event) (es more : List Event) (parts : List WrittenPart) (last : ℕ) → last ≤ length es → AreUpTo says es parts last → AreUpTo says (es ++ more) parts last
up_to-more says es more [] last within up_to = up_to
up_to-more says es more (part ∷ before) last within up_to =
    let begins = up_to.0.within in (
      record {
        within = begins;
        here = up_to.0.here ∙ ap (λ events. part.head ++ events) (sym (up_to-push part.first last es more begins within));
        elsewhere = up_to.0.elsewhere;
        cut = cut-more es more part.first part.head up_to.0.cut;
      },
      up_to-more says es more before part.first (omega arith) up_to.1,
    )

-- a section to which nothing happens
section-stays : (says says' : ℕ → ℕ → List Event) (files files' step : ℕ) (es : List Event) (parts : List WrittenPart) (section : Cutting) →
    SameAt says says' parts → files ≤ files' → HasSection says files step es parts section → HasSection says' files' step es parts section
section-stays says says' files files' step es parts section same more has = grind (arith, up_to-same)

pub some_apart : {X : Type 0} (x y : X) → Some x ≡ Some y → x ≡ y
some_apart x y same = cc

past-same : (es : List Event) (p : ℕ) (head : List Event) (old new : Cutting) → SamePast old new → HasPast old es p head → HasPast new es p head
past-same es p head old new same past = grind arith

-- a section that is as it was, but for when a cut is looked for, and which events wait
section-same : (says : ℕ → ℕ → List Event) (files step : ℕ) (es : List Event) (parts : List WrittenPart) (old new : Cutting) → IsKept old new → HasSection says files step es parts old → HasSection says files step es parts new
section-same says files step es parts old new kept has = record {
  last = has.last;
  before = has.before;
  parts_are = has.parts_are;
  name_is = has.name_is ∙ sym kept.same.name_is;
  file_is = has.file_is ∙ sym kept.same.file_is;
  there = let there = has.there in let same = kept.same.file_is in omega arith;
  once = subst (λ (n : ℕ). NoneNamed n has.before) (sym kept.same.name_is) has.once;
  numbered = subst (λ (n : ℕ). AreNumbered step n (has.last ∷ has.before)) (sym kept.same.number_is) has.numbered;
  up_to = has.up_to;
  goes_on = λ rest. kept.stays (es ++ rest) has.last.first has.last.head (length es) (has.goes_on rest);
  past = λ rest. past-same (es ++ rest) has.last.first has.last.head old new kept.before (has.past rest);
  orders = λ none. has.orders (sym kept.lost ∙ none);
}

-- the parts know the pairs of one event more
orders-grow : (es : List Event) (e : Event) (rest : List Event) (last : WrittenPart) (before : List WrittenPart) (section : Cutting) → last.first ≤ length es → KnowsNext section e →
    ((more : List Event) → IsUpTo section.part (es ++ more) last.first last.head (length es)) → ((more : List Event) → HasPast section (es ++ more) last.first last.head) →
    ((more : List Event) → AllKnow (es ++ more) (last ∷ before) (length es)) → AllKnow ((es ++ e ∷ []) ++ rest) (last ∷ before) (length (es ++ e ∷ []))
orders-grow es e rest last before section within knows up_to past orders =
    let whole = es ++ e ∷ rest in
    let all : (es ++ e ∷ []) ++ rest ≡ whole = append_assoc es (e ∷ []) rest in
    let count = length_push es e in
    let was = orders (e ∷ rest) in (
      subst (λ (fs : List Event). KnowsOrders fs last (length (es ++ e ∷ []))) (sym all) (λ n a b below here. elim (cases_lt (last.first + n) (length es)) [
        | inl early ↦ was.0 n a b early here
        | inr late ↦
            let now : last.first + n ≡ length es = omega (arith, count, below) in
            let is : e ≡ Ordered a b = some_apart _ _ (sym (event-behind es e rest) ∙ ap (λ k. event_at whole (suc k)) (sym now) ∙ here) in
            knows-there section a b whole last.first last.head n (subst (KnowsNext section) is knows) (subst (IsUpTo section.part whole last.first last.head) (sym now) (up_to (e ∷ rest))) (past (e ∷ rest)) here
      ]),
      subst (λ (fs : List Event). AllKnow fs before last.first) (sym all) was.1,
    )

-- a section that has one event more
section-grows : (says says' : ℕ → ℕ → List Event) (files files' step : ℕ) (es : List Event) (parts : List WrittenPart) (old new : Cutting) (e : Event) → TakesEvent old new e →
    says' old.file old.name ≡ says old.file old.name ++ e ∷ [] → ((file name : ℕ) → (file ≢ old.file) ⊎ (name ≢ old.name) → says' file name ≡ says file name) → files ≤ files' →
    HasSection says files step es parts old → HasSection says' files' step (es ++ e ∷ []) parts new
section-grows says says' files files' step es parts old new e takes here others more has = record {
  last = last;
  before = has.before;
  parts_are = has.parts_are;
  name_is = has.name_is ∙ sym takes.same.name_is;
  file_is = has.file_is ∙ sym takes.same.file_is;
  there = let there = has.there in let same = takes.same.file_is in omega arith;
  once = subst (λ (n : ℕ). NoneNamed n has.before) (sym takes.same.name_is) has.once;
  numbered = subst (λ (n : ℕ). AreNumbered step n (last ∷ has.before)) (sym takes.same.number_is) has.numbered;
  up_to = (
    record {
      within = omega (arith, length_push es e);
      here = grind (arith, append_assoc, all-push);
      elsewhere = λ file other. others file last.number (inl (λ same. other (same ∙ sym has.file_is))) ∙ written.elsewhere file other;
      cut = cut-more es (e ∷ []) last.first last.head written.cut;
    },
    up_to-more says' es (e ∷ []) has.before last.first begins
        (up_to-same says says' es has.before last.first (same-but old.name says says' (λ other apart file. others file other (inr apart)) has.before has.once) has.up_to.1),
  );
  goes_on = grind (arith, event-behind, append_assoc, length_push, add-one);
  past = λ rest. subst (λ whole. HasPast new whole last.first last.head) (sym (append_assoc es (e ∷ []) rest)) (past-same (es ++ e ∷ rest) last.first last.head old new takes.before (has.past (e ∷ rest)));
  orders = λ none rest.
      let told = takes.lost none in
      orders-grow es e rest last has.before old begins told.1 has.goes_on has.past (has.orders told.0);
}
  where
    last : WrittenPart
    last = has.last

    written : IsWritten says es has.last (length es)
    written = has.up_to.0

    begins : has.last.first ≤ length es
    begins = has.up_to.0.within

abbrev next_part : List Event → List Event → ℕ → ℕ → WrittenPart
next_part es head file number = record { first = length es; head = head; file = file; number = number }

-- a section that is cut: its next part has said its head
section-goes_on : (says says' : ℕ → ℕ → List Event) (names : ℕ → Option ℕ) (files files' step number name file : ℕ) (es : List Event) (parts : List WrittenPart) (old new : Cutting) (part : Part) (head : List Event) →
    GoesOnAs old new name file part → BeginsBehind old.part part head → old.part.waiting.items ≡ [] → name ≡ old.name + step → names name ≡ None → AreOf names number parts → ((other : ℕ) → says other name ≡ []) →
    says' file name ≡ says file name ++ head → ((other-file other : ℕ) → (other-file ≢ file) ⊎ (other ≢ name) → says' other-file other ≡ says other-file other) → file < files' →
    HasSection says files step es parts old → HasSection says' files' step es (next_part es head file name ∷ parts) new
section-goes_on says says' names files files' step number name file es parts old new part head renewed begins none_waits above free of_it none here others there has = record {
  last = next_part es head file name;
  before = has.last ∷ has.before;
  parts_are = ap (λ before. next_part es head file name ∷ before) has.parts_are;
  name_is = sym renewed.same.name_is;
  file_is = sym renewed.same.file_is;
  there = let same = renewed.same.file_is in omega arith;
  once = subst (λ (n : ℕ). NoneNamed n (has.last ∷ has.before)) (sym renewed.same.name_is) free_of_them;
  numbered = subst (λ (n : ℕ). AreNumbered step n (next_part es head file name ∷ has.last ∷ has.before)) (sym renewed.same.number_is) (above ∙ ap (λ n. n + step) (sym has.name_is), has.numbered);
  up_to = (
    record {
      within = omega arith;
      here = here ∙ ap (λ events. events ++ head) (none file) ∙ sym (append-nil head) ∙ ap (λ events. head ++ events) (sym (none-behind es (length es) refl));
      elsewhere = λ other apart. others other name (inl apart) ∙ none other;
      cut = λ rest. (on rest).cut;
    },
    up_to-same says says' es (has.last ∷ has.before) (length es) (same-but name says says' (λ other apart file. others file other (inr apart)) (has.last ∷ has.before) free_of_them) has.up_to,
  );
  goes_on = λ rest. renewed.begins (es ++ rest) (length es) head (length es) (on rest);
  past = λ rest. past-next old new name file part (es ++ rest) has.last.first has.last.head head (length es) renewed none_waits (has.goes_on rest) (has.past rest)
      (let count = (on rest).stands.events in omega arith);
  orders = λ none rest. ((λ n a b below. absurd (omega arith)), has.orders (sym renewed.lost ∙ none) rest);
}
  where
    free_of_them : NoneNamed name (has.last ∷ has.before)
    free_of_them = none-named names name number free (has.last ∷ has.before) (subst (AreOf names number) has.parts_are of_it)

    on : (rest : List Event) → IsPartOf part (es ++ rest) (length es) head (length es)
    on rest = begins (es ++ rest) has.last.first has.last.head (length es) (has.goes_on rest)

-- a section that begins
section-begins : (says : ℕ → ℕ → List Event) (files step number file : ℕ) (section : Cutting) → HasPart section number number file section.part →
    (part : Part) → Begins part section.part → ((es : List Event) → IsPartOf part es 0 [] 0) → ((es : List Event) → HasPast section es 0 []) → ((other : ℕ) → says other number ≡ []) → file < files →
    HasSection says files step [] (record { first = 0; head = []; file = file; number = number } ∷ []) section
section-begins says files step number file section begun whole begins part past none there = record {
  last = record { first = 0; head = []; file = file; number = number };
  before = [];
  parts_are = refl;
  name_is = sym begun.name_is;
  file_is = sym begun.file_is;
  there = let same = begun.file_is in omega arith;
  once = tt;
  numbered = sym begun.number_is;
  up_to = (record { within = omega arith; here = none file; elsewhere = λ other apart. none other; cut = λ rest. (part rest).cut }, refl);
  goes_on = λ rest. begins rest 0 [] 0 (part rest);
  past = past;
  orders = λ none rest. ((λ n a b below. absurd (omega arith)), tt);
}

-- what changes at one section, and stays at each other one
pub record Changes (ends : Bool) (step : ℕ) (records then-records : List (List ℕ)) (handed : ℕ → List ℕ) (current : Option ℕ) (places then-places names then-names : ℕ → Option ℕ) (sections then-sections : List Cutting) (outputs then-outputs : Outputs) (number : ℕ) : Type 0 where
  pub own : List WrittenPart
  pub section : Cutting
  pub number_is : section.number ≡ number
  pub has : HasSection (said handed then-outputs) (length then-outputs.files.items) step (events_in then-records number) own section
  pub here : (place : ℕ) → then-places number ≡ Some place → slice_get then-sections place ≡ Some section
  pub there : (other place : ℕ) → other ≢ number → then-places other ≡ Some place → (places other ≡ Some place) × ((s : Cutting) → slice_get sections place ≡ Some s → slice_get then-sections place ≡ Some s)
  pub current_is : IsCurrent then-places (current_of then-records) current
  pub found : (other : ℕ) → then-places other ≡ None → (other ≢ number) × (places other ≡ None)
  pub events : (other : ℕ) → other ≢ number → events_in then-records other ≡ events_in records other
  pub kept : (name other : ℕ) → names name ≡ Some other → then-names name ≡ Some other
  pub new : (name other : ℕ) → other ≢ number → then-names name ≡ Some other → names name ≡ Some other
  pub of_it : AreOf then-names number own
  pub among : (name : ℕ) → then-names name ≡ Some number → IsAmong name own
  pub says : (name other : ℕ) → other ≢ number → names name ≡ Some other → (file : ℕ) → said handed then-outputs file name ≡ said handed outputs file name
  pub nothing_else : (name : ℕ) → then-names name ≡ None → (file : ℕ) → said handed then-outputs file name ≡ []
  pub count : length outputs.files.items ≤ length then-outputs.files.items
  pub opened : AllOpen ends handed then-outputs
  pub waits : AllWait then-outputs

module _ (ends : Bool) (step : ℕ) (records then-records : List (List ℕ)) (handed : ℕ → List ℕ) (was current : Option ℕ) (places then-places names then-names : ℕ → Option ℕ) (sections then-sections : List Cutting) (outputs then-outputs : Outputs) (number : ℕ)
    (has : HasCut true step records handed was places names sections outputs) (changes : Changes ends step records then-records handed current places then-places names then-names sections then-sections outputs then-outputs number) where
  then-parts : ℕ → List WrittenPart
  then-parts other = cond (other == number) changes.own (has.parts other)

  parts-here : (other : ℕ) → other ≡ number → then-parts other ≡ changes.own
  unfolding then-parts
  parts-here other is = rw (eq-eqb other number is) refl

  parts-there : (other : ℕ) → other ≢ number → then-parts other ≡ has.parts other
  unfolding then-parts
  parts-there other apart = rw (ne_eqb other number apart) refl

  of_it-then : (other : ℕ) → AreOf then-names other (then-parts other)
  of_it-then other = grind (arith, ⊎_elim, parts-here, parts-there, of-kept, cases_eq)

  among-then : (name other : ℕ) → then-names name ≡ Some other → IsAmong name (then-parts other)
  among-then name other named = grind (arith, ⊎_elim, parts-here, parts-there, cases_eq)

  absent-then : (other : ℕ) → then-places other ≡ None → (events_in then-records other ≡ []) × (then-parts other ≡ [])
  absent-then other none = grind (arith, parts-there)

  PlacedAt : ℕ → ℕ → Type 0
  PlacedAt other place = IsPlaced (said handed then-outputs) (length then-outputs.files.items) step then-sections other place (events_in then-records other) (then-parts other)

  placed-here : (place : ℕ) → then-places number ≡ Some place → PlacedAt number place
  unfolding PlacedAt
  placed-here place at = record {
    section = changes.section;
    at = changes.here place at;
    number_is = changes.number_is;
    has = subst (λ parts. HasSection _ _ step _ parts changes.section) (sym (parts-here number refl)) changes.has;
  }

  placed-there : (other place : ℕ) → other ≢ number → then-places other ≡ Some place → PlacedAt other place
  unfolding PlacedAt
  placed-there other place apart at =
      let there = changes.there other place apart at in
      let placed = has.placed other place there.0 in
      record {
        section = placed.section;
        at = there.1 placed.section placed.at;
        number_is = placed.number_is;
        has =
            subst (λ parts. HasSection (said handed then-outputs) (length then-outputs.files.items) step (events_in then-records other) parts placed.section) (sym (parts-there other apart))
            (subst (λ es. HasSection (said handed then-outputs) (length then-outputs.files.items) step es (has.parts other) placed.section) (sym (changes.events other apart))
            (section-stays _ _ _ _ step _ _ _ (same-of names other _ _ (λ name named. changes.says name other apart named) (has.parts other) (has.of_it other)) changes.count placed.has));
      }

  placed-then : (other place : ℕ) → then-places other ≡ Some place → PlacedAt other place
  placed-then other place at = grind (arith, ⊎_elim, placed-here, placed-there, cases_eq)

  pub changed : HasCut ends step then-records handed current then-places then-names then-sections then-outputs
  unfolding PlacedAt
  changed = record {
    parts = then-parts;
    current_is = changes.current_is;
    placed = placed-then;
    absent = absent-then;
    of_it = of_it-then;
    among = among-then;
    nothing_else = changes.nothing_else;
    opened = changes.opened;
    waits = changes.waits;
  }

-- the elements of a list with one more, and with another one at a place
get-front : (xs more : List Cutting) (k : ℕ) (x : Cutting) → slice_get xs k ≡ Some x → slice_get (xs ++ more) k ≡ Some x
get-front [] more k x at = absurd (none_is_some at)
get-front (y ∷ xs) more zero x at = at
get-front (y ∷ xs) more (suc k) x at = get-front xs more k x at

pub get_set : (xs : List Cutting) (k : ℕ) (x y : Cutting) → slice_get xs k ≡ Some x → slice_get (set xs k y) k ≡ Some y
get_set [] k x y at = absurd (none_is_some at)
get_set (z ∷ xs) zero x y at = refl
get_set (z ∷ xs) (suc k) x y at = get_set xs k x y at

module _ (names then-names : ℕ → Option ℕ) (name number : ℕ) (named : IsNamed names then-names name number) where
  named-kept : (other k : ℕ) → names other ≡ Some k → then-names other ≡ Some k
  named-kept other k is = named.others other (λ same. none_is_some (sym named.free ∙ ap names (sym same) ∙ is)) ∙ is

  named-new : (other k : ℕ) → then-names other ≡ Some k → ((other ≡ name) × (k ≡ number)) ⊎ (names other ≡ Some k)
  named-new other k is = grind arith

  named-none : (other : ℕ) → then-names other ≡ None → (other ≢ name) × (names other ≡ None)
  named-none other none = grind arith

  named-by : (other k : ℕ) → k ≢ number → then-names other ≡ Some k → names other ≡ Some k
  named-by other k apart is = ⊎_elim (λ both. absurd (apart both.1)) (λ was. was) (named-new other k is)

-- where nothing was told of any section, nothing was of one
none-lost : (sections : List Cutting) (place : ℕ) (section : Cutting) → slice_get sections place ≡ Some section → lost_in sections ≡ 0 → section.lost ≡ 0
none-lost [] place section at none = absurd (none_is_some at)
none-lost (first ∷ sections) zero section at none =
    let is = ap (λ (s : Cutting). s.lost) (some_apart first section at) in
    let all = sum_by-cons (λ (s : Cutting). s.lost) first sections in omega (arith, is, all, none)
none-lost (first ∷ sections) (suc place) section at none =
    let all = sum_by-cons (λ (s : Cutting). s.lost) first sections in none-lost sections place section at (omega (arith, all, none))

-- what is said where files began
more-says : (handed : ℕ → List ℕ) (outputs then-outputs : Outputs) → MoreFiles outputs then-outputs → (file name : ℕ) → said handed then-outputs file name ≡ said handed outputs file name
more-says handed outputs then-outputs more file name = ap (λ text. said_in (handed file ++ text) name) (more.texts.texts file)

more-open : (ends : Bool) (handed : ℕ → List ℕ) (outputs then-outputs : Outputs) → MoreFiles outputs then-outputs → AllOpen ends handed outputs → AllOpen ends handed then-outputs
more-open ends handed outputs then-outputs more opened file = grind arith

module _ (ends : Bool) (step : ℕ) (records : List (List ℕ)) (handed : ℕ → List ℕ) (current : Option ℕ) (places names : ℕ → Option ℕ) (sections : List Cutting) (outputs : Outputs)
    (has : HasCut ends step records handed current places names sections outputs) where
  -- nothing happens to any section
  pub passed : (then-ends : Bool) (then-records : List (List ℕ)) (then-handed : ℕ → List ℕ) (then-current : Option ℕ) (then-outputs : Outputs) → ((number : ℕ) → events_in then-records number ≡ events_in records number) →
      IsCurrent places (current_of then-records) then-current → ((file name : ℕ) → said then-handed then-outputs file name ≡ said handed outputs file name) →
      length outputs.files.items ≤ length then-outputs.files.items → AllOpen then-ends then-handed then-outputs → AllWait then-outputs →
      HasCut then-ends step then-records then-handed then-current places names sections then-outputs
  passed then-ends then-records then-handed then-current then-outputs events current_is says count opened waits = record {
    parts = has.parts;
    current_is = current_is;
    placed = λ number place at.
        let placed = has.placed number place at in
        record {
          section = placed.section;
          at = placed.at;
          number_is = placed.number_is;
          has =
              subst (λ es. HasSection (said then-handed then-outputs) (length then-outputs.files.items) step es (has.parts number) placed.section) (sym (events number))
              (section-stays _ _ _ _ step _ _ _ (same-of names number _ _ (λ name named file. says file name) (has.parts number) (has.of_it number)) count placed.has);
        };
    absent = λ number none. let was = has.absent number none in (events number ∙ was.0, was.1);
    of_it = has.of_it;
    among = has.among;
    nothing_else = λ name none file. says file name ∙ has.nothing_else name none file;
    opened = opened;
    waits = waits;
  }

  -- files began
  pub more_files : (then-outputs : Outputs) → MoreFiles outputs then-outputs → HasCut ends step records handed current places names sections then-outputs
  more_files then-outputs more = grind (arith, passed, more-says, more-open)

  -- the log that has these records is cut into what was handed out and waits
  whole-at : (number : ℕ) (place : Option ℕ) → places number ≡ place → AreUpTo (said handed outputs) (events_in records number) (has.parts number) (length (events_in records number))
      × AreNumbered step number (has.parts number)
  whole-at number None none =
      let was = has.absent number none in (
        subst (λ parts. AreUpTo (said handed outputs) (events_in records number) parts (length (events_in records number))) (sym was.1) (ap length was.0),
        subst (AreNumbered step number) (sym was.1) tt,
      )
  whole-at number (Some place) at =
      let placed = has.placed number place at in (
        subst (λ parts. AreUpTo (said handed outputs) (events_in records number) parts (length (events_in records number))) (sym placed.has.parts_are) placed.has.up_to,
        subst (AreNumbered step number) (sym placed.has.parts_are) (subst (λ n. AreNumbered step n (placed.has.last ∷ placed.has.before)) placed.number_is placed.has.numbered),
      )

  orders-at : lost_in sections ≡ 0 → (number : ℕ) (place : Option ℕ) → places number ≡ place → AllKnow (events_in records number) (has.parts number) (length (events_in records number))
  orders-at none number None absent = subst (λ parts. AllKnow (events_in records number) parts (length (events_in records number))) (sym (has.absent number absent).1) tt
  orders-at none number (Some place) at =
      let placed = has.placed number place at in
      subst (λ parts. AllKnow (events_in records number) parts (length (events_in records number))) (sym placed.has.parts_are)
      (subst (λ es. AllKnow es (placed.has.last ∷ placed.has.before) (length (events_in records number))) (append-nil (events_in records number)) (placed.has.orders (none-lost sections place placed.section placed.at none) []))

  pub is_cut : (log : List ℕ) → records_of log ≡ records → IsCutInto step log (text_of handed outputs) (lost_in sections)
  is_cut log is = record {
    parts = has.parts;
    section = names;
    whole = λ number. subst (λ rs. AreUpTo (said handed outputs) (events_in rs number) (has.parts number) (length (events_in rs number))) (sym is) (whole-at number (places number) refl).0;
    numbered = λ number. (whole-at number (places number) refl).1;
    of_it = has.of_it;
    among = has.among;
    nothing_else = has.nothing_else;
    orders = λ none number. subst (λ rs. AllKnow (events_in rs number) (has.parts number) (length (events_in rs number))) (sym is) (orders-at none number (places number) refl);
  }

module _ (step : ℕ) (records : List (List ℕ)) (handed : ℕ → List ℕ) (current : Option ℕ) (places names : ℕ → Option ℕ) (sections : List Cutting) (outputs : Outputs)
    (has : HasCut true step records handed current places names sections outputs) where
  current-kept : (then-places : ℕ → Option ℕ) → ((other place : ℕ) → places other ≡ Some place → then-places other ≡ Some place) → (at : Option ℕ) → IsCurrent places (current_of records) at → IsCurrent then-places (current_of records) at
  current-kept then-places kept v2 is = grind arith

  -- a section begins
  pub begun : (then-places then-names : ℕ → Option ℕ) (then-outputs : Outputs) (number file : ℕ) (section : Cutting) → places number ≡ None → IsNamed names then-names number number →
      then-places number ≡ Some (length sections) → ((other : ℕ) → other ≢ number → then-places other ≡ places other) → MoreFiles outputs then-outputs → file < length then-outputs.files.items →
      HasPart section number number file section.part → (part : Part) → Begins part section.part → ((es : List Event) → IsPartOf part es 0 [] 0) → ((es : List Event) → HasPast section es 0 []) →
      HasCut true step records handed current then-places then-names (sections ++ section ∷ []) then-outputs
  begun then-places then-names then-outputs number file section none named here others more there begins whole started part past =
      changed true step records records handed current current places then-places names then-names sections (sections ++ section ∷ []) outputs then-outputs number has record {
        own = record { first = 0; head = []; file = file; number = number } ∷ [];
        section = section;
        number_is = begins.number_is;
        has =
            subst (λ es. HasSection (said handed then-outputs) (length then-outputs.files.items) step es (record { first = 0; head = []; file = file; number = number } ∷ []) section) (sym (has.absent number none).0)
            (section-begins (said handed then-outputs) (length then-outputs.files.items) step number file section begins whole started part past (λ other. more-says handed outputs then-outputs more other number ∙ has.nothing_else number named.free other) there);
        here = λ place at. subst (λ k. slice_get (sections ++ section ∷ []) k ≡ Some section) (some_apart _ _ (sym here ∙ at)) (last-is sections section);
        there = λ other place apart at. (sym (others other apart) ∙ at, λ s is. get-front sections (section ∷ []) place s is);
        current_is = current-kept then-places (λ other place is. others other (λ same. none_is_some (sym none ∙ ap places (sym same) ∙ is)) ∙ is) current has.current_is;
        found = grind arith;
        events = λ other apart. refl;
        kept = named-kept names then-names number number named;
        new = named-by names then-names number number named;
        of_it = (named.here, tt);
        among = grind arith;
        says = λ name other apart is file. more-says handed outputs then-outputs more file name;
        nothing_else = λ name is file. more-says handed outputs then-outputs more file name ∙ has.nothing_else name (named-none names then-names number number named name is).1 file;
        count = more.count;
        opened = more-open true handed outputs then-outputs more has.opened;
        waits = more.texts.waits has.waits;
      }

  module _ (number place : ℕ) (section : Cutting) (at : places number ≡ Some place) (is : slice_get sections place ≡ Some section) where
    its : (has.placed number place at).section ≡ section
    its = some_apart _ _ (sym (has.placed number place at).at ∙ is)

    number_of_it : section.number ≡ number
    number_of_it = subst (λ (s : Cutting). s.number ≡ number) its (has.placed number place at).number_is

    section-at : HasSection (said handed outputs) (length outputs.files.items) step (events_in records number) (has.parts number) section
    section-at = subst (λ s. HasSection (said handed outputs) (length outputs.files.items) step (events_in records number) (has.parts number) s) its (has.placed number place at).has

    -- its file is there
    pub file-there : section.file < length outputs.files.items
    file-there = section-at.there

    -- the name of its part is its own
    named_of_it : names section.name ≡ Some number
    named_of_it = ap names (sym section-at.name_is) ∙ (subst (AreOf names number) section-at.parts_are (has.of_it number)).0

    -- another section stands elsewhere
    elsewhere : (new : Cutting) (other there : ℕ) → other ≢ number → places other ≡ Some there → (s : Cutting) → slice_get sections there ≡ Some s → slice_get (set sections place new) there ≡ Some s
    elsewhere new other there apart stands s at-there = set-other sections place there new (λ same. apart (other_is same)) ∙ at-there
      where
        other_is : there ≡ place → other ≡ number
        other_is same =
            sym (has.placed other there stands).number_is
            ∙ ap (λ (s : Cutting). s.number) (some_apart (has.placed other there stands).section section (sym (has.placed other there stands).at ∙ ap (slice_get sections) same ∙ is))
            ∙ number_of_it

    here-then : (new : Cutting) (there : ℕ) → places number ≡ Some there → slice_get (set sections place new) there ≡ Some new
    here-then new there stands = subst (λ k. slice_get (set sections place new) k ≡ Some new) (some_apart place there (sym at ∙ stands)) (get_set sections place section new is)

    not_it : (other : ℕ) → places other ≡ None → other ≢ number
    not_it other none same = none_is_some (sym none ∙ ap places same ∙ at)

    -- a cut was looked for
    pub unchanged : (new : Cutting) → IsKept section new → HasCut true step records handed current places names (set sections place new) outputs
    unchanged new kept =
        changed true step records records handed current current places places names names sections (set sections place new) outputs outputs number has record {
          own = has.parts number;
          section = new;
          number_is = kept.same.number_is ∙ number_of_it;
          has = section-same (said handed outputs) (length outputs.files.items) step _ (has.parts number) section new kept section-at;
          here = here-then new;
          there = λ other its-place apart stands. (stands, elsewhere new other its-place apart stands);
          current_is = has.current_is;
          found = λ other none. (not_it other none, none);
          events = λ other apart. refl;
          kept = λ name other named. named;
          new = λ name other apart named. named;
          of_it = has.of_it number;
          among = λ name named. has.among name number named;
          says = λ name other apart named file. refl;
          nothing_else = has.nothing_else;
          count = omega arith;
          opened = has.opened;
          waits = has.waits;
        }

    -- it goes on with its next part
    pub renewed : (mid then-outputs : Outputs) (then-names : ℕ → Option ℕ) (name file : ℕ) (new : Cutting) (part : Part) (head : List Event) → IsNamed names then-names name section.number → name ≡ section.name + step →
        BeginsBehind section.part part head → section.part.waiting.items ≡ [] → GoesOnAs section new name file part → MoreFiles outputs mid → file < length mid.files.items → Says true file name head mid then-outputs →
        HasCut true step records handed current places then-names (set sections place new) then-outputs
    renewed mid then-outputs then-names name file new part head its-name above begins none_waits goes_on more there says =
        changed true step records records handed current current places places names then-names sections (set sections place new) outputs then-outputs number has record {
          own = next_part (events_in records number) head file name ∷ has.parts number;
          section = new;
          number_is = goes_on.same.number_is ∙ number_of_it;
          has = section-goes_on (said handed outputs) (said handed then-outputs) names (length outputs.files.items) (length then-outputs.files.items) step number name file _ (has.parts number) section new part head
              goes_on begins none_waits above named.free (has.of_it number) (λ other. has.nothing_else name named.free other)
              (is-said.here ∙ ap (λ events. events ++ head) (before file name)) (λ other-file other apart. is-said.others other-file other apart ∙ before other-file other)
              (let count = is-said.count in omega arith) section-at;
          here = here-then new;
          there = λ other its-place apart stands. (stands, elsewhere new other its-place apart stands);
          current_is = has.current_is;
          found = λ other none. (not_it other none, none);
          events = λ other apart. refl;
          kept = named-kept names then-names name number named;
          new = named-by names then-names name number named;
          of_it = (named.here, of-kept names then-names number (λ other. named-kept names then-names name number named other number) (has.parts number) (has.of_it number));
          among = λ other is-named. ⊎_elim (λ both. inl (sym both.0)) (λ was. inr (has.among other number was)) (named-new names then-names name number named other number is-named);
          says = λ other k apart is-named its-file. is-said.others its-file other (inr (λ same. none_is_some (sym named.free ∙ ap names (sym same) ∙ is-named))) ∙ before its-file other;
          nothing_else = grind arith;
          count = let count = is-said.count in let longer = more.count in omega arith;
          opened = is-said.opened;
          waits = is-said.waits (more.texts.waits has.waits);
        }
      where
        named : IsNamed names then-names name number
        named = subst (IsNamed names then-names name) number_of_it its-name

        is-said : IsSaid true handed file name head mid then-outputs
        is-said = says handed there (more-open true handed outputs mid more has.opened)

        before : (its-file other : ℕ) → said handed mid its-file other ≡ said handed outputs its-file other
        before = more-says handed outputs mid more

  -- an event happens in the section that is current
  pub happened : (ends : Bool) (then-outputs : Outputs) (place : ℕ) (section new : Cutting) (e : Event) (text : List ℕ) → places (current_of records) ≡ Some place → slice_get sections place ≡ Some section →
      TakesEvent section new e → record_of text ≡ Ok (Happens e) → Says ends section.file section.name (e ∷ []) outputs then-outputs →
      HasCut ends step (records ++ text ∷ []) handed current places names (set sections place new) then-outputs
  happened ends then-outputs place section new e text at is takes event says =
      changed ends step records (records ++ text ∷ []) handed current current places places names names sections (set sections place new) outputs then-outputs number has record {
        own = has.parts number;
        section = new;
        number_is = takes.same.number_is ∙ number_of_it number place section at is;
        has =
            subst (λ es. HasSection (said handed then-outputs) (length then-outputs.files.items) step es (has.parts number) new) (sym (events_in-event records text e event number ∙ rw (eq-eqb number number refl) refl))
            (section-grows (said handed outputs) (said handed then-outputs) (length outputs.files.items) (length then-outputs.files.items) step _ (has.parts number) section new e takes is-said.here is-said.others
            (let count = is-said.count in omega arith) here);
        here = here-then number place section at is new;
        there = λ other its-place apart stands. (stands, elsewhere number place section at is new other its-place apart stands);
        current_is = subst (λ n. IsCurrent places n current) (sym (current_of-push records text ∙ ap (λ reading. number_after reading number) event)) has.current_is;
        found = λ other none. (not_it number place section at is other none, none);
        events = λ other apart. events_in-event records text e event other ∙ rw (ne_eqb number other (λ same. apart (sym same))) refl;
        kept = λ name other named. named;
        new = λ name other apart named. named;
        of_it = has.of_it number;
        among = λ name named. has.among name number named;
        says = λ name other apart named file. is-said.others file name (inr (λ same. apart (some_apart other number (sym named ∙ ap names same ∙ named_of_it number place section at is))));
        nothing_else = λ name none file.
            is-said.others file name (inr (λ same. none_is_some (sym none ∙ ap names same ∙ named_of_it number place section at is))) ∙ has.nothing_else name none file;
        count = let count = is-said.count in omega arith;
        opened = is-said.opened;
        waits = is-said.waits has.waits;
      }
    where
      number : ℕ
      number = current_of records

      here : HasSection (said handed outputs) (length outputs.files.items) step (events_in records (current_of records)) (has.parts (current_of records)) section
      here = section-at (current_of records) place section at is

      is-said : IsSaid ends handed section.file section.name (e ∷ []) outputs then-outputs
      is-said = says handed (section-at (current_of records) place section at is).there has.opened

-- what is current, where a place was told, and where none was
pub current_at : (places : ℕ → Option ℕ) (number place : ℕ) (current : Option ℕ) → current ≡ Some place → IsCurrent places number current → places number ≡ Some place
current_at places number place current is at = subst (IsCurrent places number) is at

pub current-none : (places : ℕ → Option ℕ) (number : ℕ) (current : Option ℕ) → current ≡ None → IsCurrent places number current → number ≡ 0
current-none places number current is at = subst (IsCurrent places number) is at

-- nothing is said of any section
pub record IsQuiet (ends : Bool) (handed : ℕ → List ℕ) (old new : Outputs) : Type 0 where
  pub says : (file name : ℕ) → said handed new file name ≡ said handed old file name
  pub count : length old.files.items ≤ length new.files.items
  pub opened : AllOpen ends handed new
  pub waits : AllWait old → AllWait new

pub quiet-said : (ends : Bool) (handed : ℕ → List ℕ) (file number : ℕ) (old new : Outputs) → IsSaid ends handed file number [] old new → IsQuiet ends handed old new
quiet-said ends handed file number old new is = grind (arith, ⊎_elim, append-nil, cases_eq)

pub quiet-same : (ends : Bool) (handed : ℕ → List ℕ) (outputs : Outputs) → AllOpen true handed outputs → IsQuiet ends handed outputs outputs
quiet-same ends handed outputs opened = grind arith

module _ (step : ℕ) (records : List (List ℕ)) (handed : ℕ → List ℕ) (current : Option ℕ) (places names : ℕ → Option ℕ) (sections : List Cutting) (outputs : Outputs)
    (has : HasCut true step records handed current places names sections outputs) where
  -- a section is there where its number has a place
  pub placed-within : (number place : ℕ) → places number ≡ Some place → place < length sections
  placed-within number place at = slice_get_within sections place _ (has.placed number place at).at

  -- the place that is current is told
  pub current-told : (place : ℕ) → places (current_of records) ≡ Some place → HasCut true step records handed (Some place) places names sections outputs
  current-told place at = grind arith

  -- a marker makes a section current
  pub marked : (ends : Bool) (then-outputs : Outputs) (text : List ℕ) (number place : ℕ) → record_of text ≡ Ok (Enters number) → places number ≡ Some place → IsQuiet ends handed outputs then-outputs →
      HasCut ends step (records ++ text ∷ []) handed (Some place) places names sections then-outputs
  marked ends then-outputs text number place says at quiet =
      passed true step records handed current places names sections outputs has ends (records ++ text ∷ []) handed (Some place) then-outputs (events_in-enter records text number says)
      (ap places (current_of-push records text ∙ ap (λ reading. number_after reading (current_of records)) says) ∙ at) quiet.says quiet.count quiet.opened (quiet.waits has.waits)

  -- what says nothing
  pub silent : (ends : Bool) (then-outputs : Outputs) (more : List (List ℕ)) → SayNothing more → IsQuiet ends handed outputs then-outputs →
      HasCut ends step (records ++ more) handed current places names sections then-outputs
  silent ends then-outputs v2 says quiet = grind (arith, append-nil, passed, events_in-nothing, current_of-push)

-- the same of equals
pub cut_as : (ends : Bool) (step : ℕ) (records : List (List ℕ)) (handed : ℕ → List ℕ) (current then-current : Option ℕ) (places then-places names then-names : ℕ → Option ℕ) (sections then-sections : List Cutting) (outputs : Outputs) →
    then-current ≡ current → then-places ≡ places → then-names ≡ names → then-sections ≡ sections → HasCut ends step records handed current places names sections outputs →
    HasCut ends step records handed then-current then-places then-names then-sections outputs
cut_as ends step records handed current then-current places then-places names then-names sections then-sections outputs same-current same-places same-names same-sections has = grind arith

-- what is handed out is no longer to be written
handed-same : (handed : ℕ → List ℕ) (old new : Outputs) (texts : List Text) → HandsOut old texts new → (file : ℕ) → text_of (handed_with handed texts) new file ≡ text_of handed old file
handed-same handed old new texts out file = append_assoc (handed file) (bytes_for texts file) (waiting_in new file) ∙ ap (λ text. handed file ++ text) (out.kept file)

pub drained : (old new : Cutter) (texts : List Text) → HandsOut old.outputs texts new.outputs → new.waiting ≡ old.waiting → new.sections ≡ old.sections →
    ((step : ℕ) (records : List (List ℕ)) (handed : ℕ → List ℕ) → Cuts true step records handed old → HasCut true step records (handed_with handed texts) old.current (get nat_cmp old.places) (get nat_cmp old.names) old.sections.items new.outputs → Cuts true step records (handed_with handed texts) new) →
    Drains old texts new
drained old new texts out same sections rebuilt = record {
  reads = λ step log handed read. record {
    done = read.done;
    whole = read.whole ∙ ap (λ waits. read.done ++ waits.items) (sym same);
    ended = read.ended;
    unended = rw same read.unended;
    cuts = rebuilt step _ handed read.cuts
        (passed true step _ handed _ _ _ _ _ read.cuts.has true _ (handed_with handed texts) _ new.outputs (λ number. refl) read.cuts.has.current_is (λ file name. ap (λ text. said_in text name) (handed-same handed old.outputs new.outputs texts out file))
        (let count = out.count in omega arith)
        (λ file. subst (λ text. IsOpen true text (current_in new.outputs file)) (sym (handed-same handed old.outputs new.outputs texts out file)) (subst (IsOpen true (text_of handed old.outputs file)) (sym (out.currents file)) (read.cuts.has.opened file)))
        (λ file some. absurd (let none = ap length (out.none_left read.cuts.has.waits file) in omega arith)));
  };
  ends = λ step log handed all.
      subst (λ texts. IsCutInto step log texts (lost_in old.sections.items)) (fun_ext (λ file. sym (handed-same handed old.outputs new.outputs texts out file) ∙ ap (λ rest. handed_with handed texts file ++ rest) (out.none_left all.waits file) ∙ append-nil (handed_with handed texts file))) all.cut;
  same = sections;
}

take-further : (start len : ℕ) (text : List ℕ) → take start text ++ take (len + 1) (drop start text) ≡ take (start + len + 1) text
take-further start len text =
    let all : start + (len + 1) ≡ start + len + 1 = omega arith in
    ap (λ front. front ++ take (len + 1) (drop start text)) (sym (take-take start (start + len + 1) text (omega arith)))
    ∙ ap (λ rest. take start (take (start + len + 1) text) ++ rest) (sym (drop-take start (len + 1) text) ∙ ap (λ n. drop start (take n text)) all)
    ∙ take-append-drop start (take (start + len + 1) text)

-- a part of the text more
pub cuts_part : (step : ℕ) (done text : List ℕ) (handed : ℕ → List ℕ) (mid new : Cutter) (start len : ℕ) → CutsTo step done text handed mid start →
    parts_of (take (len + 1) (drop start text)) ≡ take len (drop start text) ∷ [] ∷ [] → CutsPart mid new (take len (drop start text)) (take (len + 1) (drop start text)) → CutsTo step done text handed new (start + len + 1)
cuts_part step done text handed mid new start len so_far parts cuts =
    let before = done ++ take start text in
    let bytes = take (len + 1) (drop start text) in
    let more = records_in (take len (drop start text) ∷ []) in
    let holds : Holds true bytes more = record { part = take len (drop start text); parts = parts; records_are = refl } in
    let is : before ++ bytes ≡ done ++ take (start + len + 1) text = append_assoc done (take start text) bytes ∙ ap (λ front. done ++ front) (take-further start len text) in
    record {
      ended = subst (λ all. parts_of all ≡ ended_parts all ++ [] ∷ []) is (holds-ended true before bytes more refl so_far.ended holds);
      cuts = subst (λ records. Cuts true step records handed new) (sym (holds-open true before bytes more so_far.ended holds) ∙ ap records_of is) (cuts true step _ handed so_far.cuts parts);
    }

-- bytes without a separator wait, too
pub waits-more : (step : ℕ) (log rest : List ℕ) (handed : ℕ → List ℕ) (old new : Cutter) → parts_of rest ≡ rest ∷ [] → new.waiting.items ≡ old.waiting.items ++ rest →
    ((records : List (List ℕ)) → Cuts true step records handed old → Cuts true step records handed new) → HasRead step log handed old → HasRead step (log ++ rest) handed new
waits-more step log rest handed old new unended waiting same read = record {
  done = read.done;
  whole = ap (λ front. front ++ rest) read.whole ∙ append_assoc read.done old.waiting.items rest ∙ ap (λ waits. read.done ++ waits) (sym waiting);
  ended = read.ended;
  unended = rw waiting (parts_of-append old.waiting.items rest ∙ ap (λ parts. joined parts (parts_of rest)) read.unended ∙ ap (joined (old.waiting.items ∷ [])) unended ∙ joined_at [] old.waiting.items rest []);
  cuts = same _ read.cuts;
}

-- what was cut to an end, and what is left
pub reads-on : (step : ℕ) (log bytes text : List ℕ) (handed : ℕ → List ℕ) (old mid new : Cutter) (end : ℕ) → text ≡ old.waiting.items ++ bytes → new.waiting.items ≡ drop end text → parts_of (drop end text) ≡ drop end text ∷ [] →
    CutsParts old mid text end → ((records : List (List ℕ)) → Cuts true step records handed mid → Cuts true step records handed new) → HasRead step log handed old → HasRead step (log ++ bytes) handed new
reads-on step log bytes text handed old mid new end text_is waiting unended cuts same read =
    let cut = cuts step read.done handed read.ended read.cuts in
    record {
      done = read.done ++ take end text;
      whole = grind (arith, append_assoc, take-append-drop);
      ended = cut.ended;
      unended = rw waiting unended;
      cuts = same _ cut.cuts;
    }

-- the end of the log
pub ends_log : (step : ℕ) (log : List ℕ) (handed : ℕ → List ℕ) (old new : Cutter) → CutsPart old new old.waiting.items old.waiting.items → HasRead step log handed old → HasCutAll step log handed new
ends_log step log handed old new cuts read =
    let rest = old.waiting.items in
    let cut = cuts false step _ handed read.cuts read.unended in
    let holds : Holds false rest (records_in (rest ∷ [])) = record { part = rest; parts = read.unended; records_are = refl } in
    record { cut = is_cut false step _ handed _ _ _ _ _ cut.has log (ap records_of read.whole ∙ holds-open false read.done rest _ read.ended holds); waits = cut.has.waits }

-- a piece: what a separator ends is cut, and the rest waits
pub reads-piece : (step : ℕ) (log piece : List ℕ) (handed : ℕ → List ℕ) (end : ℕ) (mid new : Cutter) → HasRead step (log ++ take end piece) handed mid → parts_of (drop end piece) ≡ drop end piece ∷ [] →
    new.waiting.items ≡ mid.waiting.items ++ drop end piece → ((records : List (List ℕ)) → Cuts true step records handed mid → Cuts true step records handed new) → HasRead step (log ++ piece) handed new
reads-piece step log piece handed end mid new read unended waiting same =
    subst (λ all. HasRead step all handed new) (append_assoc log (take end piece) (drop end piece) ∙ ap (λ all. log ++ all) (take-append-drop end piece)) (waits-more step _ _ handed mid new unended waiting same read)

-- nothing was read
pub cut-none : (step : ℕ) (places names : ℕ → Option ℕ) (sections : List Cutting) (outputs : Outputs) → ((number : ℕ) → places number ≡ None) → ((name : ℕ) → names name ≡ None) → IsNew outputs →
    HasCut true step (records_of []) (λ file. []) None places names sections outputs
cut-none step places names sections outputs no-places no-names new = record {
  parts = λ number. [];
  current_is = ap current_of none ∙ current_of-nil;
  placed = λ number place at. absurd (none_is_some (sym (no-places number) ∙ at));
  absent = λ number is. (ap (λ rs. events_in rs number) none ∙ events_in-nil number, refl);
  of_it = λ number. tt;
  among = λ name number is. absurd (none_is_some (sym (no-names name) ∙ is));
  nothing_else = λ name is file. ap (λ text. said_in text name) (new.texts file) ∙ ap (λ rs. events_in rs name) none ∙ events_in-nil name;
  opened = λ file. record {
    ended = λ is. ap parts_of (new.texts file) ∙ parts_of-nil ∙ ap (λ front. front ++ [] ∷ []) (sym (ap ended_parts (new.texts file) ∙ ended_is [] [] [] parts_of-nil));
    current_is = ap (λ text. current_of (records_of text)) (new.texts file) ∙ ap current_of none ∙ current_of-nil ∙ sym (new.currents file);
  };
  waits = λ file some. absurd (let empty = ap length (new.texts file) in omega arith);
}
  where
    none : records_of [] ≡ []
    none = ap records_in parts_of-nil ∙ nothing_behind true
