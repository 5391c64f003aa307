-- Counts of names, with one more name.
use Rattle.std.{proofs.Common.{◌≡◌, ℕ, zero, suc, ◌+◌, ◌-◌, ◌^◌, ◌<◌, ◌≤◌, Bool, true, false, cond, List, [], ◌∷◌, ◌++◌, Some, None, length, take, get_or, map, All, refl, sym, ap, subst, ◌∙◌, arith, length-append, not, ◌||◌, filter, bytes_eq, append-nil}, proofs.lemmas.Slice.Eq.{bytes_eq-Decides}, specs.List.{list_any}, proofs.lemmas.Bool.{false≢true}, proofs.lemmas.List.{map-append, length-map, take_more}, proofs.lemmas.List.Elements.{All-append, All-cons, filter-append}, proofs.lemmas.List.Sums.{sum_by-append, count_by-le-length, length-filter}, proofs.lemmas.Grind.{common_steps}}
use Rattle.memchr.specs.Find.{IsFirstByte, is_byte}
use Rattle.pmf_storelog.{specs.LogText.{is_skipped}, specs.Records.{fields_of, is_field_end}, proofs.SplitLemmas.{split_none, split_some}}
use Rattle.pmf_query.specs.RecordNames.{known_names, first_field, name_of}
use Rattle.pmf_lint.{specs.declared.naming.Named.{Named}, specs.declared.naming.TheConstants.{LISTED}, specs.declared.listing.Listing.{Listing}, specs.declared.counting.NameCounts.{NameCounts}, specs.Counting.{AreNotes, Lists, Tallies}, specs.Naming.{Count, first_names, count_named, count_others, counting, is_among, names_in, names_of, skipped_names}, proofs.FirstNamesLemmas.{all_first, among_others, first_again, first_full, first_new, is_other}}

count_named-push : (n name : List ℕ) (names : List (List ℕ)) → count_named n (names ++ name ∷ []) ≡ count_named n names + cond (bytes_eq n name) 1 0
unfolding count_named
count_named-push n name names = omega (arith, sum_by-append (λ other. cond (bytes_eq n other) 1 0) names (name ∷ []))

count_others-push : (listed names : List (List ℕ)) (name : List ℕ) → count_others listed (names ++ name ∷ []) ≡ count_others listed names + cond (not (is_among listed name)) 1 0
unfolding count_others
count_others-push listed names name = omega (arith, sum_by-append (λ other. cond (not (is_among listed other)) 1 0) names (name ∷ []))

pub others_few : (listed names : List (List ℕ)) → count_others listed names ≤ length names
unfolding count_others
others_few listed names = count_by-le-length (λ name. not (is_among listed name)) names

pub small_counts : (counts : List Named) (names : List (List ℕ)) → Count counts names → length names + 1 < 2 ^ 64 → All (λ (c : Named). c.records < 2 ^ 64 - 1) counts
unfolding count_named
small_counts counts names count few = grind (arith, common_steps)

-- the counts after one more name
pub Count-push : (counts : List Named) (names : List (List ℕ)) (name : List ℕ) → Count counts names → Count (map (counting name) counts) (names ++ name ∷ [])
Count-push [] names name count = λ k d within. absurd (omega arith)
Count-push (c ∷ counts) names name count =
    All-cons (λ (x : Named). x.records ≡ count_named x.name.now (names ++ name ∷ [])) (counting name c) (map (counting name) counts)
    (ap (λ n. n + cond (bytes_eq c.name.now name) 1 0) (count 0 c (omega arith)) ∙ sym (count_named-push c.name.now name names))
    (Count-push counts names name (λ k d within. count (suc k) d (omega arith)))

pub names-counting : (counts : List Named) (name : List ℕ) → names_in (map (counting name) counts) ≡ names_in counts
names-counting [] name = refl
names-counting (c ∷ counts) name = ap (λ rest. c.name.now ∷ rest) (names-counting counts name)

pub others-listed : (listed names : List (List ℕ)) (name : List ℕ) → is_among listed name ≡ true → count_others listed (names ++ name ∷ []) ≡ count_others listed names
others-listed listed names name among = grind (arith, common_steps, count_others-push)

pub others-more : (listed names : List (List ℕ)) (name : List ℕ) → is_among listed name ≡ false → count_others listed (names ++ name ∷ []) ≡ count_others listed names + 1
others-more listed names name apart = count_others-push listed names name ∙ ap (λ b. count_others listed names + cond (not b) 1 0) apart

-- ---- a new name

or_last : (b : Bool) → (b || false) ≡ b
or_last b = grind (arith, common_steps)

or_true : (b : Bool) → (b || true) ≡ true
or_true b = grind (arith, common_steps)

bytes_eq-itself : (name : List ℕ) → bytes_eq name name ≡ true
bytes_eq-itself name = (bytes_eq-Decides name name).1 refl

or_no : (a b : Bool) → (a || b) ≡ false → (a ≡ false) × (b ≡ false)
or_no a b none = grind (arith, common_steps)

apart_from : (counts : List Named) (name : List ℕ) → is_among (names_in counts) name ≡ false → (k : ℕ) (d : Named) → k < length counts → bytes_eq (get_or counts k d).name.now name ≡ false
unfolding is_among
apart_from [] name apart k d within = absurd (omega arith)
apart_from (c ∷ counts) name apart zero d within = (or_no (bytes_eq c.name.now name) (list_any (λ n. bytes_eq n name) (names_in counts)) apart).0
apart_from (c ∷ counts) name apart (suc k) d within = apart_from counts name (or_no (bytes_eq c.name.now name) (list_any (λ n. bytes_eq n name) (names_in counts)) apart).1 k d (omega arith)

-- what is counted of a list with a name in front
others_cons : (listed : List (List ℕ)) (name : List ℕ) (names : List (List ℕ)) → count_others listed (name ∷ names) ≡ cond (not (is_among listed name)) 1 0 + count_others listed names
unfolding count_others
others_cons listed name names = omega (arith, sum_by-append (λ other. cond (not (is_among listed other)) 1 0) (name ∷ []) names)

named_cons : (n name : List ℕ) (names : List (List ℕ)) → count_named n (name ∷ names) ≡ cond (bytes_eq n name) 1 0 + count_named n names
unfolding count_named
named_cons n name names = omega (arith, sum_by-append (λ other. cond (bytes_eq n other) 1 0) (name ∷ []) names)

others_nil : (listed : List (List ℕ)) → count_others listed [] ≡ 0
unfolding count_others
others_nil listed = refl

named_nil : (n : List ℕ) → count_named n [] ≡ 0
unfolding count_named
named_nil n = refl

-- the name is the other, or it is not equal to it
names_apart : (n other : List ℕ) (b : Bool) → bytes_eq n other ≡ b → (listed : List (List ℕ)) → is_among listed n ≡ false → is_among listed other ≡ true → b ≡ false
names_apart n other b same listed apart among = grind (arith, common_steps, false≢true, bytes_eq-Decides)

one_no : (b : Bool) (rest : ℕ) → cond (not b) 1 0 + rest ≡ 0 → (b ≡ true) × (rest ≡ 0)
one_no b rest none = grind (arith, common_steps)

-- where no name is another one than these, none is another one than more of them
still : (fewer more : List (List ℕ)) → ((other : List ℕ) → is_among fewer other ≡ true → is_among more other ≡ true) → (names : List (List ℕ)) → count_others fewer names ≡ 0 → count_others more names ≡ 0
still fewer more so [] none = others_nil more
still fewer more so (other ∷ names) none =
    let here = one_no (is_among fewer other) (count_others fewer names) (sym (others_cons fewer other names) ∙ none) in
    others_cons more other names ∙ ap (λ b. cond (not b) 1 0 + count_others more names) (so other here.0) ∙ (let rest = still fewer more so names here.1 in omega (arith, rest))

among_cons : (name other : List ℕ) (left firsts : List (List ℕ)) (same : Bool) → bytes_eq name other ≡ same → (same ≡ false → is_among left other ≡ is_among firsts other) → is_among firsts other ≡ true → is_among (name ∷ left) other ≡ true
unfolding is_among
among_cons name other left firsts same is so among = grind (arith, common_steps, or_true)

-- each name is among the different ones
none_other : (names : List (List ℕ)) → count_others (first_names names) names ≡ 0
unfolding first_names is_among
none_other [] = others_nil []
none_other (name ∷ names) =
    let left = filter (is_other name) (first_names names) in
    let rest = still (first_names names) (name ∷ left) (λ other. among_cons name other left (first_names names) (bytes_eq name other) refl (λ apart. among_others name other apart (first_names names))) names (none_other names) in
    others_cons (name ∷ left) name names ∙ ap (λ b. cond (not (b || list_any (λ n. bytes_eq n name) left)) 1 0 + count_others (name ∷ left) names) (bytes_eq-itself name) ∙ (let e : 0 + count_others (name ∷ left) names ≡ 0 = omega (arith, rest) in e)

-- a name that is not listed, where all names are listed
module _ (listed : List (List ℕ)) (name : List ℕ) (apart : is_among listed name ≡ false) where
  pub unseen : (names : List (List ℕ)) → count_others listed names ≡ 0 → count_named name names ≡ 0
  unseen [] none = named_nil name
  unseen (other ∷ names) none =
      let here = one_no (is_among listed other) (count_others listed names) (sym (others_cons listed other names) ∙ none) in
      named_cons name other names ∙ ap (λ b. cond b 1 0 + count_named name names) (names_apart name other (bytes_eq name other) refl listed apart here.0)
      ∙ (let rest = unseen names here.1 in omega (arith, rest))

  pub still_none : (names : List (List ℕ)) → count_others listed names ≡ 0 → count_others (listed ++ name ∷ []) (names ++ name ∷ []) ≡ 0
  unfolding is_among
  still_none names none = grind (arith, common_steps, bytes_eq-itself, or_true, others-listed, still)

  pub Count-new : (counts : List Named) (names : List (List ℕ)) (c : Named) → listed ≡ names_in counts → count_others listed names ≡ 0 → c.name.now ≡ name → c.records ≡ 1 →
      Count counts names → Count (counts ++ c ∷ []) (names ++ name ∷ [])
  Count-new counts names c are none named once count = grind (arith, common_steps, All-append, count_named-push, All-cons, apart_from, bytes_eq-itself, unseen)

-- ---- what a listing and a counts hold

pub lists_none : (listing : Listing) → listing.listed.items ≡ [] → listing.others ≡ 0 → Lists listing []
unfolding first_names
lists_none listing empty none = grind (arith, common_steps, others_nil)

module _ (old new : Listing) (names : List (List ℕ)) (lists : Lists old names) (name : List ℕ) where
  -- one more of a listed name
  pub lists_again : is_among (names_in old.listed.items) name ≡ true → new.listed.items ≡ map (counting name) old.listed.items → new.others ≡ old.others → Lists new (names ++ name ∷ [])
  lists_again among counted kept =
      let same : names_in new.listed.items ≡ names_in old.listed.items = ap (λ (cs : List Named). names_in cs) counted ∙ names-counting old.listed.items name in record {
        first = same ∙ first_again (names_in old.listed.items) names name lists.first among;
        listed = subst (λ (cs : List Named). Count cs (names ++ name ∷ [])) (sym counted) (Count-push old.listed.items names name lists.listed);
        others = kept ∙ lists.others ∙ sym (ap (λ (ls : List (List ℕ)). count_others ls (names ++ name ∷ [])) same ∙ others-listed (names_in old.listed.items) names name among);
      }

  -- a name that is listed now
  pub lists_new : (c : Named) → is_among (names_in old.listed.items) name ≡ false → length old.listed.items < LISTED → new.listed.items ≡ old.listed.items ++ c ∷ [] → new.others ≡ old.others →
      c.name.now ≡ name → c.records ≡ 1 → Lists new (names ++ name ∷ [])
  lists_new c apart room pushed kept named once =
      let few : length (names_in old.listed.items) < LISTED = omega (arith, length-map old.listed.items (λ (c : Named). c.name.now)) in
      let none : count_others (names_in old.listed.items) names ≡ 0 = ap (λ (ls : List (List ℕ)). count_others ls names) (all_first (names_in old.listed.items) names lists.first few) ∙ none_other names in
      let all : names_in new.listed.items ≡ names_in old.listed.items ++ name ∷ [] =
      ap (λ (cs : List Named). names_in cs) pushed ∙ map-append (λ (c : Named). c.name.now) old.listed.items (c ∷ []) ∙ ap (λ (n : List ℕ). names_in old.listed.items ++ n ∷ []) named in record {
        first = all ∙ first_new (names_in old.listed.items) names name lists.first apart few;
        listed = subst (λ (cs : List Named). Count cs (names ++ name ∷ [])) (sym pushed)
            (Count-new (names_in old.listed.items) name apart old.listed.items names c refl none named once lists.listed);
        others = kept ∙ lists.others ∙ none ∙ sym (ap (λ (ls : List (List ℕ)). count_others ls (names ++ name ∷ [])) all ∙ still_none (names_in old.listed.items) name apart names none);
      }

  -- a name that is not
  pub lists_other : is_among (names_in old.listed.items) name ≡ false → LISTED ≤ length old.listed.items → new.listed.items ≡ old.listed.items → new.others ≡ old.others + 1 → Lists new (names ++ name ∷ [])
  lists_other apart full same more = record {
    first = ap (λ (cs : List Named). names_in cs) same ∙ first_full (names_in old.listed.items) names name lists.first (omega (arith, length-map old.listed.items (λ (c : Named). c.name.now)));
    listed = subst (λ (cs : List Named). Count cs (names ++ name ∷ [])) (sym same) (λ k d within.
        lists.listed k d within ∙ sym (count_named-push (get_or old.listed.items k d).name.now name names
        ∙ ap (λ b. count_named (get_or old.listed.items k d).name.now names + cond b 1 0) (apart_from old.listed.items name apart k d within)
        ∙ (let e : count_named (get_or old.listed.items k d).name.now names + 0 ≡ count_named (get_or old.listed.items k d).name.now names = omega arith in e)));
    others = more ∙ ap (λ n. n + 1) lists.others ∙ sym (ap (λ (cs : List Named). count_others (names_in cs) (names ++ name ∷ [])) same ∙ others-more (names_in old.listed.items) names name apart);
  }

pub skipped_few : (records : List (List ℕ)) → length (skipped_names records) ≤ length records
unfolding skipped_names
skipped_few records = omega (arith, length-map (filter is_skipped records) (λ text. name_of text), length-filter is_skipped records, count_by-le-length is_skipped records)

pub names_long : (records : List (List ℕ)) → length (names_of records) ≡ length records
unfolding names_of
names_long records = length-map records (λ text. name_of text)

pub tallies_none : (counts : NameCounts) → counts.records ≡ 0 → names_in counts.known.items ≡ known_names → Count counts.known.items [] → Lists counts.listing [] → AreNotes counts.notes [] → Tallies counts []
unfolding names_of skipped_names
tallies_none counts none names known lists notes = record { count = none; names = names; known = known; skipped = lists; notes = notes }

module _ (old new : NameCounts) (records : List (List ℕ)) (tallies : Tallies old records) (text : List ℕ) (more : new.records ≡ old.records + 1)
    (counted : new.known.items ≡ map (counting (name_of text)) old.known.items) (notes : AreNotes new.notes (records ++ text ∷ [])) where
  one_more : new.records ≡ length (records ++ text ∷ [])
  one_more = omega (arith, tallies.count, length-append records (text ∷ []))

  known_names_more : names_in new.known.items ≡ known_names
  known_names_more = ap (λ (cs : List Named). names_in cs) counted ∙ names-counting old.known.items (name_of text) ∙ tallies.names

  known_more : Count new.known.items (names_of (records ++ text ∷ []))
  unfolding names_of
  known_more = grind (arith, common_steps, Count-push)

  pub tallies_skipped : is_skipped text ≡ true → Lists new.listing (skipped_names records ++ name_of text ∷ []) → Tallies new (records ++ text ∷ [])
  unfolding skipped_names
  tallies_skipped skipped lists = grind (arith, common_steps, one_more, known_names_more, known_more, filter-append, map-append)

  pub tallies_known : is_skipped text ≡ false → new.listing ≡ old.listing → Tallies new (records ++ text ∷ [])
  unfolding skipped_names
  tallies_known taken same = grind (arith, common_steps, one_more, known_names_more, known_more, append-nil, filter-append, map-append)

-- ---- the name of a record

pub name_found : (text : List ℕ) (end : ℕ) → IsFirstByte (is_byte 59) text (Some end) → take end text ≡ name_of text
unfolding name_of fields_of
name_found text end found = sym (ap first_field (split_some is_field_end text end found))

pub name_whole : (text : List ℕ) → IsFirstByte (is_byte 59) text None → text ≡ name_of text
unfolding name_of fields_of
name_whole text none = sym (ap first_field (split_none is_field_end text none))

-- a count of the name was found
pub among_at : (counts : List Named) (name : List ℕ) (k : ℕ) (d : Named) → k < length counts → bytes_eq (get_or counts k d).name.now name ≡ true → is_among (names_in counts) name ≡ true
unfolding is_among
among_at [] name k d within same = absurd (omega arith)
among_at (c ∷ counts) name zero d within same = ap (λ b. b || list_any (λ n. bytes_eq n name) (names_in counts)) same
among_at (c ∷ counts) name (suc k) d within same = ap (λ b. bytes_eq c.name.now name || b) (among_at counts name k d (omega arith) same) ∙ or_true (bytes_eq c.name.now name)

-- the known names so far, with one more
pub known_more_names : (counts : List Named) (i : ℕ) (c : Named) → names_in counts ≡ take i known_names → i < 13 → c.name.now ≡ get_or known_names i [] → names_in (counts ++ c ∷ []) ≡ take (i + 1) known_names
known_more_names counts i c so_far within is = grind (arith, common_steps, map-append, take_more)

pub Count_none : (counts : List Named) (c : Named) → Count counts [] → c.records ≡ 0 → Count (counts ++ c ∷ []) []
Count_none counts c count none = grind (arith, common_steps, All-append, All-cons, named_nil)
