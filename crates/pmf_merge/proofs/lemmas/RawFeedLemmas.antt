-- A text that is read up to its next block, as it stands.
use Rattle.std.{proofs.{Common.{◌≡◌, ◌⊎◌, ℕ, zero, suc, ◌+◌, ◌<◌, ◌≤◌, Bool, List, [], ◌∷◌, ◌++◌, length, take, drop, get_or, codes, Option, Some, None, All, Contains, Less, Equal, Greater, take_at, decimal, length-append, ◌^◌, refl, sym, ◌∙◌, ap, subst, arith, inl, inr, append_assoc, append-nil}, lemmas.List.{length_push, take-append-drop, take-append-le}, lemmas.List.Elements.{All-head, All-nil, All-push, All-tail, Contains-get_or, Contains-push, Contains-push_cases}, lemmas.List.Quantifiers.{all_pairs_push}, lemmas.Fmt.{length-decimal-le}, lemmas.Grind.{flat_map-append}}, specs.Io.KnownBytes.{Consumes, IsAtEnd}}
use Rattle.pmf_event.specs.declared.{name.Name.{Name}, profile.Profile.{Profile}, profile.Profile.TheVariants.{One, Two}}
use Rattle.pmf_ledger.{specs.declared.raw_text.FirstBlock.{FirstBlock}, specs.LedgerText.{text_of_end}, specs.Loading.{lines_of, parts_of}, specs.Names.{IsBefore}, specs.RawText.{HasNoFirst, HasNoVersion, IsFirst, IsFirstVersion, IsRawFront, IsRawText, IsVersion, IsWhole, RawBlock, RawNamesRise, bytes_of, raw_of}, proofs.lemmas.MergingLemmas.{AllPairs-front, AllPairs-last, none_of_empty}, proofs.lemmas.NameLemmas.{before-itself, before-trans}, proofs.lemmas.RawTextOnceLemmas.{end_is_none, front_once, one_block}}
use Rattle.std.specs.declared.cmp.Ordering.{Ordering}
use Rattle.pmf_merge.specs.{RawFeeding.{ComesNext, IsLastRaw, IsNoRawText, IsRawFed, IsRawHead, ReadsMore, rest_of}, declared.raw_feed.RawFeed.{RawFeed}, declared.unread.Unread.{Unread}}

-- a block has some bytes
no_line : (found : FirstBlock) (bytes : List ℕ) → found.taken ≡ 0 → lines_of (take found.taken bytes) ≡ []
unfolding parts_of
no_line found bytes none = ap (λ n. lines_of (take n bytes)) none

pub some_taken : (bytes : List ℕ) (found : FirstBlock) → IsFirst bytes found → 0 < found.taken
some_taken bytes found (within, whole, rows) = by found.taken refl
  where
    by : (n : ℕ) → found.taken ≡ n → 0 < found.taken
    by zero is = let count = ap (λ (ls : List (List ℕ)). length ls) (sym whole.lines ∙ no_line found bytes is) in absurd (omega (arith, count))
    by (suc n) is = omega (arith, is)

-- the bytes of some blocks and one more
pub bytes_push : (blocks : List RawBlock) (b : RawBlock) → bytes_of (blocks ++ b ∷ []) ≡ bytes_of blocks ++ b.bytes
bytes_push blocks b = flat_map-append (λ (c : RawBlock). c.bytes) blocks (b ∷ []) ∙ ap (λ xs. bytes_of blocks ++ xs) (append-nil b.bytes)

-- a front, and a block more
pub front_push : (profile : Profile) (told : List RawBlock) (b : RawBlock) (front : List ℕ) → IsRawFront profile told front → IsWhole b → RawNamesRise (told ++ b ∷ []) →
    IsRawFront profile (told ++ b ∷ []) (front ++ b.bytes)
front_push profile told b front begins whole rises = record {
  version = begins.version;
  versioned = begins.versioned;
  each = All-push IsWhole told b begins.each whole;
  rises = rises;
  front_is = ap (λ xs. xs ++ b.bytes) begins.front_is ∙ append_assoc (begins.version ++ codes "\n") (bytes_of told) b.bytes ∙ ap (λ xs. (begins.version ++ codes "\n") ++ xs) (sym (bytes_push told b));
}

-- what was read first
pub read_first : (start left : Option (List ℕ)) (none rest : List ℕ) (more : Bool) → none ≡ [] → ReadsMore start left none rest more → Consumes start left rest
read_first start left none rest more is reads = subst (Consumes start left) (sym (reads.longer_is ∙ ap (λ xs. xs ++ reads.read) is)) reads.consumed

-- the first text line was read
pub fed_first : (start left : Option (List ℕ)) (rest : List ℕ) (profile : Profile) (taken lines : ℕ) (unread : Unread) → Consumes start left rest → IsFirstVersion rest (profile, taken) →
    rest_of unread ≡ drop taken rest → IsRawFed start left [] (record { unread = unread; next = None; profile = profile; last = None; told = 0; lines = lines })
fed_first start left rest profile taken lines unread read (within, (line, version, is)) behind = record {
  front = take taken rest;
  begins = record {
    version = line;
    versioned = version;
    each = All-nil IsWhole;
    rises = λ i j d less inside. absurd (omega (arith, inside));
    front_is = is ∙ sym (append-nil (line ++ codes "\n"));
  };
  read = subst (Consumes start left) (sym (take-append-drop taken rest) ∙ ap (λ xs. take taken rest ++ xs) (sym behind)) read;
  count = refl;
  last = refl;
}

-- the last text line is short
pub end_short : (n : ℕ) → n < 2 ^ 64 → length (text_of_end n) ≤ 34
unfolding text_of_end
end_short n small =
    let digits = length-decimal-le 20 n (omega arith) (omega arith) small in let one = length-append (codes "end verdicts=") (decimal n ++ codes "\n") in let two = length-append (decimal n) (codes "\n") in
    omega (arith, digits, one, two)

-- each of some blocks is whole
is_whole : (xs : List RawBlock) (y : RawBlock) (ys : List RawBlock) → All IsWhole (xs ++ y ∷ ys) → IsWhole y
is_whole [] y ys each = All-head IsWhole y ys each
is_whole (x ∷ xs) y ys each = is_whole xs y ys (All-tail IsWhole x (xs ++ y ∷ ys) each)

-- all names come before one that comes after the last
before_all : (told : List RawBlock) (last : Option Name) (b : RawBlock) → IsLastRaw told last → RawNamesRise told → ((name : Name) → last ≡ Some name → IsBefore name b.name) →
    (c : RawBlock) → Contains told c → IsBefore c.name b.name
before_all told None b none rises after c found = absurd (none_of_empty [] c refl (subst (λ cs. Contains cs c) none found))
before_all told (Some name) b (before, l, whole, named) rises after c found = elim (Contains-push_cases before l c (subst (λ cs. Contains cs c) whole found)) [
  | inl earlier ↦
      before-trans c.name l.name b.name (AllPairs-last (λ (x : RawBlock) (y : RawBlock). IsBefore x.name y.name) before l (subst RawNamesRise whole rises) c earlier) (subst (λ n. IsBefore n b.name) (sym named) (after name refl))
  | inr here ↦ subst (λ (d : RawBlock). IsBefore d.name b.name) here (subst (λ n. IsBefore n b.name) (sym named) (after name refl))
]

module _ (start left : Option (List ℕ)) (told : List RawBlock) (feed : RawFeed) (fed : IsRawFed start left told feed) where
  abbrev rest : List ℕ
  rest = rest_of feed.unread

  pub kept_rises : (b : RawBlock) → ((name : Name) → feed.last ≡ Some name → IsBefore name b.name) → RawNamesRise (told ++ b ∷ [])
  kept_rises b after =
      all_pairs_push (λ (x : RawBlock) (y : RawBlock). IsBefore x.name y.name) told b fed.begins.rises
      (λ k d inside. before_all told feed.last b fed.last fed.begins.rises after (get_or told k d) (Contains-get_or told k d inside))

  -- where the whole text is one of blocks, those behind the ones that were told are the rest, and the end
  rest_is : (text : List ℕ) (profile : Profile) (blocks : List RawBlock) → start ≡ Some text → IsRawText profile blocks text →
      (behind : List ℕ) × (left ≡ Some behind) × ((more : List RawBlock) × (blocks ≡ told ++ more) × (rest ++ behind ≡ bytes_of more ++ text_of_end (length blocks)))
  rest_is text profile blocks is whole = by left refl
    where
      by : (l : Option (List ℕ)) → left ≡ l →
          (behind : List ℕ) × (left ≡ Some behind) × ((more : List RawBlock) × (blocks ≡ told ++ more) × (rest ++ behind ≡ bytes_of more ++ text_of_end (length blocks)))
      by None none = absurd (subst (λ s. Consumes s None (fed.front ++ rest)) is (subst (λ l. Consumes start l (fed.front ++ rest)) none fed.read))
      by (Some behind) some =
          let all : text ≡ (fed.front ++ rest) ++ behind = subst (λ s. Consumes s (Some behind) (fed.front ++ rest)) is (subst (λ l. Consumes start l (fed.front ++ rest)) some fed.read) in
          let it = front_once feed.profile profile told blocks fed.front (rest ++ behind) text fed.begins (all ∙ append_assoc fed.front rest behind) whole in
          (behind, some, (it.1.0, it.1.1, it.1.2))

  -- a block whose name doesn't come after the last one stands in no such text
  pub no_text_falls : (found : FirstBlock) (name : Name) → IsFirst rest found → feed.last ≡ Some name → (IsBefore name found.name → ⊥) → IsNoRawText start
  no_text_falls found name (within, whole_b, rows) last not_before text profile blocks is whole =
      let it = rest_is text profile blocks is whole in by it.2.0 it.2.1 it.0 it.2.2
    where
      at_end : (before : List RawBlock) × (l : RawBlock) × (told ≡ before ++ l ∷ []) × (l.name ≡ name)
      at_end = subst (IsLastRaw told) last fed.last

      grouped : (behind : List ℕ) → (raw_of rest found).bytes ++ (drop found.taken rest ++ behind) ≡ rest ++ behind
      grouped behind = sym (append_assoc (raw_of rest found).bytes (drop found.taken rest) behind) ∙ ap (λ xs. xs ++ behind) (take-append-drop found.taken rest)

      by : (more : List RawBlock) → blocks ≡ told ++ more → (behind : List ℕ) → rest ++ behind ≡ bytes_of more ++ text_of_end (length blocks) → ⊥
      by [] all behind same = end_is_none (length blocks) (raw_of rest found) (drop found.taken rest ++ behind) whole_b (sym same ∙ sym (grouped behind))
      by (m ∷ more) all behind same =
          let each = subst (All IsWhole) all whole.1.each in
          let of_m = is_whole told m more each in
          let one : raw_of rest found ≡ m = one_block (raw_of rest found) m (drop found.taken rest ++ behind) (bytes_of more ++ text_of_end (length blocks)) whole_b of_m (grouped behind ∙ same ∙ append_assoc m.bytes (bytes_of more) (text_of_end (length blocks))) in
          let rises = subst RawNamesRise (all ∙ sym (append_assoc told (m ∷ []) more)) whole.1.rises in
          let front = AllPairs-front (λ (x : RawBlock) (y : RawBlock). IsBefore x.name y.name) (told ++ m ∷ []) more rises in
          let before = AllPairs-last (λ (x : RawBlock) (y : RawBlock). IsBefore x.name y.name) told m front at_end.1 (subst (λ bs. Contains bs at_end.1) (sym at_end.2) (Contains-push at_end.0 at_end.1)) in
          not_before (subst (λ n. IsBefore n found.name) at_end.3 (subst (λ (c : RawBlock). IsBefore at_end.1.name c.name) (sym one) before))

  -- what is longer than the end, and where no block begins, is no such text
  pub no_text_goes_on : length (text_of_end feed.told) < length rest → ((more : List ℕ) → HasNoFirst (rest ++ more)) → IsNoRawText start
  no_text_goes_on long none text profile blocks is whole = let it = rest_is text profile blocks is whole in by it.2.0 it.2.1 it.0 it.2.2
    where
      by : (more : List RawBlock) → blocks ≡ told ++ more → (behind : List ℕ) → rest ++ behind ≡ bytes_of more ++ text_of_end (length blocks) → ⊥
      by [] all behind same =
          let count : length blocks ≡ feed.told = ap (λ (bs : List RawBlock). length bs) (all ∙ append-nil told) ∙ sym fed.count in
          let longer = length-append rest behind in
          let equal = ap (λ (xs : List ℕ). length xs) same ∙ ap (λ n. length (text_of_end n)) count in omega (arith, longer, equal, long)
      by (m ∷ more) all behind same =
          none behind m (bytes_of more ++ text_of_end (length blocks)) (is_whole told m more (subst (All IsWhole) all whole.1.each)) (same ∙ append_assoc m.bytes (bytes_of more) (text_of_end (length blocks)))

  -- where all was read, and neither a block nor the end is left, it is no such text
  pub no_text_ends : IsAtEnd left → HasNoFirst rest → (rest ≡ text_of_end feed.told → ⊥) → IsNoRawText start
  no_text_ends ended none other text profile blocks is whole = let it = rest_is text profile blocks is whole in by it.2.0 it.2.1 (all it.0 it.1 ∙ it.2.2)
    where
      all : (behind : List ℕ) → left ≡ Some behind → rest ≡ rest ++ behind
      all behind some = let empty : behind ≡ [] = subst IsAtEnd some ended in sym (append-nil rest) ∙ ap (λ xs. rest ++ xs) (sym empty)

      by : (more : List RawBlock) → blocks ≡ told ++ more → rest ≡ bytes_of more ++ text_of_end (length blocks) → ⊥
      by [] same is_end = other (is_end ∙ ap (λ (bs : List RawBlock). text_of_end (length bs)) (same ∙ append-nil told) ∙ ap text_of_end (sym fed.count))
      by (m ∷ more) same is_more =
          let each = subst (All IsWhole) same whole.1.each in
          none m (bytes_of more ++ text_of_end (length blocks)) (is_whole told m more each) (is_more ∙ append_assoc m.bytes (bytes_of more) (text_of_end (length blocks)))

-- the block that came next was told
pub fed_next : (start left : Option (List ℕ)) (told : List RawBlock) (feed : RawFeed) (found : FirstBlock) (unread : Unread) (count lines : ℕ) → IsRawHead start left told feed → feed.next ≡ Some found →
    rest_of unread ≡ drop found.taken (rest_of feed.unread) → count ≡ feed.told + 1 →
    IsRawFed start left (told ++ raw_of (rest_of feed.unread) found ∷ []) (record { unread = unread; next = None; profile = feed.profile; last = Some found.name; told = count; lines = lines })
fed_next start left told feed found unread count lines head some behind more =
    let b = raw_of (rest_of feed.unread) found in
    let comes : IsFirst (rest_of feed.unread) found × RawNamesRise (told ++ b ∷ []) = subst (ComesNext left told (rest_of feed.unread)) some head.next in
    record {
      front = head.fed.front ++ b.bytes;
      begins = front_push feed.profile told b head.fed.front head.fed.begins comes.0.1 comes.1;
      read = subst (Consumes start left)
          (ap (λ xs. head.fed.front ++ xs) (sym (take-append-drop found.taken (rest_of feed.unread))) ∙ sym (append_assoc head.fed.front b.bytes (drop found.taken (rest_of feed.unread)))
          ∙ ap (λ xs. (head.fed.front ++ b.bytes) ++ xs) (sym behind)) head.fed.read;
      count = more ∙ ap (λ n. n + 1) head.fed.count ∙ sym (length_push told b);
      last = (told, b, refl, refl);
    }

-- what doesn't begin with a first text line is no such text
version_short : (profile : Profile) (line : List ℕ) → IsVersion profile line → length (line ++ codes "\n") ≤ 17
version_short One line (inl is) = subst (λ v. length (v ++ codes "\n") ≤ 17) (sym is) (omega arith)
version_short One line (inr is) = subst (λ v. length (v ++ codes "\n") ≤ 17) (sym is) (omega arith)
version_short Two line (inl is) = subst (λ v. length (v ++ codes "\n") ≤ 17) (sym is) (omega arith)
version_short Two line (inr is) = subst (λ v. length (v ++ codes "\n") ≤ 17) (sym is) (omega arith)

pub no_text_begins : (start left : Option (List ℕ)) (rest : List ℕ) → Consumes start left rest → HasNoVersion rest → (16384 ≤ length rest) ⊎ IsAtEnd left → IsNoRawText start
no_text_begins start left rest read none filled text profile blocks is (front, begins, ended) = by left refl
  where
    text_is : text ≡ (begins.version ++ codes "\n") ++ (bytes_of blocks ++ text_of_end (length blocks))
    text_is = ended ∙ ap (λ xs. xs ++ text_of_end (length blocks)) begins.front_is ∙ append_assoc (begins.version ++ codes "\n") (bytes_of blocks) (text_of_end (length blocks))

    by : (l : Option (List ℕ)) → left ≡ l → ⊥
    by None gone = subst (λ s. Consumes s None rest) is (subst (λ l. Consumes start l rest) gone read)
    by (Some behind) some =
        let all : text ≡ rest ++ behind = subst (λ s. Consumes s (Some behind) rest) is (subst (λ l. Consumes start l rest) some read) in
        elim filled [
          | inl long ↦
              let short = version_short profile begins.version begins.versioned in
              let front_is : take (length (begins.version ++ codes "\n")) rest ≡ (begins.version ++ codes "\n") =
              sym (take-append-le (length (begins.version ++ codes "\n")) rest behind (omega (arith, long, short))) ∙ ap (λ xs. take (length (begins.version ++ codes "\n")) xs) (sym all ∙ text_is) ∙ take_at (begins.version ++ codes "\n") (bytes_of blocks ++ text_of_end (length blocks)) (length (begins.version ++ codes "\n")) refl in
              none profile begins.version (drop (length (begins.version ++ codes "\n")) rest) begins.versioned (sym (take-append-drop (length (begins.version ++ codes "\n")) rest) ∙ ap (λ xs. xs ++ drop (length (begins.version ++ codes "\n")) rest) front_is)
          | inr at_end ↦
              let empty : behind ≡ [] = subst IsAtEnd some at_end in
              none profile begins.version (bytes_of blocks ++ text_of_end (length blocks)) begins.versioned (sym (append-nil rest) ∙ ap (λ xs. rest ++ xs) (sym empty) ∙ sym all ∙ text_is)
        ]

-- a name that comes not before another
pub not_less : (o : Ordering) (a b : Name) → (o ≡ Less → ⊥) → (o ≡ Equal → a ≡ b) → (o ≡ Greater → IsBefore b a) → IsBefore a b → ⊥
not_less Less a b less equal greater before = less refl
not_less Equal a b less equal greater before = before-itself b (subst (λ n. IsBefore n b) (equal refl) before)
not_less Greater a b less equal greater before = before-itself a (before-trans a b a before (greater refl))
