-- Texts that are merged as they stand: one goes on, one is added, and all are over.
use Rattle.std.{proofs.{Common.{◌≡◌, ◌⊎◌, ◌↔◌, ◌||◌, Bool, true, false, ℕ, suc, ◌+◌, ◌<◌, ◌≤◌, List, [], ◌∷◌, ◌++◌, length, map, set, get_or, codes, option_map, drop, append-nil, MatchOption, Option, Some, None, Contains, refl, sym, ◌∙◌, ap, subst, arith, inl, inr, append_assoc}, lemmas.Bool.{cases_order, or_cases, or_right}, lemmas.List.{get_or-map, get_or_append_left, get_or_push, get_or-set_same, get_or-set_other, length-map, length-set, length_push, map-set, take-append-drop}, lemmas.List.Elements.{All-nil, Contains-append_left, Contains-push, Contains-push_cases}}, specs.Io.KnownBytes.{Consumes, IsAtEnd}}
use Rattle.pmf_event.specs.{declared.profile.Profile.{Profile}}
use Rattle.pmf_ledger.{specs.declared.raw_text.FirstBlock.{FirstBlock}, specs.LedgerText.{text_of_end}, specs.Names.{IsBefore}, specs.RawText.{IsRawFront, IsRawText, IsWhole, RawBlock, RawNamesRise, bytes_of, raw_of, tells_fail}, proofs.lemmas.MergingLemmas.{AllPairs-last, none_of_empty}}
use Rattle.pmf_merge.{specs.{Heads.{IsUpTo}, Merging.{IsAllOf}, RawFeeding.{ComesNext, IsNoRawText, IsRawFault, IsRawHead, head_in, rest_of}, RawWritten.{AddsRaw, IsRawTellFault}, Trusting.{AnyTellsFail, AreBlocksOf, AreRawTexts, BeginsRaw, IsLeastRaw, IsTrustFaultOf, IsTrusting, heads_of, raw_names_of}, declared.fault.MergeFault.{MergeFault}, declared.raw_feed.RawFeed.{RawFeed}}, proofs.lemmas.HeadsLemmas.{before_upto, here_or, put, put_here, put_other}, proofs.lemmas.OverLemmas.{all_read, in_each, list_of, of_each}, proofs.lemmas.NamesLemmas.{name_at}, proofs.lemmas.RawFeedLemmas.{front_push}}
use Rattle.pmf_merge.specs.declared.fault.MergeFault.TheVariants as fault

-- the block of this index that comes next
pub head_at : (feeds : List RawFeed) (i : ℕ) (d : RawFeed) → i < length feeds → get_or (heads_of feeds) i None ≡ head_in (get_or feeds i d)
head_at feeds i d inside = get_or-map head_in feeds i d None inside

-- it is whole, and its name comes after those that were told
head_rises : (left : Option (List ℕ)) (told : List RawBlock) (rest : List ℕ) (next : Option FirstBlock) (w : RawBlock) → ComesNext left told rest next → option_map (raw_of rest) next ≡ Some w →
    IsWhole w × RawNamesRise (told ++ w ∷ [])
head_rises left told rest None w comes is = let wrong : None ≡ Some w = is in cc
head_rises left told rest (Some found) w (first, rises) is =
    let both : Some (raw_of rest found) ≡ Some w = is in let same : raw_of rest found ≡ w = cc in subst (λ b. IsWhole b × RawNamesRise (told ++ b ∷ [])) same (first.1, rises)

-- where none comes next, the text is over
head_over : (left : Option (List ℕ)) (told : List RawBlock) (rest : List ℕ) (next : Option FirstBlock) → ComesNext left told rest next → option_map (raw_of rest) next ≡ None → IsAtEnd left × (rest ≡ text_of_end (length told))
head_over left told rest None comes is = comes
head_over left told rest (Some found) comes is = let wrong : Some (raw_of rest found) ≡ None = is in cc

-- the text whose block was told goes on
module _ (n : ℕ) (starts lefts : List (Option (List ℕ))) (feeds : List RawFeed) (profile : Profile) (out new : List RawBlock) (m : IsTrusting n starts lefts feeds profile out)
    (i : ℕ) (v : RawBlock) (inside : i < n) (least : IsLeastRaw feeds i v) (has : AddsRaw out v new) (feed : RawFeed) (left : Option (List ℕ))
    (headed : IsRawHead (get_or starts i None) left (m.told i ++ v ∷ []) feed) (by : feed.profile ≡ profile) (enough : n ≤ length lefts) where
  abbrev told : ℕ → List RawBlock
  told = put i (m.told i ++ v ∷ []) m.told

  heads_now : heads_of (set feeds i feed) ≡ set (heads_of feeds) i (head_in feed)
  heads_now = map-set head_in feeds i feed

  head_here : get_or (heads_of (set feeds i feed)) i None ≡ head_in feed
  head_here = let long = m.feeds_are in ap (λ hs. get_or hs i None) heads_now ∙ get_or-set_same (heads_of feeds) i (head_in feed) None (let all = length-map feeds head_in in omega (arith, inside, long, all))

  head_there : (j : ℕ) → (j ≡ i → ⊥) → get_or (heads_of (set feeds i feed)) j None ≡ get_or (heads_of feeds) j None
  head_there j other = ap (λ hs. get_or hs j None) heads_now ∙ get_or-set_other (heads_of feeds) i j (head_in feed) None other

  told_on : (j : ℕ) (b : RawBlock) → Contains (m.told j) b → Contains (told j) b
  told_on j b found = elim (here_or j i) [
    | inl same ↦ subst (λ bs. Contains bs b) (sym (put_here i (m.told i ++ v ∷ []) m.told j same)) (Contains-append_left (m.told i) (v ∷ []) b (subst (λ k. Contains (m.told k) b) same found))
    | inr other ↦ subst (λ bs. Contains bs b) (sym (put_other i (m.told i ++ v ∷ []) m.told j other)) found
  ]

  after_new : (w c : RawBlock) → head_in feed ≡ Some w → Contains new c → IsUpTo c.name w.name
  after_new w c is found =
      let rises = (head_rises left (m.told i ++ v ∷ []) (rest_of feed.unread) feed.next w headed.next is).1 in
      let before : IsBefore v.name w.name = AllPairs-last (λ (x : RawBlock) (y : RawBlock). IsBefore x.name y.name) (m.told i ++ v ∷ []) w rises v (Contains-push (m.told i) v) in
      elim ((has.members c).0 found) [
        | inl earlier ↦ inr (before_upto c.name v.name w.name (m.after i v c inside least.0 earlier) before)
        | inr same ↦ inr (subst (λ (d : RawBlock). IsBefore d.name w.name) (sym same) before)
      ]

  pub raw_advanced : IsTrusting n starts (set lefts i left) (set feeds i feed) profile new
  raw_advanced = record {
    told = told;
    feeds_are = length-set feeds i feed ∙ m.feeds_are;
    heads = λ j d within. elim (here_or j i) [
      | inl same ↦
          let long = m.feeds_are in
          rw (same, put_here i (m.told i ++ v ∷ []) m.told i refl, get_or-set_same lefts i left None (omega (arith, inside, enough)), get_or-set_same feeds i feed d (omega (arith, inside, long))) headed
      | inr other ↦ rw (put_other i (m.told i ++ v ∷ []) m.told j other, get_or-set_other lefts i j left None other, get_or-set_other feeds i j feed d other) (m.heads j d within)
    ];
    by_one = λ j d within. elim (here_or j i) [
      | inl same ↦ let long = m.feeds_are in rw (same, get_or-set_same feeds i feed d (omega (arith, inside, long))) by
      | inr other ↦ rw (get_or-set_other feeds i j feed d other) (m.by_one j d within)
    ];
    members = λ b. (
      λ found. elim ((has.members b).0 found) [
        | inl earlier ↦ let origin = (m.members b).0 earlier in (origin.0, origin.1, told_on origin.0 b origin.2)
        | inr same ↦ (i, inside, subst (λ bs. Contains bs b) (sym (put_here i (m.told i ++ v ∷ []) m.told i refl)) (subst (Contains (m.told i ++ v ∷ [])) (sym same) (Contains-push (m.told i) v)))
      ],
      λ (j, within, found). elim (here_or j i) [
        | inl same ↦ elim (Contains-push_cases (m.told i) v b (subst (λ bs. Contains bs b) (put_here i (m.told i ++ v ∷ []) m.told j same) found)) [
          | inl earlier ↦ (has.members b).1 (inl ((m.members b).1 (i, inside, earlier)))
          | inr here ↦ (has.members b).1 (inr (sym here))
        ]
        | inr other ↦ (has.members b).1 (inl ((m.members b).1 (j, within, subst (λ bs. Contains bs b) (put_other i (m.told i ++ v ∷ []) m.told j other) found)))
      ],
    );
    after = λ j w c within is found. elim (here_or j i) [
      | inl same ↦ after_new w c (sym head_here ∙ ap (λ k. get_or (heads_of (set feeds i feed)) k None) (sym same) ∙ is) found
      | inr other ↦
          let there = sym (head_there j other) ∙ is in
          elim ((has.members c).0 found) [
            | inl earlier ↦ m.after j w c within there earlier
            | inr is_v ↦ subst (λ (d : RawBlock). IsUpTo d.name w.name) (sym is_v) (least.1 j w there)
          ]
    ];
    rises = has.rises;
  }

-- a text is added, read up to its first block
module _ (n : ℕ) (starts lefts : List (Option (List ℕ))) (feeds : List RawFeed) (before profile : Profile) (m : IsTrusting n starts lefts feeds before []) (same_by : 0 < n → before ≡ profile)
    (inside : n < length lefts) (feed : RawFeed) (left : Option (List ℕ)) (headed : IsRawHead (get_or starts n None) left [] feed) (by : feed.profile ≡ profile) where
  older : (j : ℕ) → j < n + 1 → (j ≡ n → ⊥) → j < n
  older j within other = elim (cases_order j n) [ inl same ↦ absurd (other same) | inr aside ↦ elim aside [ inl less ↦ less | inr greater ↦ absurd (omega (arith, within, greater)) ] ]

  there : (j : ℕ) (d : RawFeed) → j < n → get_or (feeds ++ feed ∷ []) j d ≡ get_or feeds j d
  there j d less = let long = m.feeds_are in get_or_append_left feeds (feed ∷ []) d j (omega (arith, less, long))

  none_told : (b : RawBlock) (j : ℕ) → j < n + 1 → Contains (put n [] m.told j) b → ⊥
  none_told b j within found = elim (here_or j n) [
    | inl same ↦ none_of_empty [] b refl (subst (λ bs. Contains bs b) (put_here n [] m.told j same) found)
    | inr other ↦ none_of_empty [] b refl ((m.members b).1 (j, older j within other, subst (λ bs. Contains bs b) (put_other n [] m.told j other) found))
  ]

  pub raw_added : IsTrusting (n + 1) starts (set lefts n left) (feeds ++ feed ∷ []) profile []
  raw_added = record {
    told = put n [] m.told;
    feeds_are = length_push feeds feed ∙ ap (λ k. k + 1) m.feeds_are;
    heads = λ j d within. elim (here_or j n) [
      | inl same ↦ rw (same, put_here n [] m.told n refl, get_or-set_same lefts n left None inside, get_or_push feeds feed d n m.feeds_are) headed
      | inr other ↦ let less = older j within other in rw (put_other n [] m.told j other, get_or-set_other lefts n j left None other, there j d less) (m.heads j d less)
    ];
    by_one = λ j d within. elim (here_or j n) [
      | inl same ↦ rw (same, get_or_push feeds feed d n m.feeds_are) by
      | inr other ↦ let less = older j within other in rw (there j d less) (m.by_one j d less ∙ same_by (omega (arith, less)))
    ];
    members = λ b. (λ found. absurd (none_of_empty [] b refl found), λ (j, within, found). absurd (none_told b j within found));
    after = λ j w c within is found. absurd (none_of_empty [] c refl found);
    rises = m.rises;
  }

-- no text yet
pub none_trusting : (starts lefts : List (Option (List ℕ))) (feeds : List RawFeed) (profile : Profile) → feeds ≡ [] → IsTrusting 0 starts lefts feeds profile []
none_trusting starts lefts feeds profile none = record {
  told = λ j. [];
  feeds_are = ap (λ (fs : List RawFeed). length fs) none;
  heads = λ j d within. absurd (omega (arith, within));
  by_one = λ j d within. absurd (omega (arith, within));
  members = λ b. (λ found. absurd (none_of_empty [] b refl found), λ (j, within, found). absurd (omega (arith, within)));
  after = λ j w c within. absurd (omega (arith, within));
  rises = λ a b d less below. absurd (omega (arith, less, below));
}

first_feed : (feeds : List RawFeed) → 0 < length feeds → RawFeed
first_feed [] some = absurd (omega (arith, some))
first_feed (feed ∷ feeds) some = feed

module _ (n : ℕ) (starts lefts : List (Option (List ℕ))) (feeds : List RawFeed) (profile : Profile) (out : List RawBlock) (m : IsTrusting n starts lefts feeds profile out) where
  some_feed : (i : ℕ) → i < n → RawFeed
  some_feed i below = let long = m.feeds_are in first_feed feeds (omega (arith, below, long))

  abbrev feed_at : (i : ℕ) → i < n → RawFeed
  feed_at i below = get_or feeds i (some_feed i below)

  fed_at : (i : ℕ) (below : i < n) → IsRawHead (get_or starts i None) (get_or lefts i None) (m.told i) (feed_at i below)
  fed_at i below = m.heads i (some_feed i below) below

  head_is : (i : ℕ) (below : i < n) → get_or (heads_of feeds) i None ≡ head_in (feed_at i below)
  head_is i below = let long = m.feeds_are in head_at feeds i (some_feed i below) (omega (arith, below, long))

  -- what was read of each begins with what was told
  pub begins_at : (i : ℕ) → i < n → BeginsRaw (get_or starts i None) profile (m.told i)
  begins_at i below =
      let fed = (fed_at i below).fed in
      (fed.front, rest_of (feed_at i below).unread, get_or lefts i None, subst (λ p. IsRawFront p (m.told i) fed.front) (m.by_one i (some_feed i below) below) fed.begins, fed.read)

  -- and with the block that comes next
  pub begins_next : (i : ℕ) (v : RawBlock) → i < n → get_or (heads_of feeds) i None ≡ Some v → BeginsRaw (get_or starts i None) profile (m.told i ++ v ∷ [])
  begins_next i v below is = by (feed_at i below).next refl
    where
      by : (next : Option FirstBlock) → (feed_at i below).next ≡ next → BeginsRaw (get_or starts i None) profile (m.told i ++ v ∷ [])
      by None none = let wrong : None ≡ Some v = sym (ap (option_map (raw_of (rest_of (feed_at i below).unread))) none) ∙ sym (head_is i below) ∙ is in cc
      by (Some found) some =
          let head = fed_at i below in let rest = rest_of (feed_at i below).unread in
          let both : Some (raw_of rest found) ≡ Some v = sym (ap (option_map (raw_of rest)) some) ∙ sym (head_is i below) ∙ is in let same : raw_of rest found ≡ v = cc in
          let comes = head_rises (get_or lefts i None) (m.told i) rest (feed_at i below).next v head.next (sym (head_is i below) ∙ is) in
          let bytes : rest ≡ v.bytes ++ drop found.taken rest = sym (take-append-drop found.taken rest) ∙ ap (λ (b : RawBlock). b.bytes ++ drop found.taken rest) same in (
            head.fed.front ++ v.bytes,
            drop found.taken rest,
            get_or lefts i None,
            subst (λ p. IsRawFront p (m.told i ++ v ∷ []) (head.fed.front ++ v.bytes)) (m.by_one i (some_feed i below) below) (front_push (feed_at i below).profile (m.told i) v head.fed.front head.fed.begins comes.0 comes.1),
            subst (Consumes (get_or starts i None) (get_or lefts i None)) (ap (λ xs. head.fed.front ++ xs) bytes ∙ sym (append_assoc head.fed.front v.bytes (drop found.taken rest))) head.fed.read,
          )

  -- where none comes next, each text was read whole
  module _ (none : (i : ℕ) → get_or (heads_of feeds) i None ≡ None) where
    pub whole_at : (i : ℕ) → i < n → (text : List ℕ) × IsAllOf (get_or starts i None) text × IsRawText profile (m.told i) text
    whole_at i below =
        let head = fed_at i below in let rest = rest_of (feed_at i below).unread in
        let over = head_over (get_or lefts i None) (m.told i) rest (feed_at i below).next head.next (sym (head_is i below) ∙ none i) in (
          head.fed.front ++ rest,
          all_read (get_or starts i None) (get_or lefts i None) (head.fed.front ++ rest) head.fed.read over.0,
          (
            head.fed.front,
            subst (λ p. IsRawFront p (m.told i) head.fed.front) (m.by_one i (some_feed i below) below) head.fed.begins,
            ap (λ xs. head.fed.front ++ xs) over.1,
          ),
        )

    pub are_blocks : AreBlocksOf (list_of m.told n) out
    are_blocks = record {
      rises = m.rises;
      same = λ b. (
        λ found. let origin = (m.members b).0 found in of_each (λ (blocks : List RawBlock). blocks) m.told n origin.0 b origin.1 origin.2,
        λ found. (m.members b).1 (in_each (λ (blocks : List RawBlock). blocks) m.told n b found),
      );
    }

pub each_raw : (profile : Profile) (starts : List (Option (List ℕ))) (told : ℕ → List RawBlock) →
    ((i : ℕ) → i < length starts → (text : List ℕ) × IsAllOf (get_or starts i None) text × IsRawText profile (told i) text) → AreRawTexts profile starts (list_of told (length starts))
each_raw profile [] told each = tt
each_raw profile (start ∷ starts) told each = (each 0 (omega arith), each_raw profile starts (λ j. told (suc j)) (λ i below. each (suc i) (omega (arith, below))))

-- one text's fault is one of the texts
pub of_raw_feed : (starts : List (Option (List ℕ))) (index : ℕ) (start : Option (List ℕ)) (found : MergeFault) → index < length starts → get_or starts index None ≡ start → IsRawFault start index found → IsTrustFaultOf starts found
of_raw_feed starts index start (fault.Read of) below same here = subst (λ i. i < length starts) (sym here) below
of_raw_feed starts index start (fault.Text of found) below same (here, is) = (subst (λ i. i < length starts) (sym here) below, subst IsNoRawText (sym same ∙ ap (λ i. get_or starts i None) (sym here)) is)
of_raw_feed starts index start (fault.ProfileMismatch of) below same is = absurd is
of_raw_feed starts index start (fault.Conflict name) below same is = absurd is
of_raw_feed starts index start (fault.Write written) below same is = absurd is
of_raw_feed starts index start fault.OutOfMemory below same is = tt

-- what was read tells the profile
pub begins_bare : (start : Option (List ℕ)) (profile : Profile) (blocks : List RawBlock) → BeginsRaw start profile blocks → BeginsRaw start profile []
begins_bare start profile blocks (front, rest, left, begins, read) = (
  begins.version ++ codes "\n",
  bytes_of blocks ++ rest,
  left,
  record { version = begins.version; versioned = begins.versioned; each = All-nil IsWhole; rises = λ i j d less inside. absurd (omega (arith, inside)); front_is = sym (append-nil (begins.version ++ codes "\n")) },
  subst (Consumes start left) (ap (λ xs. xs ++ rest) begins.front_is ∙ append_assoc (begins.version ++ codes "\n") (bytes_of blocks) rest) read,
)

-- what is not told is no fault of the texts, or a conflict of them
pub of_raw_tell : (starts lefts : List (Option (List ℕ))) (feeds : List RawFeed) (profile : Profile) (out : List RawBlock) (m : IsTrusting (length starts) starts lefts feeds profile out)
    (index : ℕ) (v : RawBlock) (found : MergeFault) → index < length starts → get_or (heads_of feeds) index None ≡ Some v → IsRawTellFault out v found → IsTrustFaultOf starts found
of_raw_tell starts lefts feeds profile out m index v (fault.Read of) below at is = absurd is
of_raw_tell starts lefts feeds profile out m index v (fault.Text of found) below at is = absurd is
of_raw_tell starts lefts feeds profile out m index v (fault.ProfileMismatch of) below at is = absurd is
of_raw_tell starts lefts feeds profile out m index v (fault.Conflict name) below at (l, told, l_named, v_named, differ) =
    let origin = (m.members l).0 told in (
      l,
      v,
      (origin.0, origin.1, profile, m.told origin.0, begins_at (length starts) starts lefts feeds profile out m origin.0 origin.1, origin.2),
      (index, below, profile, m.told index ++ v ∷ [], begins_next (length starts) starts lefts feeds profile out m index v below at, Contains-push (m.told index) v),
      l_named,
      v_named,
      differ,
    )
of_raw_tell starts lefts feeds profile out m index v (fault.Write written) below at is = tt
of_raw_tell starts lefts feeds profile out m index v fault.OutOfMemory below at is = tt

-- how far the text of this index was read
pub raw_fed_at : (n : ℕ) (starts lefts : List (Option (List ℕ))) (feeds : List RawFeed) (profile : Profile) (out : List RawBlock) (m : IsTrusting n starts lefts feeds profile out)
    (i : ℕ) → i < n → (feed : RawFeed) (left : Option (List ℕ)) → feed ≡ get_or feeds i feed → get_or lefts i None ≡ left → IsRawHead (get_or starts i None) left (m.told i) feed
raw_fed_at n starts lefts feeds profile out m i inside feed left is at = rw (sym at, is) (m.heads i feed inside)

-- the least block is that of a text
pub least_raw : (feeds : List RawFeed) (found : Option ℕ) →
    MatchOption found ((i : ℕ) → get_or (heads_of feeds) i None ≡ None) (λ least. (least < length (heads_of feeds)) × (v : RawBlock) × IsLeastRaw feeds least v) →
    MatchOption found ((i : ℕ) → get_or (heads_of feeds) i None ≡ None) (λ least. (least < length feeds) × (v : RawBlock) × IsLeastRaw feeds least v)
least_raw feeds None none = none
least_raw feeds (Some least) (inside, v, is) = (subst (λ k. least < k) (length-map feeds head_in) inside, v, is)

-- the names, where a feed is added or goes on
pub raw_names_push : (feeds : List RawFeed) (feed : RawFeed) → raw_names_of (feeds ++ feed ∷ []) ≡ raw_names_of feeds ++ option_map (λ (b : RawBlock). b.name) (head_in feed) ∷ []
raw_names_push [] feed = refl
raw_names_push (first ∷ feeds) feed = ap (λ ns. option_map (λ (b : RawBlock). b.name) (head_in first) ∷ ns) (raw_names_push feeds feed)

pub raw_names_set : (feeds : List RawFeed) (i : ℕ) (feed : RawFeed) → raw_names_of (set feeds i feed) ≡ set (raw_names_of feeds) i (option_map (λ (b : RawBlock). b.name) (head_in feed))
raw_names_set feeds i feed = ap (map (option_map (λ (b : RawBlock). b.name))) (map-set head_in feeds i feed) ∙ map-set (option_map (λ (b : RawBlock). b.name)) (heads_of feeds) i (head_in feed)

pub raw_names_length : (feeds : List RawFeed) → length (raw_names_of feeds) ≡ length feeds
raw_names_length feeds = length-map (heads_of feeds) (option_map (λ (b : RawBlock). b.name)) ∙ length-map feeds head_in

pub raw_name_at : (feeds : List RawFeed) (i : ℕ) (feed : RawFeed) → feed ≡ get_or feeds i feed → i < length feeds → get_or (raw_names_of feeds) i None ≡ option_map (λ (b : RawBlock). b.name) (head_in feed)
raw_name_at feeds i feed is inside = name_at (λ (b : RawBlock). b.name) (heads_of feeds) i ∙ ap (option_map (λ (b : RawBlock). b.name)) (head_at feeds i feed inside ∙ ap head_in (sym is))

-- what was read of one text begins with its first text line
pub raw_begins : (start left : Option (List ℕ)) (feed : RawFeed) → IsRawHead start left [] feed → BeginsRaw start feed.profile []
raw_begins start left feed head = (head.fed.front, rest_of feed.unread, left, head.fed.begins, head.fed.read)

-- the block that comes next in a feed of a text is the least one
pub head_of_feed : (feeds : List RawFeed) (index : ℕ) (v : RawBlock) (feed : RawFeed) → feed ≡ get_or feeds index feed → index < length feeds → get_or (heads_of feeds) index None ≡ Some v → head_in feed ≡ Some v
head_of_feed feeds index v feed is inside at = sym (head_at feeds index feed inside ∙ ap head_in (sym is)) ∙ at

-- ---- whether a block tells a fail

pub fails-none : (false ≡ true) ↔ AnyTellsFail []
fails-none = (λ is. cc, λ some. absurd (none_of_empty [] some.0 refl some.1))

-- with one more block, or one that is told again
pub fails-more : (out new : List RawBlock) (v : RawBlock) (old fails : Bool) → ((c : RawBlock) → Contains new c ↔ (Contains out c ⊎ (c ≡ v))) → ((old ≡ true) ↔ AnyTellsFail out) → fails ≡ (old || tells_fail v.bytes) →
    (fails ≡ true) ↔ AnyTellsFail new
fails-more out new v old fails members told is = (
  λ so. elim (or_cases old (tells_fail v.bytes) (sym is ∙ so)) [
    | inl before ↦ let b = told.0 before in (b.0, (members b.0).1 (inl b.1), b.2)
    | inr now ↦ (v, (members v).1 (inr refl), now)
  ],
  λ some. is ∙ elim ((members some.0).0 some.1) [
    | inl before ↦ ap (λ b. b || tells_fail v.bytes) (told.1 (some.0, before, some.2))
    | inr same ↦ ap (λ b. old || b) (ap (λ (w : RawBlock). tells_fail w.bytes) (sym same) ∙ some.2) ∙ or_right old true refl
  ],
)
