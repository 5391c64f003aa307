-- Texts that are read side by side, up to their heads: one goes on, one is added, and all are over.
use Rattle.std.proofs.{Common.{◌≡◌, ◌⊎◌, ℕ, ◌+◌, ◌<◌, ◌≤◌, ◌==◌, List, [], ◌∷◌, ◌++◌, length, set, get_or, Option, Some, None, All, Contains, refl, sym, ◌∙◌, ap, subst, arith, inl, inr, if◌then◌else◌}, lemmas.Bool.{cases_order, ne_eqb}, lemmas.Bool.Decides.{Decides-eqb}, lemmas.List.{get_or_append_left, get_or_push, get_or-set_same, get_or-set_other, length-set, length_push}, lemmas.List.Elements.{All-contains, Contains-append_left, Contains-get_or, Contains-push, Contains-push_cases}}
use Rattle.pmf_event.specs.{declared.name.Name.{Name}, declared.profile.Profile.{Profile}, Section.{Trace}}
use Rattle.pmf_verdict.specs.Checked.{Checked, checked_by}
use Rattle.pmf_ledger.{specs.BlockReading.{GivesBlock, NamesRise}, specs.Loading.{Reading, unread}, specs.Names.{IsBefore}, proofs.lemmas.MergingLemmas.{AllPairs-last, none_of_empty}, proofs.lemmas.NameLemmas.{before-trans}}
use Rattle.pmf_merge.specs.{Feeding.{IsFed, IsFedWhole}, Heads.{HasTold, IsMerging, IsUpTo}, declared.feed.Feed.{Feed}}

-- a function with another value at one place
abbrev pub put : {X : Type 0} → ℕ → X → (ℕ → X) → ℕ → X
put i x f j = if j == i then x else f j

pub put_here : {X : Type 0} (i : ℕ) (x : X) (f : ℕ → X) (j : ℕ) → j ≡ i → put i x f j ≡ x
put_here i x f j same = rw ((Decides-eqb j i).1 same) refl

pub put_other : {X : Type 0} (i : ℕ) (x : X) (f : ℕ → X) (j : ℕ) → (j ≡ i → ⊥) → put i x f j ≡ f j
put_other i x f j other = rw (ne_eqb j i other) refl

-- a place is this one or another
pub here_or : (j i : ℕ) → (j ≡ i) ⊎ (j ≡ i → ⊥)
here_or j i = elim (cases_order j i) [ inl same ↦ inl same | inr aside ↦ inr (λ same. elim aside [ inl less ↦ let l = less in omega (arith, l, same) | inr more ↦ let m = more in omega (arith, m, same) ]) ]

-- up to a name before another is before it
pub before_upto : (a b d : Name) → IsUpTo a b → IsBefore b d → IsBefore a d
before_upto a b d (inl same) before = subst (λ n. IsBefore n d) (sym same) before
before_upto a b d (inr less) before = before-trans a b d less before

-- what holds of each element holds of all
pub all_of : {X : Type 0} (P : X → Type 0) (xs : List X) → ((x : X) → Contains xs x → P x) → All P xs
all_of P xs each = λ k d inside. each (get_or xs k d) (Contains-get_or xs k d inside)

-- the text whose head was told goes on
module _ (n : ℕ) (starts lefts : List (Option (List ℕ))) (feeds : List Feed) (heads : List (Option Checked)) (profile : Profile) (out new : List Checked)
    (m : IsMerging n starts lefts feeds heads profile out) (i : ℕ) (v : Checked) (inside : i < n) (at : get_or heads i None ≡ Some v)
    (least : (j : ℕ) (w : Checked) → get_or heads j None ≡ Some w → IsUpTo v.section.name w.section.name) (has : HasTold out v new)
    (feed : Feed) (left : Option (List ℕ)) (more : List ℕ) (e : Reading) (given : Option Checked)
    (fed : IsFed (get_or starts i None) left feed (m.texts i ++ more) e) (gives : GivesBlock (m.readings i) e given)
    (over : given ≡ None → IsFedWhole (get_or starts i None) left (m.texts i ++ more) e) (by : e.profile ≡ profile) (enough : n ≤ length lefts) where
  abbrev texts : ℕ → List ℕ
  texts = put i (m.texts i ++ more) m.texts

  abbrev readings : ℕ → Reading
  readings = put i e m.readings

  -- what was told before is told
  told_before : (c : Checked) → Contains out c → Contains new c
  told_before c found = (has.members c).1 (inl found)

  told_now : Contains new v
  told_now = (has.members v).1 (inr refl)

  -- the blocks from before are in the reading, and a new one is its head
  blocks_stay : (s : Trace) → Contains (m.readings i).blocks s → Contains e.blocks s
  blocks_stay s found = by_given given gives
    where
      by_given : (g : Option Checked) → GivesBlock (m.readings i) e g → Contains e.blocks s
      by_given None is = subst (λ ss. Contains ss s) (sym is) found
      by_given (Some w) (is, _) = subst (λ ss. Contains ss s) (sym is) (Contains-append_left (m.readings i).blocks (w.section ∷ []) s found)

  head_new : (w : Checked) → given ≡ Some w → Contains e.blocks w.section × (w.profile ≡ profile)
  head_new w is =
      let block = subst (GivesBlock (m.readings i) e) is gives in
      (subst (λ ss. Contains ss w.section) (sym block.0) (Contains-push (m.readings i).blocks w.section), block.1 ∙ by)

  told_here : (s : Trace) → Contains e.blocks s → Contains new (checked_by profile s) ⊎ (given ≡ Some (checked_by profile s))
  told_here s found = by_given given gives refl
    where
      earlier : Contains (m.readings i).blocks s → Contains new (checked_by profile s)
      earlier inside_r = elim (m.told i s inside inside_r) [
        | inl done ↦ told_before (checked_by profile s) done
        | inr waits ↦ let same : Some v ≡ Some (checked_by profile s) = sym at ∙ waits in let is : v ≡ checked_by profile s = cc in subst (Contains new) is told_now
      ]

      by_given : (g : Option Checked) → GivesBlock (m.readings i) e g → g ≡ given → Contains new (checked_by profile s) ⊎ (given ≡ Some (checked_by profile s))
      by_given None is same = inl (earlier (subst (λ ss. Contains ss s) is found))
      by_given (Some w) (is, own) same = elim (Contains-push_cases (m.readings i).blocks w.section s (subst (λ ss. Contains ss s) is found)) [
        | inl before ↦ inl (earlier before)
        | inr here ↦ inr (sym same ∙ ap (λ c. Some c) (ap (λ p. checked_by p w.section) (own ∙ by) ∙ ap (checked_by profile) here))
      ]

  -- the new head comes after all that was told
  after_new : (w c : Checked) → given ≡ Some w → Contains new c → IsUpTo c.section.name w.section.name
  after_new w c is found =
      let block = subst (GivesBlock (m.readings i) e) is gives in
      let rises : NamesRise ((m.readings i).blocks ++ w.section ∷ []) = subst NamesRise block.0 fed.taken.lines.rises in
      let before : IsBefore v.section.name w.section.name =
      AllPairs-last (λ (s : Trace) (t : Trace). IsBefore s.name t.name) (m.readings i).blocks w.section rises v.section (m.head i v inside at).0 in
      elim ((has.members c).0 found) [
        | inl earlier ↦ inr (before_upto c.section.name v.section.name w.section.name (m.after i v c inside at earlier) before)
        | inr same ↦ inr (subst (λ (d : Checked). IsBefore d.section.name w.section.name) (sym same) before)
      ]

  head_here : get_or (set heads i given) i None ≡ given
  head_here = let long = m.heads_are in get_or-set_same heads i given None (omega (arith, inside, long))

  head_there : (j : ℕ) → (j ≡ i → ⊥) → get_or (set heads i given) j None ≡ get_or heads j None
  head_there j other = get_or-set_other heads i j given None other

  pub advanced : IsMerging n starts (set lefts i left) (set feeds i feed) (set heads i given) profile new
  advanced = record {
    texts = texts;
    readings = readings;
    feeds_are = length-set feeds i feed ∙ m.feeds_are;
    heads_are = length-set heads i given ∙ m.heads_are;
    fed = λ j d within. elim (here_or j i) [
      | inl same ↦
          let long = m.feeds_are in
          rw (same, put_here i (m.texts i ++ more) m.texts i refl, put_here i e m.readings i refl, get_or-set_same lefts i left None (omega (arith, inside, enough)), get_or-set_same feeds i feed d (omega (arith, inside, long))) fed
      | inr other ↦
          rw (put_other i (m.texts i ++ more) m.texts j other, put_other i e m.readings j other, get_or-set_other lefts i j left None other, get_or-set_other feeds i j feed d other)
          (m.fed j d within)
    ];
    by_one = λ j within. elim (here_or j i) [
      | inl same ↦ ap (λ (r : Reading). r.profile) (put_here i e m.readings j same) ∙ by
      | inr other ↦ ap (λ (r : Reading). r.profile) (put_other i e m.readings j other) ∙ m.by_one j within
    ];
    over = λ j within none. elim (here_or j i) [
      | inl same ↦
          let no_head : given ≡ None = sym head_here ∙ ap (λ k. get_or (set heads i given) k None) (sym same) ∙ none in
          rw (same, put_here i (m.texts i ++ more) m.texts i refl, put_here i e m.readings i refl, get_or-set_same lefts i left None (omega (arith, inside, enough))) (over no_head)
      | inr other ↦
          rw (put_other i (m.texts i ++ more) m.texts j other, put_other i e m.readings j other, get_or-set_other lefts i j left None other)
          (m.over j within (sym (head_there j other) ∙ none))
    ];
    head = λ j w within is. elim (here_or j i) [
      | inl same ↦
          let here : given ≡ Some w = sym head_here ∙ ap (λ k. get_or (set heads i given) k None) (sym same) ∙ is in
          subst (λ (r : Reading). Contains r.blocks w.section × (w.profile ≡ profile)) (sym (put_here i e m.readings j same)) (head_new w here)
      | inr other ↦
          subst (λ (r : Reading). Contains r.blocks w.section × (w.profile ≡ profile)) (sym (put_other i e m.readings j other)) (m.head j w within (sym (head_there j other) ∙ is))
    ];
    told = λ j s within found. elim (here_or j i) [
      | inl same ↦ elim (told_here s (subst (λ (r : Reading). Contains r.blocks s) (put_here i e m.readings j same) found)) [
        | inl done ↦ inl done
        | inr waits ↦ inr (ap (λ k. get_or (set heads i given) k None) same ∙ head_here ∙ waits)
      ]
      | inr other ↦ elim (m.told j s within (subst (λ (r : Reading). Contains r.blocks s) (put_other i e m.readings j other) found)) [
        | inl done ↦ inl (told_before (checked_by profile s) done)
        | inr waits ↦ inr (head_there j other ∙ waits)
      ]
    ];
    from = λ c found. elim ((has.members c).0 found) [
      | inl earlier ↦
          let origin = m.from c earlier in (
            origin.0,
            origin.1,
            elim (here_or origin.0 i) [
              | inl same ↦
                  subst (λ (r : Reading). Contains r.blocks c.section) (sym (put_here i e m.readings origin.0 same))
                  (blocks_stay c.section (subst (λ k. Contains (m.readings k).blocks c.section) same origin.2))
              | inr other ↦ subst (λ (r : Reading). Contains r.blocks c.section) (sym (put_other i e m.readings origin.0 other)) origin.2
            ],
          )
      | inr same ↦ (
        i,
        inside,
        subst (λ (r : Reading). Contains r.blocks c.section) (sym (put_here i e m.readings i refl))
            (blocks_stay c.section (subst (λ (d : Checked). Contains (m.readings i).blocks d.section) (sym same) (m.head i v inside at).0)),
      )
    ];
    after = λ j w c within is found. elim (here_or j i) [
      | inl same ↦ after_new w c (sym head_here ∙ ap (λ k. get_or (set heads i given) k None) (sym same) ∙ is) found
      | inr other ↦
          let there = sym (head_there j other) ∙ is in
          elim ((has.members c).0 found) [
            | inl earlier ↦ m.after j w c within there earlier
            | inr is_v ↦ subst (λ (d : Checked). IsUpTo d.section.name w.section.name) (sym is_v) (least j w there)
          ]
    ];
    rises = has.rises;
    checked = all_of (λ (c : Checked). c.profile ≡ profile) new (λ c found. elim ((has.members c).0 found) [
      | inl earlier ↦ All-contains (λ (d : Checked). d.profile ≡ profile) out c m.checked earlier
      | inr same ↦ ap (λ (d : Checked). d.profile) same ∙ (m.head i v inside at).1
    ]);
  }

-- how far the text of this index was read
pub fed_at : (n : ℕ) (starts lefts : List (Option (List ℕ))) (feeds : List Feed) (heads : List (Option Checked)) (profile : Profile) (out : List Checked)
    (m : IsMerging n starts lefts feeds heads profile out) (i : ℕ) → i < n → (feed : Feed) (left : Option (List ℕ)) → feed ≡ get_or feeds i feed → get_or lefts i None ≡ left →
    IsFed (get_or starts i None) left feed (m.texts i) (m.readings i)
fed_at n starts lefts feeds heads profile out m i inside feed left is at = rw (sym at, is) (m.fed i feed inside)

-- a text is added, read up to its head
module _ (n : ℕ) (starts lefts : List (Option (List ℕ))) (feeds : List Feed) (heads : List (Option Checked)) (before profile : Profile)
    (m : IsMerging n starts lefts feeds heads before []) (same_by : 0 < n → before ≡ profile) (inside : n < length lefts)
    (feed : Feed) (left : Option (List ℕ)) (text : List ℕ) (e : Reading) (given : Option Checked)
    (fed : IsFed (get_or starts n None) left feed text e) (gives : GivesBlock unread e given)
    (over : given ≡ None → IsFedWhole (get_or starts n None) left text e) (by : e.profile ≡ profile) where
  abbrev added_texts : ℕ → List ℕ
  added_texts = put n text m.texts

  abbrev added_readings : ℕ → Reading
  added_readings = put n e m.readings

  older : (j : ℕ) → j < n + 1 → (j ≡ n → ⊥) → j < n
  older j within other = elim (cases_order j n) [ inl same ↦ absurd (other same) | inr aside ↦ elim aside [ inl less ↦ less | inr greater ↦ absurd (omega (arith, within, greater)) ] ]

  feed_here : (d : Feed) → get_or (feeds ++ feed ∷ []) n d ≡ feed
  feed_here d = get_or_push feeds feed d n m.feeds_are

  head_added : get_or (heads ++ given ∷ []) n None ≡ given
  head_added = get_or_push heads given None n m.heads_are

  feed_there : (j : ℕ) (d : Feed) → j < n → get_or (feeds ++ feed ∷ []) j d ≡ get_or feeds j d
  feed_there j d less = let long = m.feeds_are in get_or_append_left feeds (feed ∷ []) d j (omega (arith, less, long))

  head_older : (j : ℕ) → j < n → get_or (heads ++ given ∷ []) j None ≡ get_or heads j None
  head_older j less = let long = m.heads_are in get_or_append_left heads (given ∷ []) None j (omega (arith, less, long))

  left_there : (j : ℕ) → (j ≡ n → ⊥) → get_or (set lefts n left) j None ≡ get_or lefts j None
  left_there j other = get_or-set_other lefts n j left None other

  first_block : (s : Trace) → Contains e.blocks s → given ≡ Some (checked_by profile s)
  first_block s found = by_given given gives refl
    where
      by_given : (g : Option Checked) → GivesBlock unread e g → g ≡ given → given ≡ Some (checked_by profile s)
      by_given None is same = absurd (none_of_empty [] s refl (subst (λ ss. Contains ss s) is found))
      by_given (Some w) (is, own) same = elim (Contains-push_cases [] w.section s (subst (λ ss. Contains ss s) is found)) [
        | inl none ↦ absurd (none_of_empty [] s refl none)
        | inr here ↦ sym same ∙ ap (λ c. Some c) (ap (λ p. checked_by p w.section) (own ∙ by) ∙ ap (checked_by profile) here)
      ]

  pub added : IsMerging (n + 1) starts (set lefts n left) (feeds ++ feed ∷ []) (heads ++ given ∷ []) profile []
  added = record {
    texts = added_texts;
    readings = added_readings;
    feeds_are = length_push feeds feed ∙ ap (λ k. k + 1) m.feeds_are;
    heads_are = length_push heads given ∙ ap (λ k. k + 1) m.heads_are;
    fed = λ j d within. elim (here_or j n) [
      | inl same ↦ rw (same, put_here n text m.texts n refl, put_here n e m.readings n refl, get_or-set_same lefts n left None inside, feed_here d) fed
      | inr other ↦
          let less = older j within other in
          rw (put_other n text m.texts j other, put_other n e m.readings j other, left_there j other, feed_there j d less) (m.fed j d less)
    ];
    by_one = λ j within. elim (here_or j n) [
      | inl same ↦ ap (λ (r : Reading). r.profile) (put_here n e m.readings j same) ∙ by
      | inr other ↦
          let less = older j within other in
          ap (λ (r : Reading). r.profile) (put_other n e m.readings j other) ∙ m.by_one j less ∙ same_by (omega (arith, less))
    ];
    over = λ j within none. elim (here_or j n) [
      | inl same ↦
          let no_head : given ≡ None = sym head_added ∙ ap (λ k. get_or (heads ++ given ∷ []) k None) (sym same) ∙ none in
          rw (same, put_here n text m.texts n refl, put_here n e m.readings n refl, get_or-set_same lefts n left None inside) (over no_head)
      | inr other ↦
          let less = older j within other in
          rw (put_other n text m.texts j other, put_other n e m.readings j other, left_there j other) (m.over j less (sym (head_older j less) ∙ none))
    ];
    head = λ j w within is. elim (here_or j n) [
      | inl same ↦
          let here : given ≡ Some w = sym head_added ∙ ap (λ k. get_or (heads ++ given ∷ []) k None) (sym same) ∙ is in
          let block = subst (GivesBlock unread e) here gives in
          subst (λ (r : Reading). Contains r.blocks w.section × (w.profile ≡ profile)) (sym (put_here n e m.readings j same))
          (subst (λ ss. Contains ss w.section) (sym block.0) (Contains-push [] w.section), block.1 ∙ by)
      | inr other ↦
          let less = older j within other in let had = m.head j w less (sym (head_older j less) ∙ is) in
          subst (λ (r : Reading). Contains r.blocks w.section × (w.profile ≡ profile)) (sym (put_other n e m.readings j other)) (had.0, had.1 ∙ same_by (omega (arith, less)))
    ];
    told = λ j s within found. elim (here_or j n) [
      | inl same ↦
          inr (ap (λ k. get_or (heads ++ given ∷ []) k None) same ∙ head_added ∙ first_block s (subst (λ (r : Reading). Contains r.blocks s) (put_here n e m.readings j same) found))
      | inr other ↦
          let less = older j within other in
          elim (m.told j s less (subst (λ (r : Reading). Contains r.blocks s) (put_other n e m.readings j other) found)) [
            | inl done ↦ absurd (none_of_empty [] (checked_by before s) refl done)
            | inr waits ↦ inr (head_older j less ∙ waits ∙ ap (λ p. Some (checked_by p s)) (same_by (omega (arith, less))))
          ]
    ];
    from = λ c found. absurd (none_of_empty [] c refl found);
    after = λ j w c within is found. absurd (none_of_empty [] c refl found);
    rises = m.rises;
    checked = λ k d below. absurd (omega (arith, below));
  }

-- no text yet
pub none_merging : (starts lefts : List (Option (List ℕ))) (feeds : List Feed) (heads : List (Option Checked)) (profile : Profile) → feeds ≡ [] → heads ≡ [] →
    IsMerging 0 starts lefts feeds heads profile []
none_merging starts lefts feeds heads profile no_feed no_head = record {
  texts = λ j. [];
  readings = λ j. unread;
  feeds_are = ap (λ (fs : List Feed). length fs) no_feed;
  heads_are = ap (λ (hs : List (Option Checked)). length hs) no_head;
  fed = λ j d within. absurd (omega (arith, within));
  by_one = λ j within. absurd (omega (arith, within));
  over = λ j within. absurd (omega (arith, within));
  head = λ j w within. absurd (omega (arith, within));
  told = λ j s within. absurd (omega (arith, within));
  from = λ c found. absurd (none_of_empty [] c refl found);
  after = λ j w c within. absurd (omega (arith, within));
  rises = λ a b d less below. absurd (omega (arith, less, below));
  checked = λ k d below. absurd (omega (arith, below));
}
