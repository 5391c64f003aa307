-- Ledgers that are to become one: of what set they are after one more section, and after two were joined.
use Rattle.std.proofs.{Common.{◌≡◌, ◌≢◌, List, [], ◌∷◌, ◌++◌, map, refl, sym, ◌∙◌, ap, subst, inl, inr, Contains, Result, Ok, Err, IfErr, IfOk, OnErr, OnOk}, lemmas.List.Elements.{Contains-append_left, Contains-push, Contains-push_cases}}
use Rattle.pmf_event.specs.{declared.profile.Profile.{Profile}, Section.{Trace}}
use Rattle.pmf_verdict.specs.Checked.{Checked, checked_by}
use Rattle.pmf_ledger.{specs.Gathered.{Gains, Gathers, GathersBoth, Holds, IsLedgerOf, Unites}, specs.Gathering.{Agrees, HaveSameMembers}, specs.LedgerValue.{LedgerValue}, specs.Loading.{IsOther}, specs.declared.taking.Standing.{Standing}, specs.declared.taking.TakeFault.{TakeFault}, specs.declared.taking.TakeFault.TheVariants.{OutOfMemory}, specs.declared.taking.Taken.{Taken}, specs.declared.taking.Taken.TheVariants.{Added}, specs.Taking.{IsStandingOf}, specs.Together.{AreLedgersOf, AreWithout, IsBy, IsStandingIn, SomeHolds, SomeHoldsOther}, specs.Places.{LacksName}, proofs.lemmas.AddingLemmas.{Contains-cons, Contains-cons_cases, from_map, to_map}, proofs.lemmas.JoiningLemmas.{AreBy, Holds-section}, proofs.lemmas.MergingLemmas.{none_of_empty}}
use Rattle.pmf_ledger.specs.declared.taking.Standing.TheVariants as standing

-- ---- a ledger by a profile

-- the sections of a ledger
abbrev own : LedgerValue → List Trace
own l = map (λ (c : Checked). c.section) l.sections

pub IsBy-of : (profile : Profile) (set : List Trace) (l : LedgerValue) → IsLedgerOf profile set l → IsBy profile l
IsBy-of profile set l is = record { profile_is = is.profile_is; checked = is.checked; rises = is.rises }

own-is : (l : LedgerValue) → IsBy l.profile l → IsLedgerOf l.profile (own l) l
own-is l by = record {
  profile_is = refl;
  checked = by.checked;
  rises = by.rises;
  same = λ s. (
    λ held. to_map (λ (c : Checked). c.section) l.sections (checked_by l.profile s) held,
    λ found. let c = from_map (λ (d : Checked). d.section) l.sections s found in subst (Holds l) c.2 (Holds-section l by.checked c.0 c.1),
  );
}

by-own : (profile : Profile) (l : LedgerValue) → IsBy profile l → IsBy l.profile l
by-own profile l by = subst (λ p. IsBy p l) (sym by.profile_is) by

-- with a section more
by-more : (profile : Profile) (l new : LedgerValue) (section : Trace) → IsBy profile l → Gathers l section new → IsBy profile new
by-more profile l new section by gathers = subst (λ p. IsBy p new) by.profile_is (IsBy-of l.profile (section ∷ own l) new (gathers (own l) (own-is l (by-own profile l by))))

-- two as one
by-both : (profile : Profile) (a b new : LedgerValue) → IsBy profile a → IsBy profile b → GathersBoth a b new → IsBy profile new
by-both profile a b new by_a by_b gathers =
    let even : b.profile ≡ a.profile = by_b.profile_is ∙ sym by_a.profile_is in
    subst (λ p. IsBy p new) by_a.profile_is
    (IsBy-of a.profile (own a ++ own b) new (gathers (own a) (own b) (own-is a (by-own profile a by_a)) (subst (λ p. IsLedgerOf p (own b) b) even (own-is b (by-own profile b by_b)))))

-- ---- ledgers of a set

module _ (profile : Profile) (set : List Trace) (ledgers : List LedgerValue) (are : AreLedgersOf profile set ledgers) (section : Trace) where
  has_to : (t : Trace) → (l : LedgerValue) → Contains ledgers l → Holds l t → Contains set t
  has_to t l has held = (are.same t).0 (l, has, held)

  pub held-in : SomeHolds ledgers section → Contains set section
  held-in some = (are.same section).0 some

  pub other-in : SomeHoldsOther ledgers section → IsOther set section
  other-in other = (other.2.0, has_to other.2.0 other.0 other.1 other.2.1, other.2.2, other.2.3)

  pub held-no_other : SomeHolds ledgers section → IsOther set section → ⊥
  held-no_other some other = other.3 (are.agrees other.0 section other.1 (held-in some) other.2)

  pub without-no_other : AreWithout ledgers section.name → IsOther set section → ⊥
  without-no_other absent other = let some = (are.same other.0).1 other.1 in absent some.0 some.1 (checked_by some.0.profile other.0) some.2 other.2

  -- a section of the set once more
  pub once-more : Contains set section → AreLedgersOf profile (section ∷ set) ledgers
  once-more found = record {
    by = are.by;
    agrees = λ s t has_s has_t same. are.agrees s t (back s has_s) (back t has_t) same;
    same = λ s. (λ some. Contains-cons s section set (inr ((are.same s).0 some)), λ has. (are.same s).1 (back s has));
  }
    where
      back : (s : Trace) → Contains (section ∷ set) s → Contains set s
      back s has = elim (Contains-cons_cases s section set has) [ inl same ↦ subst (Contains set) (sym same) found | inr before ↦ before ]

  -- with a section whose name is new, the set agrees
  pub agrees-more : AreWithout ledgers section.name → Agrees (section ∷ set)
  agrees-more absent = λ s t has_s has_t same. elim (Contains-cons_cases s section set has_s) [
    | inl here ↦ elim (Contains-cons_cases t section set has_t) [
      | inl there ↦ here ∙ sym there
      | inr before ↦ absurd (new t before (sym same ∙ ap (λ (u : Trace). u.name) here))
    ]
    | inr before ↦ elim (Contains-cons_cases t section set has_t) [
      | inl there ↦ absurd (new s before (same ∙ ap (λ (u : Trace). u.name) there))
      | inr too ↦ are.agrees s t before too same
    ]
  ]
    where
      new : (t : Trace) → Contains set t → t.name ≡ section.name → ⊥
      new t has named = let some = (are.same t).1 has in absent some.0 some.1 (checked_by some.0.profile t) some.2 named

  -- in a ledger of its own behind them
  pub one-more : (empty next : LedgerValue) → IsLedgerOf profile [] empty → Gains empty section next → Gathers empty section next → Agrees (section ∷ set) →
      AreLedgersOf profile (section ∷ set) (ledgers ++ next ∷ [])
  one-more empty next none gains gathers agrees = record {
    by = λ l has. elim (Contains-push_cases ledgers next l has) [ inl inside ↦ are.by l inside | inr here ↦ subst (IsBy profile) here (by-more profile empty next section (IsBy-of profile [] empty none) gathers) ];
    agrees = agrees;
    same = λ s. (
      λ some. Contains-cons s section set (elim (Contains-push_cases ledgers next some.0 some.1) [
        | inl inside ↦ inr ((are.same s).0 (some.0, inside, some.2))
        | inr here ↦ elim ((gains.holds s).0 (subst (λ l. Holds l s) (sym here) some.2)) [
          | inl old ↦ absurd (none_of_empty [] s refl ((none.same s).0 old))
          | inr is ↦ inl is
        ]
      ]),
      λ has. elim (Contains-cons_cases s section set has) [
        | inl is ↦ (next, Contains-push ledgers next, (gains.holds s).1 (inr is))
        | inr before ↦ let some = (are.same s).1 before in (some.0, Contains-append_left ledgers (next ∷ []) some.0 some.1, some.2)
      ],
    );
  }

-- in the last of them
pub last-more : (profile : Profile) (set : List Trace) (before : List LedgerValue) (last new : LedgerValue) (section : Trace) → AreLedgersOf profile set (before ++ last ∷ []) →
    Gains last section new → Gathers last section new → AreWithout (before ++ last ∷ []) section.name → AreLedgersOf profile (section ∷ set) (before ++ new ∷ [])
last-more profile set before last new section are gains gathers absent = record {
  by = λ l has. elim (Contains-push_cases before new l has) [
    | inl inside ↦ are.by l (Contains-append_left before (last ∷ []) l inside)
    | inr here ↦ subst (IsBy profile) here (by-more profile last new section (are.by last (Contains-push before last)) gathers)
  ];
  agrees = agrees-more profile set (before ++ last ∷ []) are section absent;
  same = λ s. (
    λ some. Contains-cons s section set (elim (Contains-push_cases before new some.0 some.1) [
      | inl inside ↦ inr ((are.same s).0 (some.0, Contains-append_left before (last ∷ []) some.0 inside, some.2))
      | inr here ↦ elim ((gains.holds s).0 (subst (λ l. Holds l s) (sym here) some.2)) [
        | inl old ↦ inr ((are.same s).0 (last, Contains-push before last, old))
        | inr is ↦ inl is
      ]
    ]),
    λ has. elim (Contains-cons_cases s section set has) [
      | inl is ↦ (new, Contains-push before new, (gains.holds s).1 (inr is))
      | inr inside ↦ let some = (are.same s).1 inside in elim (Contains-push_cases before last some.0 some.1) [
        | inl too ↦ (some.0, Contains-append_left before (new ∷ []) some.0 too, some.2)
        | inr here ↦ (new, Contains-push before new, (gains.holds s).1 (inl (subst (λ l. Holds l s) (sym here) some.2)))
      ]
    ],
  );
}

-- the last two as one
pub last-joined : (profile : Profile) (set : List Trace) (before : List LedgerValue) (a b new : LedgerValue) → AreLedgersOf profile set ((before ++ a ∷ []) ++ b ∷ []) → Unites a b new → GathersBoth a b new →
    AreLedgersOf profile set (before ++ new ∷ [])
last-joined profile set before a b new are unites gathers =
    let has_a = Contains-append_left (before ++ a ∷ []) (b ∷ []) a (Contains-push before a) in
    let has_b = Contains-push (before ++ a ∷ []) b in
    record {
      by = λ l has. elim (Contains-push_cases before new l has) [
        | inl inside ↦ are.by l (Contains-append_left (before ++ a ∷ []) (b ∷ []) l (Contains-append_left before (a ∷ []) l inside))
        | inr here ↦ subst (IsBy profile) here (by-both profile a b new (are.by a has_a) (are.by b has_b) gathers)
      ];
      agrees = are.agrees;
      same = λ s. (
        λ some. elim (Contains-push_cases before new some.0 some.1) [
          | inl inside ↦ (are.same s).0 (some.0, Contains-append_left (before ++ a ∷ []) (b ∷ []) some.0 (Contains-append_left before (a ∷ []) some.0 inside), some.2)
          | inr here ↦ elim ((unites.holds s).0 (subst (λ l. Holds l s) (sym here) some.2)) [
            | inl first ↦ (are.same s).0 (a, has_a, first)
            | inr second ↦ (are.same s).0 (b, has_b, second)
          ]
        ],
        λ has. let some = (are.same s).1 has in elim (Contains-push_cases (before ++ a ∷ []) b some.0 some.1) [
          | inl inside ↦ elim (Contains-push_cases before a some.0 inside) [
            | inl too ↦ (some.0, Contains-append_left before (new ∷ []) some.0 too, some.2)
            | inr here ↦ (new, Contains-push before new, (unites.holds s).1 (inl (subst (λ l. Holds l s) (sym here) some.2)))
          ]
          | inr there ↦ (new, Contains-push before new, (unites.holds s).1 (inr (subst (λ l. Holds l s) (sym there) some.2)))
        ],
      );
    }

-- one alone
only : (l m : LedgerValue) → Contains ([] ++ l ∷ []) m → l ≡ m
only l m has = elim (Contains-push_cases [] l m has) [ inl none ↦ absurd (none_of_empty [] m refl none) | inr here ↦ here ]

pub alone-is : (profile : Profile) (set : List Trace) (l : LedgerValue) → AreLedgersOf profile set ([] ++ l ∷ []) → IsLedgerOf profile set l
alone-is profile set l are =
    let by = are.by l (Contains-push [] l) in
    record {
      profile_is = by.profile_is;
      checked = by.checked;
      rises = by.rises;
      same = λ s. (
        λ held. (are.same s).0 (l, Contains-push [] l, held),
        λ has. let some = (are.same s).1 has in subst (λ m. Holds m s) (sym (only l some.0 some.1)) some.2,
      );
    }

pub alone-of : (profile : Profile) (set : List Trace) (l : LedgerValue) → IsLedgerOf profile set l → Agrees set → AreLedgersOf profile set ([] ++ l ∷ [])
alone-of profile set l is agrees = record {
  by = λ m has. subst (IsBy profile) (only l m has) (IsBy-of profile set l is);
  agrees = agrees;
  same = λ s. (
    λ some. (is.same s).0 (subst (λ m. Holds m s) (sym (only l some.0 some.1)) some.2),
    λ has. (l, Contains-push [] l, (is.same s).1 has),
  );
}

-- sets of the same members
pub ledgers-members : (profile : Profile) (xs ys : List Trace) (ledgers : List LedgerValue) → AreLedgersOf profile xs ledgers → HaveSameMembers xs ys → AreLedgersOf profile ys ledgers
ledgers-members profile xs ys ledgers are alike = record {
  by = are.by;
  agrees = λ s t has_s has_t same. are.agrees s t ((alike s).1 has_s) ((alike t).1 has_t) same;
  same = λ s. (λ some. (alike s).0 ((are.same s).0 some), λ has. (are.same s).1 ((alike s).1 has));
}

-- what gains a section is not empty
pub gains-some : (old new : LedgerValue) (section : Trace) → Gains old section new → new.sections ≡ [] → ⊥
gains-some old new section gains none =
    none_of_empty [] (checked_by new.profile section) refl (subst (λ cs. Contains cs (checked_by new.profile section)) none ((gains.holds section).1 (inr refl)))

-- ---- where a section stands

-- in those before the last
pub standing-before : (before : List LedgerValue) (last : LedgerValue) (s : Trace) → SomeHolds before s → SomeHolds (before ++ last ∷ []) s
standing-before before last s some = (some.0, Contains-append_left before (last ∷ []) some.0 some.1, some.2)

pub other-before : (before : List LedgerValue) (last : LedgerValue) (s : Trace) → SomeHoldsOther before s → SomeHoldsOther (before ++ last ∷ []) s
other-before before last s other = (other.0, Contains-append_left before (last ∷ []) other.0 other.1, other.2)

-- in the last
pub standing-last : (before : List LedgerValue) (last : LedgerValue) (s : Trace) (found : Standing) → AreWithout before s.name → IsStandingOf last s found → IsStandingIn (before ++ last ∷ []) s found
standing-last before last s standing.Held absent is = (last, Contains-push before last, is)
standing-last before last s standing.Otherwise absent is = (last, Contains-push before last, is)
standing-last before last s (standing.Absent place) absent is = λ l has. elim (Contains-push_cases before last l has) [
  | inl inside ↦ absent l inside
  | inr here ↦ subst (λ (m : LedgerValue). LacksName m.sections s.name) here is.1
]

-- what is refused for want of memory is refused for nothing else
pub memory-alone : (result : Result (Unit {0}) TakeFault) (other : TakeFault) → (OutOfMemory ≡ other → ⊥) → IfErr result (λ fault. fault ≡ OutOfMemory) → result ≡ Err other → ⊥
memory-alone (Ok _) other apart is bad = cc
memory-alone (Err fault) other apart is bad = let same : fault ≡ other = cc in apart (sym is ∙ same)

-- what was empty stays with what is kept before it, and what was taken is not empty
pub filled-more : (old new : LedgerValue) (section : Trace) (result : Result Taken (TakeFault × Checked)) (full : List LedgerValue) → OnOk result (Gains old section new) → ((result ≡ Ok Added → ⊥) → new ≡ old) →
    (old.sections ≡ [] → full ≡ []) → new.sections ≡ [] → full ≡ []
filled-more old new section (Ok taken) full gains unchanged filled none = absurd (gains-some old new section gains none)
filled-more old new section (Err refused) full gains unchanged filled none = filled (subst (λ (l : LedgerValue). l.sections ≡ []) (unchanged (λ wrong. cc)) none)

-- ledgers that became one
pub one-of-all : {E : Type 0} (profile : Profile) (set : List Trace) (result : Result LedgerValue E) (full : List LedgerValue) → IfOk result (λ joined. AreLedgersOf profile set (full ++ joined ∷ [])) → OnOk result (full ≡ []) → IfOk result (IsLedgerOf profile set)
one-of-all profile set (Ok joined) full are none = alone-is profile set joined (subst (λ ls. AreLedgersOf profile set (ls ++ joined ∷ [])) none are)
one-of-all profile set (Err refused) full are none = tt

-- where some stand before the last, the set is not empty
pub some-of-all : {E : Type 0} (profile : Profile) (set : List Trace) (result : Result LedgerValue E) (full : List LedgerValue) (last : LedgerValue) → AreLedgersOf profile set (full ++ last ∷ []) → (last.sections ≡ [] → full ≡ []) → OnErr result (full ≢ []) → OnErr result (set ≢ [])
some-of-all profile set (Ok joined) full last are filled some = tt
some-of-all profile set (Err refused) full last are filled some = λ none. some (filled (by last.sections (λ c found.
    let l = are.by last (Contains-push full last) in
    none_of_empty [] c.section refl (subst (λ ss. Contains ss c.section) none ((are.same c.section).0 (last, Contains-push full last, Holds-section last (subst (λ p. AreBy p last.sections) (sym l.profile_is) l.checked) c found))))))
  where
    by : (cs : List Checked) → ((c : Checked) → Contains cs c → ⊥) → cs ≡ []
    by [] out = refl
    by (c ∷ cs) out = absurd (out c (Contains-cons c c cs (inl refl)))
