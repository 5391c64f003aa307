-- A gathering that is not refused gives a ledger.
use Rattle.std.proofs.{Common.{◌≡◌, ℕ, ◌<◌, ◌≤◌, List, [], ◌∷◌, ◌++◌, length, zero, suc, refl, sym, ◌∙◌, ap, subst, arith, inl, inr, get_or, ◌⊎◌, Contains, insert}, lemmas.List.Elements.{Contains-append_left, Contains-append_right, Contains-get_or}, lemmas.Grind.{common_steps}}
use Rattle.pmf_event.specs.{declared.name.Name.{Name}, declared.profile.Profile.{Profile}, Section.{Trace}}
use Rattle.pmf_verdict.specs.Checked.{Checked, checked_by}
use Rattle.pmf_ledger.{specs.Gathered.{Gathers, GathersBoth, Holds, IsLedgerOf}, specs.Gathering.{Agrees, Begun, Gathering, Gives, IsBy, IsRefused, Joined, RefusesJoin, RefusesVerdict, WithVerdict, set_of}, specs.LedgerValue.{LedgerValue}, specs.Names.{IsBefore, Rises}, specs.Places.{HasName, IsPlaceOf, LacksName}, proofs.lemmas.AddingLemmas.{across, appended, All-insert, Contains-cons, Contains-cons_cases, Gains-held, Gains-insert, Gathers-gains, Rises-insert}, proofs.lemmas.GatheringLemmas.{agrees_within, empty_ledger, gives_ledger, refuses_for_cause}, proofs.lemmas.JoiningLemmas.{AreBy, Holds-section}, proofs.lemmas.MergingLemmas.{none_of_empty}, proofs.lemmas.NameLemmas.{before-itself, before-total, before-trans}, proofs.lemmas.ReadingLemmas.{IsLedgerOf-members}, proofs.lemmas.UniqueLemmas.{Rises-first, Rises-rest}}

-- where a name belongs that none has
record Place (sections : List Checked) (name : Name) : Type 0 where
  at : ℕ
  place : IsPlaceOf sections name at
  lacks : LacksName sections name

place_first : (x : Checked) (xs : List Checked) (name : Name) → Rises (x ∷ xs) → IsBefore name x.section.name → Place (x ∷ xs) name
place_first x xs name rises before =
    let after : (c : Checked) → Contains (x ∷ xs) c → IsBefore name c.section.name = λ c found. elim (Contains-cons_cases c x xs found) [
      | inl same ↦ subst (λ (d : Checked). IsBefore name d.section.name) (sym same) before
      | inr later ↦ before-trans name x.section.name c.section.name before (Rises-first (λ (c : Checked). c.section.name) x xs rises c later)
    ] in
    record {
      at = 0;
      place = record {
        within = omega arith;
        before = λ i d less. absurd (omega (arith, less));
        from = λ i d far inside wrong. let c = get_or (x ∷ xs) i d in before-itself name (before-trans name c.section.name name (after c (Contains-get_or (x ∷ xs) i d inside)) wrong);
      };
      lacks = λ c found same. before-itself name (subst (IsBefore name) same (after c found));
    }

place_behind : (x : Checked) (xs : List Checked) (name : Name) → IsBefore x.section.name name → Place xs name → Place (x ∷ xs) name
place_behind x xs name before rest = record {
  at = suc rest.at;
  place = grind (arith, common_steps);
  lacks = λ c found same. elim (Contains-cons_cases c x xs found) [
    | inl here ↦ before-itself name (subst (λ n. IsBefore n name) (ap (λ (d : Checked). d.section.name) (sym here) ∙ same) before)
    | inr later ↦ rest.lacks c later same
  ];
}
  where
    before_at : (i : ℕ) (d : Checked) → i < suc rest.at → IsBefore (get_or (x ∷ xs) i d).section.name name
    before_at zero d less = before
    before_at (suc i) d less = rest.place.before i d (omega (arith, less))

    from_at : (i : ℕ) (d : Checked) → suc rest.at ≤ i → i < length (x ∷ xs) → IsBefore (get_or (x ∷ xs) i d).section.name name → ⊥
    from_at zero d far inside = absurd (omega (arith, far))
    from_at (suc i) d far inside = rest.place.from i d (omega (arith, far)) (omega (arith, inside))

-- a name is that of a section, or has its place
placed : (sections : List Checked) (name : Name) → Rises sections → HasName sections name ⊎ Place sections name
placed [] name rises = grind (arith, common_steps, none_of_empty)
placed (x ∷ xs) name rises = elim (before-total x.section.name name) [
  | inl before ↦ elim (placed xs name (Rises-rest (λ (c : Checked). c.section.name) x xs rises)) [ inl has ↦ inl (has.0, Contains-cons has.0 x xs (inr has.1), has.2) | inr rest ↦ inr (place_behind x xs name before rest) ]
  | inr other ↦ elim other [ inl same ↦ inl (x, Contains-cons x x xs (inl refl), same) | inr after ↦ inr (place_first x xs name rises after) ]
]

-- the ledger with a section more
record Grown (old : LedgerValue) (s : Trace) : Type 0 where
  new : LedgerValue
  gathers : Gathers old s new

-- a ledger that holds the name with no other events has one with the section
grows : (old : LedgerValue) (s : Trace) → Rises old.sections → AreBy old.profile old.sections → ((t : Trace) → Holds old t → t.name ≡ s.name → t ≡ s) → Grown old s
grows old s rises by agrees = elim (placed old.sections s.name rises) [
  | inl has ↦
      let c = has.0 in let held : Holds old c.section = Holds-section old by c has.1 in
      record { new = old; gathers = Gathers-gains old old s (Gains-held old s (subst (Holds old) (agrees c.section held has.2) held)) rises by }
  | inr found ↦
      let v = checked_by old.profile s in let new : LedgerValue = record { profile = old.profile; sections = insert old.sections found.at v } in
      record {
        new = new;
        gathers = Gathers-gains old new s (Gains-insert old new found.at v refl refl refl)
            (Rises-insert old.sections found.at v rises found.place found.lacks)
            (All-insert (λ (c : Checked). c.profile ≡ old.profile) old.sections found.at v refl by);
      }
]

-- a set that agrees has a ledger
record HasLedger (profile : Profile) (set : List Trace) : Type 0 where
  ledger : LedgerValue
  is : IsLedgerOf profile set ledger

with_section : (profile : Profile) (s : Trace) (set : List Trace) → Agrees (s ∷ set) → HasLedger profile set → HasLedger profile (s ∷ set)
with_section profile s set agrees has =
    let old = has.ledger in let stays = has.is.profile_is in let old_is : IsLedgerOf old.profile set old = subst (λ p. IsLedgerOf p set old) (sym stays) has.is in
    let grown = grows old s old_is.rises old_is.checked
    (λ t held same. agrees t s (Contains-cons t s set (inr ((old_is.same t).0 held))) (Contains-cons s s set (inl refl)) same) in
    record { ledger = grown.new; is = subst (λ p. IsLedgerOf p (s ∷ set) grown.new) stays (grown.gathers set old_is) }

has_ledger : (profile : Profile) (set : List Trace) → Agrees set → HasLedger profile set
has_ledger profile [] agrees = record { ledger = record { profile = profile; sections = [] }; is = empty_ledger profile }
has_ledger profile (s ∷ set) agrees = grind (arith, common_steps, with_section, agrees_within, Contains-cons, has_ledger profile set (agrees_within (s ∷ set) set (λ t found. Contains-cons t s set (inr found)) agrees))

-- the sets of which a ledger is that have the same members
set_once : (p q : Profile) (xs ys : List Trace) (ledger : LedgerValue) → IsLedgerOf p xs ledger → IsLedgerOf q ys ledger → (s : Trace) → Contains xs s → Contains ys s
set_once p q xs ys ledger of_xs of_ys s found = (of_ys.same s).0 ((of_xs.same s).1 found)

-- the ledger of two ledgers' sets together is that of any sets of which they are the ledgers
gathers_union : (a b new : LedgerValue) (xs ys : List Trace) → IsLedgerOf a.profile xs a → IsLedgerOf b.profile ys b → IsLedgerOf a.profile (xs ++ ys) new → GathersBoth a b new
gathers_union a b new xs ys of_a of_b is = λ us vs to_a to_b. IsLedgerOf-members a.profile (xs ++ ys) (us ++ vs) new is (λ s. across (appended xs ys s)
    (set_once a.profile a.profile xs us a of_a to_a s, set_once a.profile a.profile us xs a to_a of_a s) (set_once b.profile a.profile ys vs b of_b to_b s, set_once a.profile b.profile vs ys b to_b of_b s)
    (appended us vs s))

pub gives_where_it_may : (gathering : Gathering) (profile : Profile) → Agrees (set_of gathering) → IsBy profile gathering → (ledger : LedgerValue) × Gives gathering ledger
unfolding Gives IsRefused set_of IsBy
gives_where_it_may (Begun own) profile agrees by = (record { profile = own; sections = [] }, refl)
gives_where_it_may (WithVerdict gathering verdict) profile agrees by =
    let s = verdict.section in let set = set_of gathering in
    let before = gives_where_it_may gathering profile (agrees_within (s ∷ set) set (λ t found. Contains-cons t s set (inr found)) agrees) by.0 in let old = before.0 in
    let is = gives_ledger gathering old before.1 in
    let grown = grows old s is.0.rises is.0.checked (λ t held same. agrees t s (Contains-cons t s set (inr ((is.0.same t).0 held))) (Contains-cons s s set (inl refl)) same) in
    let refuse : RefusesVerdict old verdict → ⊥ = λ refused. refuses_for_cause (WithVerdict gathering verdict) profile agrees by (inr (old, before.1, refused)) in
    (grown.new, (old, before.1, refuse, grown.gathers))
gives_where_it_may (Joined g h) profile agrees by =
    let xs = set_of g in let ys = set_of h in let first = gives_where_it_may g profile (agrees_within (xs ++ ys) xs (λ s found. Contains-append_left xs ys s found) agrees) by.0 in
    let second = gives_where_it_may h profile (agrees_within (xs ++ ys) ys (λ s found. Contains-append_right xs ys s found) agrees) by.1 in let a = first.0 in let b = second.0 in
    let both = has_ledger a.profile (xs ++ ys) agrees in
    let refuse : RefusesJoin a b → ⊥ = λ refused. refuses_for_cause (Joined g h) profile agrees by (inr (a, b, first.1, second.1, refused)) in
    (both.ledger, (a, b, first.1, second.1, refuse, gathers_union a b both.ledger xs ys (gives_ledger g a first.1).0 (gives_ledger h b second.1).0 both.is))
