-- Gatherings that are alike: only the set counts, and how it was joined doesn't.
use Rattle.std.proofs.{Common.{◌≡◌, List, ◌++◌, sym, ap, subst, append_assoc, inl, inr, Contains}, lemmas.List.Elements.{Contains-append_cases, Contains-append_left, Contains-append_right}}
use Rattle.pmf_event.specs.declared.profile.Profile.{Profile}
use Rattle.pmf_ledger.{specs.Report.{report_of}, specs.Gathered.{IsLedgerOf}, specs.Gathering.{AreAlike, Gathering, Gives, HaveSameMembers, IsBy, IsRefused, Joined, JoiningAssociates, JoiningCommutes, JoiningRepeats, OnlyTheSetCounts, set_of}, specs.Laws.{EqualSetsHaveOneLedger}, specs.LedgerText.{text_of_ledger}, specs.LedgerValue.{LedgerValue}, proofs.lemmas.UniqueLemmas.{ledger_once}, proofs.lemmas.GatheringLemmas.{agrees_within, by_one, gives_ledger}, proofs.lemmas.GivingLemmas.{gives_where_it_may}, proofs.lemmas.RefusingLemmas.{gives_or_is_refused}}

-- gatherings of sets with the same members give one ledger, where the profiles of the one are those of the other
one_ledger : (g h : Gathering) → ((p : Profile) → IsBy p g → IsBy p h) → ((p : Profile) → IsBy p h → IsBy p g) → HaveSameMembers (set_of g) (set_of h) →
    (a b : LedgerValue) → Gives g a → Gives h b → a ≡ b
one_ledger g h to from members a b first second =
    let of_a = gives_ledger g a first in let of_b = gives_ledger h b second in let even : a.profile ≡ b.profile = by_one h a.profile b.profile (to a.profile of_a.2) of_b.2 in
    ledger_once b.profile (set_of g) (set_of h) a b (subst (λ p. IsLedgerOf p (set_of g) a) even of_a.0) of_b.0 members

-- what the one gives, the other gives
also_gives : (g h : Gathering) → ((p : Profile) → IsBy p g → IsBy p h) → ((p : Profile) → IsBy p h → IsBy p g) → HaveSameMembers (set_of g) (set_of h) → (a : LedgerValue) → Gives g a → Gives h a
also_gives g h to from members a first =
    let of_a = gives_ledger g a first in let given = gives_where_it_may h a.profile (agrees_within (set_of g) (set_of h) (λ s. (members s).1) of_a.1) (to a.profile of_a.2) in
    subst (Gives h) (sym (one_ledger g h to from members a given.0 first given.1)) given.1

-- where the one is refused, the other is
refused_too : (g h : Gathering) → ((p : Profile) → IsBy p g → IsBy p h) → ((p : Profile) → IsBy p h → IsBy p g) → HaveSameMembers (set_of g) (set_of h) → IsRefused g → IsRefused h
refused_too g h to from members refused = elim (gives_or_is_refused h).0 [
  | inl given ↦ absurd ((gives_or_is_refused g).1 given.0 (also_gives h g from to (λ s. ((members s).1, (members s).0)) given.0 given.1) refused)
  | inr too ↦ too
]

-- gatherings of sets with the same members are alike, where the profiles of the one are those of the other
alike : (g h : Gathering) → ((p : Profile) → IsBy p g → IsBy p h) → ((p : Profile) → IsBy p h → IsBy p g) → HaveSameMembers (set_of g) (set_of h) → AreAlike g h
alike g h to from members = record {
  same = one_ledger g h to from members;
  gives = λ a. (also_gives g h to from members a, also_gives h g from to (λ s. ((members s).1, (members s).0)) a);
  refused = (refused_too g h to from members, refused_too h g from to (λ s. ((members s).1, (members s).0)));
}

turned : {X : Type 0} (xs ys : List X) (x : X) → Contains (xs ++ ys) x → Contains (ys ++ xs) x
turned xs ys x found = elim (Contains-append_cases xs ys x found) [ inl first ↦ Contains-append_right ys xs x first | inr second ↦ Contains-append_left ys xs x second ]

pub joining_commutes : JoiningCommutes
unfolding IsBy set_of
joining_commutes = λ g h. alike (Joined g h) (Joined h g) (λ p by. (by.1, by.0)) (λ p by. (by.1, by.0))
    (λ s. (turned (set_of g) (set_of h) s, turned (set_of h) (set_of g) s))

pub joining_associates : JoiningAssociates
unfolding IsBy set_of
joining_associates = λ g h k.
    let regrouped : (set_of g ++ set_of h) ++ set_of k ≡ set_of g ++ (set_of h ++ set_of k) = append_assoc (set_of g) (set_of h) (set_of k) in
    alike (Joined (Joined g h) k) (Joined g (Joined h k)) (λ p by. (by.0.0, (by.0.1, by.1))) (λ p by. ((by.0, by.1.0), by.1.1))
    (λ s. (subst (λ zs. Contains zs s) regrouped, subst (λ zs. Contains zs s) (sym regrouped)))

pub joining_repeats : JoiningRepeats
unfolding IsBy set_of
joining_repeats = λ g. alike (Joined g g) g (λ p by. by.0) (λ p by. (by, by))
    (λ s. (
      λ found. elim (Contains-append_cases (set_of g) (set_of g) s found) [ inl first ↦ first | inr second ↦ second ],
      λ found. Contains-append_left (set_of g) (set_of g) s found,
    ))

pub set_counts : OnlyTheSetCounts
set_counts = λ g h profile by_g by_h members.
    alike g h (λ p by. subst (λ q. IsBy q h) (by_one g profile p by_g by) by_h) (λ p by. subst (λ q. IsBy q g) (by_one h profile p by_h by) by_g) members

pub equal_sets : EqualSetsHaveOneLedger
equal_sets = λ profile xs ys a b of_a of_b members.
    let same : a ≡ b = ledger_once profile xs ys a b of_a of_b members in (same, ap (λ (l : LedgerValue). report_of l.sections) same, ap text_of_ledger same)
