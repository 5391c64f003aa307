-- A gathering gives a ledger or is refused: which of the two is decided step by step.
use Rattle.std.{proofs.Common.{rules, ◌≡◌, ◌≢◌, ◌⊎◌, Bool, true, false, List, [], ◌∷◌, ◌++◌, refl, sym, ap, subst, inl, inr, Contains, Decides, arith}, specs.Cmp.Lexicographic.{pointwise}, proofs.lemmas.Bool.{true≢false}, proofs.lemmas.List.Elements.{Contains-append_cases, Contains-push_cases}, proofs.lemmas.Grind.{common_steps}, proofs.lemmas.Slice.Eq.{slice_eq-Decides}}
use Rattle.pmf_event.specs.{declared.event.Event.{Event}, declared.profile.Profile.{Profile}, contracts.event.EventPartialEq.TheImpl.{eq-value}, Section.{Trace}}
use Rattle.pmf_ledger.{specs.Gathering.{Agrees, Begun, Gathering, GivesOrIsRefused, IsBy, IsRefused, Joined, WithVerdict, set_of}, specs.Names.{IsBefore}, proofs.lemmas.AddingLemmas.{Contains-cons, Contains-cons_cases}, proofs.lemmas.GatheringLemmas.{gives_ledger, refuses_for_cause}, proofs.lemmas.GivingLemmas.{gives_where_it_may}, proofs.lemmas.MergingLemmas.{none_of_empty}, proofs.lemmas.NameLemmas.{before-itself, before-total}}

event_Decides : (a b : Event) → Decides (eq-value.it a b) (a ≡ b)
event_Decides a b = (λ same. search rules, λ same. search rules)

same_events : (xs ys : List Event) → (xs ≡ ys) ⊎ (xs ≢ ys)
same_events xs ys = by (pointwise eq-value.it xs ys) (slice_eq-Decides event_Decides xs ys (pointwise eq-value.it xs ys) refl)
  where
    by : (r : Bool) → Decides r (xs ≡ ys) → (xs ≡ ys) ⊎ (xs ≢ ys)
    by true decides = inl (decides.0 refl)
    by false decides = inr (λ same. true≢false (sym (decides.1 same)))

same_profile : (p q : Profile) → (p ≡ q) ⊎ (p ≢ q)
same_profile p q = grind (arith, common_steps)

-- the section has the name and other events, or is this one if it has the name
one_of_name : (t s : Trace) → ((t.name ≡ s.name) × (t ≢ s)) ⊎ (t.name ≡ s.name → t ≡ s)
one_of_name t s = elim (before-total t.name s.name) [
  | inl before ↦ inr (λ same. absurd (before-itself s.name (subst (λ n. IsBefore n s.name) same before)))
  | inr other ↦ elim other [
    | inl same ↦ elim (same_events t.events s.events) [
      | inl equal ↦ inr (λ named i. record { name = same i; events = equal i })
      | inr differ ↦ inl (same, (λ is. differ (ap (λ (u : Trace). u.events) is)))
    ]
    | inr after ↦ inr (λ same. absurd (before-itself s.name (subst (IsBefore s.name) same after)))
  ]
]

-- what holds of each element or not holds of one of a list or of none
some_or_all : {X : Type 0} (P Q : X → Type 0) → ((x : X) → P x ⊎ Q x) → (xs : List X) → ((x : X) × Contains xs x × P x) ⊎ ((x : X) → Contains xs x → Q x)
some_or_all P Q each [] = inr (λ x found. absurd (none_of_empty [] x refl found))
some_or_all P Q each (x ∷ xs) = elim (each x) [
  | inl here ↦ inl (x, Contains-cons x x xs (inl refl), here)
  | inr one ↦ elim (some_or_all P Q each xs) [
    | inl u ↦ inl (u.0, Contains-cons u.0 x xs (inr u.1), u.2)
    | inr all ↦ inr (λ u found. elim (Contains-cons_cases u x xs found) [ inl is ↦ subst Q (sym is) one | inr later ↦ all u later ])
  ]
]

-- so of all sections of a set
among : (s : Trace) (set : List Trace) → ((t : Trace) × Contains set t × ((t.name ≡ s.name) × (t ≢ s))) ⊎ ((t : Trace) → Contains set t → t.name ≡ s.name → t ≡ s)
among s set = some_or_all (λ t. (t.name ≡ s.name) × (t ≢ s)) (λ t. t.name ≡ s.name → t ≡ s) (λ t. one_of_name t s) set

-- and of those of two sets
between_two : (xs ys : List Trace) → ((s : Trace) × Contains xs s × ((t : Trace) × Contains ys t × ((t.name ≡ s.name) × (t ≢ s)))) ⊎ ((s : Trace) → Contains xs s → (t : Trace) → Contains ys t → t.name ≡ s.name → t ≡ s)
between_two xs ys = some_or_all _ _ (λ s. among s ys) xs

-- two sets that agree, and with each other, agree as one
agree_as_one : (xs ys : List Trace) → Agrees xs → Agrees ys → ((s : Trace) → Contains xs s → (t : Trace) → Contains ys t → t.name ≡ s.name → t ≡ s) → Agrees (xs ++ ys)
agree_as_one xs ys first second each s t has_s has_t same = elim (Contains-append_cases xs ys s has_s) [
  | inl s_first ↦ elim (Contains-append_cases xs ys t has_t) [ inl t_first ↦ first s t s_first t_first same | inr t_second ↦ sym (each s s_first t t_second (sym same)) ]
  | inr s_second ↦ elim (Contains-append_cases xs ys t has_t) [ inl t_first ↦ each t t_first s s_second same | inr t_second ↦ second s t s_second t_second same ]
]

-- what holds of one section holds of each in a set of it alone
alone : (P : Trace → Type 0) (s : Trace) → P s → (t : Trace) → Contains (s ∷ []) t → P t
alone P s holds t found = grind (arith, common_steps, Contains-push_cases, none_of_empty)

-- a gathering is refused, or its set agrees and it has one profile
refused_or_fair : (gathering : Gathering) → IsRefused gathering ⊎ ((profile : Profile) × Agrees (set_of gathering) × IsBy profile gathering)
unfolding IsRefused set_of IsBy
refused_or_fair (Begun own) = inr (own, (λ s t found. absurd (none_of_empty [] s refl found)), refl)
refused_or_fair (WithVerdict gathering verdict) = elim (refused_or_fair gathering) [
  | inl before ↦ inl (inl before)
  | inr fair ↦
      let given = gives_where_it_may gathering fair.0 fair.1 fair.2 in let is = gives_ledger gathering given.0 given.1 in let s = verdict.section in
      elim (same_profile verdict.profile given.0.profile) [
        | inl even ↦ elim (among s (set_of gathering)) [
          | inl t ↦ inl (inr (given.0, given.1, inr (t.0, (is.0.same t.0).1 t.1, t.2.0, t.2.1)))
          | inr all ↦ inr (
            given.0.profile,
            agree_as_one (s ∷ []) (set_of gathering) (λ t u has_t has_u same. alone (λ v. v ≡ u) s (sym (alone (λ v. v ≡ s) s refl u has_u)) t has_t) is.1
                (λ t has_t u has_u. alone (λ v. u.name ≡ v.name → u ≡ v) s (all u has_u) t has_t),
            (is.2, even),
          )
        ]
        | inr differ ↦ inl (inr (given.0, given.1, inl differ))
      ]
]
refused_or_fair (Joined g h) = elim (refused_or_fair g) [
  | inl first ↦ inl (inl (inl first))
  | inr fair_g ↦ elim (refused_or_fair h) [
    | inl second ↦ inl (inl (inr second))
    | inr fair_h ↦
        let a = gives_where_it_may g fair_g.0 fair_g.1 fair_g.2 in let b = gives_where_it_may h fair_h.0 fair_h.1 fair_h.2 in let is_a = gives_ledger g a.0 a.1 in
        let is_b = gives_ledger h b.0 b.1 in
        elim (same_profile a.0.profile b.0.profile) [
          | inl even ↦ elim (between_two (set_of g) (set_of h)) [
            | inl u ↦ inl (inr (a.0, b.0, a.1, b.1, inr (u.0.name, (u.0, u.2.0, (is_a.0.same u.0).1 u.1, (is_b.0.same u.2.0).1 u.2.1, refl, u.2.2.0, (λ is. u.2.2.1 (sym is))))))
            | inr all ↦ inr (a.0.profile, agree_as_one (set_of g) (set_of h) is_a.1 is_b.1 all, (is_a.2, subst (λ p. IsBy p h) (sym even) is_b.2))
          ]
          | inr differ ↦ inl (inr (a.0, b.0, a.1, b.1, inl differ))
        ]
  ]
]

pub gives_or_is_refused : GivesOrIsRefused
gives_or_is_refused gathering = grind (arith, common_steps, refused_or_fair, gives_where_it_may, gives_ledger, refuses_for_cause)
