-- What gatherings give.
use Rattle.std.proofs.{Common.{◌≡◌, List, [], ◌∷◌, ◌++◌, refl, sym, ◌∙◌, subst, arith, inl, inr, ◌≢◌, Contains}, lemmas.List.Elements.{Contains-append_left, Contains-append_right}, lemmas.Grind.{common_steps}}
use Rattle.pmf_event.specs.{declared.profile.Profile.{Profile}, Section.{Trace}}
use Rattle.pmf_ledger.{specs.Gathered.{IsLedgerOf}, specs.Gathering.{Agrees, Begun, Gathering, Gives, IsBy, IsRefused, Joined, WithVerdict, set_of}, specs.LedgerValue.{LedgerValue}, proofs.lemmas.AddingLemmas.{Contains-cons}, proofs.lemmas.MergingLemmas.{none_of_empty}, proofs.lemmas.UniqueLemmas.{Agrees-ledger}}

-- profiles that don't differ are one
profile_same : (p q : Profile) → (p ≢ q → ⊥) → p ≡ q
profile_same p q even = grind (arith, common_steps)

-- the ledger of no section
pub empty_ledger : (profile : Profile) → IsLedgerOf profile [] (record { profile = profile; sections = [] })
empty_ledger profile = grind (arith, common_steps, none_of_empty)

-- a gathering is by one profile at most
pub by_one : (gathering : Gathering) (p q : Profile) → IsBy p gathering → IsBy q gathering → p ≡ q
unfolding IsBy
by_one (Begun own) p q first second = sym first ∙ second
by_one (WithVerdict gathering verdict) p q first second = by_one gathering p q first.0 second.0
by_one (Joined g h) p q first second = by_one g p q first.0 second.0

pub gives_ledger : (gathering : Gathering) (ledger : LedgerValue) → Gives gathering ledger → IsLedgerOf ledger.profile (set_of gathering) ledger × Agrees (set_of gathering) × IsBy ledger.profile gathering
unfolding Gives set_of IsBy
gives_ledger (Begun profile) ledger gives = grind (arith, common_steps, empty_ledger, Agrees-ledger)
gives_ledger (WithVerdict gathering verdict) ledger gives =
    let old = gives.0 in let before = gives_ledger gathering old gives.1 in let set = verdict.section ∷ set_of gathering in
    let is : IsLedgerOf old.profile set ledger = gives.3 (set_of gathering) before.0 in let stays : old.profile ≡ ledger.profile = sym is.profile_is in
    let of_set : IsLedgerOf ledger.profile set ledger = subst (λ p. IsLedgerOf p set ledger) stays is in
    let even : verdict.profile ≡ old.profile = profile_same verdict.profile old.profile (λ differ. gives.2 (inl differ)) in
    (of_set, Agrees-ledger ledger.profile set ledger of_set, (subst (λ p. IsBy p gathering) stays before.2, even ∙ stays))
gives_ledger (Joined g h) ledger gives =
    let a = gives.0 in let b = gives.1 in let first = gives_ledger g a gives.2 in let second = gives_ledger h b gives.3 in let set = set_of g ++ set_of h in
    let even : a.profile ≡ b.profile = profile_same a.profile b.profile (λ differ. gives.4 (inl differ)) in
    let is : IsLedgerOf a.profile set ledger = gives.5 (set_of g) (set_of h) first.0 (subst (λ p. IsLedgerOf p (set_of h) b) (sym even) second.0) in
    let stays : a.profile ≡ ledger.profile = sym is.profile_is in let of_set : IsLedgerOf ledger.profile set ledger = subst (λ p. IsLedgerOf p set ledger) stays is in
    (of_set, Agrees-ledger ledger.profile set ledger of_set, (subst (λ p. IsBy p g) stays first.2, subst (λ p. IsBy p h) (sym even ∙ stays) second.2))

-- a set agrees with fewer members too
pub agrees_within : (xs ys : List Trace) → ((s : Trace) → Contains ys s → Contains xs s) → Agrees xs → Agrees ys
agrees_within xs ys within agrees = λ s t has_s has_t same. agrees s t (within s has_s) (within t has_t) same

pub refuses_for_cause : (gathering : Gathering) (profile : Profile) → Agrees (set_of gathering) → IsBy profile gathering → IsRefused gathering → ⊥
unfolding IsRefused set_of IsBy
refuses_for_cause (Begun own) profile agrees by refused = refused
refuses_for_cause (WithVerdict gathering verdict) profile agrees by refused = elim refused [
  | inl before ↦
      refuses_for_cause gathering profile
      (agrees_within (verdict.section ∷ set_of gathering) (set_of gathering) (λ s found. Contains-cons s verdict.section (set_of gathering) (inr found)) agrees) by.0 before
  | inr now ↦
      let old = now.0 in let is = gives_ledger gathering old now.1 in
      elim now.2 [
        | inl differ ↦ differ (by.1 ∙ by_one gathering profile old.profile by.0 is.2)
        | inr other ↦
            let t = other.0 in let s = verdict.section in
            other.3 (agrees t s (Contains-cons t s (set_of gathering) (inr ((is.0.same t).0 other.1))) (Contains-cons s s (set_of gathering) (inl refl)) other.2)
      ]
]
refuses_for_cause (Joined g h) profile agrees by refused =
    let xs = set_of g in let ys = set_of h in
    elim refused [
      | inl before ↦ elim before [
        | inl first ↦ refuses_for_cause g profile (agrees_within (xs ++ ys) xs (λ s found. Contains-append_left xs ys s found) agrees) by.0 first
        | inr second ↦ refuses_for_cause h profile (agrees_within (xs ++ ys) ys (λ s found. Contains-append_right xs ys s found) agrees) by.1 second
      ]
      | inr now ↦
          let a = now.0 in let b = now.1 in let first = gives_ledger g a now.2 in let second = gives_ledger h b now.3 in
          elim now.4 [
            | inl differ ↦ differ (by_one g a.profile profile first.2 by.0 ∙ by_one h profile b.profile by.1 second.2)
            | inr some ↦
                let clash = some.1 in let s = clash.0 in let t = clash.1 in
                clash.6 (agrees s t (Contains-append_left xs ys s ((first.0.same s).0 clash.2)) (Contains-append_right xs ys t ((second.0.same t).0 clash.3)) (clash.4 ∙ sym clash.5))
          ]
    ]
