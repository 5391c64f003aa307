-- What one ledger of a world takes or is joined with, and the world after it.
use Rattle.std.{proofs.Common.{rules, ◌≡◌, ℕ, zero, suc, ◌<◌, true, List, [], ◌∷◌, ◌++◌, length, set, get_or, slice_get, refl, sym, ◌∙◌, ap, subst, Some, Ok, inl, inr, arith, if◌then◌else◌, eqb, eqb-true, ◌↔◌, Contains, IfOk, IsOk, OnOk, OnErr, Result, Err, All, eq-eqb}, specs.List.{list_any}, proofs.lemmas.List.{get_or-map, get_or_default, length-map, map-append, set-get_or}, proofs.lemmas.List.Elements.{All-append, All-cons, All-get_or, Contains-append_cases, Contains-append_left}, proofs.lemmas.List.Folds.{Any-from_list_any, list_any_at}, proofs.lemmas.Option.{slice_get-get_or}, proofs.lemmas.Grind.{common_steps}}
use Rattle.pmf_event.specs.{declared.name.Name.{Name}, declared.profile.Profile.{Profile}, Section.{Trace}}
use Rattle.pmf_ledger.{specs.declared.taking.Taken.{Taken}, specs.Gathered.{ClashesAt, Gains, Gathers, GathersBoth, Holds, HoldsOther, IsLedgerOf, Unites}, specs.LedgerValue.{LedgerValue}, specs.Repeats.{HaveOwnNames, is_name, names_of, no_section, section_at}, proofs.lemmas.AddingLemmas.{from_map, to_map}, proofs.lemmas.ReadingLemmas.{IsLedgerOf-members}, proofs.lemmas.RepeatLemmas.{is_name-yes, some_two}}
use Rattle.pmf_verdict.specs.Checked.{Checked}
use Rattle.pmf_world.{specs.Floors.{IsSent}, specs.Steps.{WorldState, set_at, stepped, with_set, arrive_found, join_found}, specs.Worlds.{IsOfWorld, StandsFor, Steps, WorldValue, ledger_at, sections_at}, specs.Gatherings.{JoinsAt, TakesAt, answer_of, with_ledger}, proofs.lemmas.WorldStandsLemmas.{StandsFor-set}}
use Rattle.pmf_ledger.specs.declared.taking.Taken.TheVariants as taken
use Rattle.pmf_world.specs.declared.step.WorldAnswer.TheVariants as answer
use Rattle.pmf_world.specs.declared.step.WorldStep.TheVariants as step

-- sections with names of their own have two names at two places
apart : (ss : List Trace) → HaveOwnNames ss → (i j : ℕ) → i < j → j < length ss → (section_at ss i).name ≡ (section_at ss j).name → ⊥
apart ss own i j less inside same =
    let name = (section_at ss j).name in
    let long = length-map ss (λ (r : Trace). r.name) in
    let at : (k : ℕ) → k < length ss → get_or (names_of ss) k name ≡ (section_at ss k).name = λ k there. get_or-map (λ (r : Trace). r.name) ss k no_section name there in
    own name (some_two (is_name name) (names_of ss) i j name less (omega (arith, inside, long))
    (is_name-yes name (get_or (names_of ss) i name) (at i (omega (arith, less, inside)) ∙ same)) (is_name-yes name (get_or (names_of ss) j name) (at j inside)))

-- where they have one name it is one place
same_place : (ss : List Trace) → HaveOwnNames ss → (i j : ℕ) → i < length ss → j < length ss → (section_at ss i).name ≡ (section_at ss j).name → i ≡ j
same_place ss own i j of_i of_j same = grind (arith, common_steps, apart)

-- of sections with names of their own two with one name are one
pub same_section : (ss : List Trace) → HaveOwnNames ss → (s t : Trace) → Contains ss s → Contains ss t → s.name ≡ t.name → s ≡ t
same_section ss own s t has_s has_t same =
    let at_s : section_at ss has_s.0 ≡ s = sym (get_or_default ss has_s.0 s no_section has_s.1) ∙ has_s.2 in
    let at_t : section_at ss has_t.0 ≡ t = sym (get_or_default ss has_t.0 t no_section has_t.1) ∙ has_t.2 in
    let one = same_place ss own has_s.0 has_t.0 has_s.1 has_t.1 (ap (λ (r : Trace). r.name) at_s ∙ same ∙ sym (ap (λ (r : Trace). r.name) at_t)) in
    sym at_s ∙ ap (section_at ss) one ∙ at_t

-- a ledger of some sections holds none of them with other events
pub holds_no_other : (profile : Profile) (ss : List Trace) (l : LedgerValue) (s : Trace) → HaveOwnNames ss → IsOfWorld profile ss l → Contains ss s → HoldsOther l s → ⊥
holds_no_other profile ss l s own ours has other = other.3 (same_section ss own other.0 s (ours.1 other.0 other.1) has other.2)

-- two ledgers of some sections don't clash
pub clash_nowhere : (profile : Profile) (ss : List Trace) (a b : LedgerValue) → HaveOwnNames ss → IsOfWorld profile ss a → IsOfWorld profile ss b → (name : Name) → ClashesAt a b name → ⊥
clash_nowhere profile ss a b own of_a of_b name clash = clash.6 (same_section ss own clash.0 clash.1 (of_a.1 clash.0 clash.2) (of_b.1 clash.1 clash.3) (clash.4 ∙ sym clash.5))

-- what takes one of the sections is still of them
pub is_ours-taken : (profile : Profile) (ss : List Trace) (l m : LedgerValue) (s : Trace) → IsOfWorld profile ss l → Contains ss s → Gains l s m → IsOfWorld profile ss m
is_ours-taken profile ss l m s ours has gains = (
  gains.profile_stays ∙ ours.0,
  λ t held. elim ((gains.holds t).0 held) [ inl before ↦ ours.1 t before | inr new ↦ subst (Contains ss) (sym new) has ],
)

-- and so is the join of two
pub is_ours-joined : (profile : Profile) (ss : List Trace) (a b m : LedgerValue) → IsOfWorld profile ss a → IsOfWorld profile ss b → Unites a b m → IsOfWorld profile ss m
is_ours-joined profile ss a b m of_a of_b unites = (
  unites.profile_stays ∙ of_a.0,
  λ t held. elim ((unites.holds t).0 held) [ inl first ↦ of_a.1 t first | inr second ↦ of_b.1 t second ],
)

-- a set of numbers has a number where their sections have its section
has_number : (ss : List Trace) (set : List ℕ) (s : ℕ) → HaveOwnNames ss → All (λ n. n < length ss) set → s < length ss → Contains (sections_at ss set) (section_at ss s) → Contains set s
has_number ss set s own within here found = grind (arith, common_steps, from_map, All-get_or, same_place)

-- and the test of a number finds it where it is
finds : (set : List ℕ) (s : ℕ) → Contains set s ↔ (list_any (eqb s) set ≡ true)
finds set s = grind (arith, common_steps, list_any_at, eq-eqb, Any-from_list_any, eqb-true)

-- the ledger of a set is that of the set with itself
twice_over : (profile : Profile) (xs : List Trace) (l : LedgerValue) → IsLedgerOf profile xs l → IsLedgerOf profile (xs ++ xs) l
twice_over profile xs l is = IsLedgerOf-members profile xs (xs ++ xs) l is
    (λ t. (Contains-append_left xs xs t, λ found. elim (Contains-append_cases xs xs t found) [ inl one ↦ one | inr other ↦ other ]))

module _ (old : WorldValue) (state : WorldState) (stands : StandsFor old state) where
  is_ledger : (k : ℕ) → k < length old.ledgers → IsLedgerOf (ledger_at old k).profile (sections_at old.sections (set_at state k)) (ledger_at old k)
  is_ledger k there = let is = stands.ledgers k there in subst (λ p. IsLedgerOf p (sections_at old.sections (set_at state k)) (ledger_at old k)) (sym is.profile_is) is

  there_is : (k : ℕ) → k < length old.ledgers → slice_get state.sets k ≡ Some (set_at state k)
  there_is k there = slice_get-get_or state.sets k [] (subst (λ n. k < n) stands.as_many there)

  within_at : (k : ℕ) → k < length old.ledgers → All (λ s. s < length old.sections) (set_at state k)
  within_at k there = All-get_or (All (λ s. s < length old.sections)) state.sets k [] (subst (λ n. k < n) stands.as_many there) stands.within

  module _ (k s : ℕ) (there : k < length old.ledgers) (here : s < length old.sections) (own : HaveOwnNames old.sections) where
    -- the ledger holds the section exactly where its number was gathered
    holds_it : Holds (ledger_at old k) (section_at old.sections s) ↔ (list_any (eqb s) (set_at state k) ≡ true)
    holds_it =
        let is = (is_ledger k there).same (section_at old.sections s) in (
          λ held. (finds (set_at state k) s).0 (has_number old.sections (set_at state k) s own (within_at k there) here (is.0 held)),
          λ found. is.1 (to_map (section_at old.sections) (set_at state k) s ((finds (set_at state k) s).1 found)),
        )

    answers : (t : Taken) → (t ≡ taken.Repeat) ↔ Holds (ledger_at old k) (section_at old.sections s) → (if list_any (eqb s) (set_at state k) then answer.Repeat else answer.Added) ≡ answer_of t
    answers t told = grind (arith, common_steps, holds_it)

-- a message of the section arrives
pub arrive-steps : (old new : WorldValue) (m k : ℕ) (v : Checked) (t : Taken) → HaveOwnNames old.sections → IsSent old.profile old.sections old.farm.messages m v → k < length old.ledgers → TakesAt old k v.section t new →
    Steps old (step.Arrive m k) (answer_of t) new
arrive-steps old new m k v t own sent there takes =
    let s = sent.0 in
    let here = sent.2 in
    let of = ap (λ (c : Checked). c.section) sent.3 in
    let repeat = subst (λ (x : Trace). (t ≡ taken.Repeat) ↔ Holds (ledger_at old k) x) of takes.repeat in
    let gathers = subst (λ (x : Trace). Gathers (ledger_at old k) x takes.ledger) of takes.gathers in
    subst (Steps old (step.Arrive m k) (answer_of t)) (sym takes.new_is) (record {
      profile_stays = refl;
      sections_stay = refl;
      follows = λ state stands.
          let gathered = set_at state k in
          let message = subst (λ f. slice_get f.messages m ≡ Some s) stands.farm sent.1 in
          let is = gathers (sections_at old.sections gathered) (is_ledger old state stands k there) in (
            with_set state k (s ∷ gathered),
            ap (λ o. arrive_found state k o (slice_get state.sets k)) message ∙ ap (arrive_found state k (Some s)) (there_is old state stands k there)
                ∙ ap (λ a. Ok (a, with_set state k (s ∷ gathered))) (answers old state stands k s there here own t repeat),
            grind (arith, common_steps, StandsFor-set, All-cons, within_at),
          );
    })

-- a message that was sent and ledgers that there are refuse nothing
module _ (old : WorldValue) (state : WorldState) (stands : StandsFor old state) (k : ℕ) (there : k < length old.ledgers) where
  pub arrive_ok : (m : ℕ) (v : Checked) → IsSent old.profile old.sections old.farm.messages m v → IsOk (stepped state (step.Arrive m k))
  arrive_ok m v sent = let message = subst (λ f. slice_get f.messages m ≡ Some sent.0) stands.farm sent.1 in rw (message, there_is old state stands k there) refl

  pub join_ok : (from : ℕ) → from < length old.ledgers → IsOk (stepped state (step.Join k from))
  join_ok from other = rw (there_is old state stands k there, there_is old state stands from other) refl

-- a ledger is joined with another
pub join_steps : (old new : WorldValue) (k from : ℕ) → k < length old.ledgers → from < length old.ledgers → JoinsAt old k from new → Steps old (step.Join k from) answer.Joined new
join_steps old new k from there other joins =
    subst (Steps old (step.Join k from) answer.Joined) (sym joins.new_is) (record {
      profile_stays = refl;
      sections_stay = refl;
      follows = λ state stands.
          let own = set_at state k in
          let added = set_at state from in
          let second = subst (λ p. IsLedgerOf p (sections_at old.sections added) (ledger_at old from)) (sym (stands.ledgers k there).profile_is) (stands.ledgers from other) in
          let is = joins.gathers (sections_at old.sections own) (sections_at old.sections added) (is_ledger old state stands k there) second in
          let both = subst (λ xs. IsLedgerOf (ledger_at old k).profile xs joins.ledger) (sym (map-append (section_at old.sections) own added)) is in (
            with_set state k (own ++ added),
            ap (λ o. join_found state k o (slice_get state.sets from)) (there_is old state stands k there) ∙ ap (join_found state k (Some own)) (there_is old state stands from other),
            StandsFor-set old state k joins.ledger (own ++ added) there
                (subst (λ p. IsLedgerOf p (sections_at old.sections (own ++ added)) joins.ledger) ((stands.ledgers k there).profile_is) both)
                (All-append (λ n. n < length old.sections) own added (within_at old state stands k there) (within_at old state stands from other)) stands,
          );
    })

-- a ledger joined with itself stays
pub join-itself : (old : WorldValue) (k : ℕ) → k < length old.ledgers → Steps old (step.Join k k) answer.Joined old
join-itself old k there = record {
  profile_stays = refl;
  sections_stay = refl;
  follows = λ state stands.
      let own = set_at state k in
      let is = subst (λ xs. IsLedgerOf old.profile xs (ledger_at old k)) (sym (map-append (section_at old.sections) own own)) (twice_over old.profile (sections_at old.sections own) (ledger_at old k) (stands.ledgers k there)) in
      let within = within_at old state stands k there in (
        with_set state k (own ++ own),
        ap (λ o. join_found state k o (slice_get state.sets k)) (there_is old state stands k there) ∙ ap (join_found state k (Some own)) (there_is old state stands k there),
        subst (λ ls. StandsFor (record { profile = old.profile; sections = old.sections; farm = old.farm; ledgers = ls }) (with_set state k (own ++ own)))
            (set-get_or old.ledgers k (record { profile = old.profile; sections = [] }))
            (StandsFor-set old state k (ledger_at old k) (own ++ own) there is (All-append (λ n. n < length old.sections) own own within within) stands),
      );
}

-- a ledger that was read is the one of this number
pub ledger-is : (profile : Profile) (ls : List LedgerValue) (k : ℕ) (l : LedgerValue) → l ≡ get_or ls k l → k < length ls → l ≡ get_or ls k (record { profile = profile; sections = [] })
ledger-is profile ls k l read there = read ∙ get_or_default ls k l (record { profile = profile; sections = [] }) there

-- and is one of the world's
pub ledger-ours : (profile : Profile) (ss : List Trace) (ls : List LedgerValue) (k : ℕ) (l : LedgerValue) → l ≡ get_or ls k l → k < length ls → All (IsOfWorld profile ss) ls → IsOfWorld profile ss l
ledger-ours profile ss ls k l read there ours = subst (IsOfWorld profile ss) (sym read) (All-get_or (IsOfWorld profile ss) ls k l there ours)

module _ {E : Type 0} (profile : Profile) (ss : List Trace) (l m : LedgerValue) (s : Trace) (ours : IsOfWorld profile ss l) (has : Contains ss s) where
  -- what took a section, or was refused memory, is still one of the world's
  pub is_ours-after : (r : Result Taken E) → OnOk r (Gains l s m) → OnErr r (m ≡ l) → IsOfWorld profile ss m
  is_ours-after (Ok t) gains same = is_ours-taken profile ss l m s ours has gains
  is_ours-after (Err e) gains same = subst (IsOfWorld profile ss) (sym same) ours

-- what the ledger of this number took
pub takes-at : {E : Type 0} (old seen : WorldValue) (k : ℕ) (s : Trace) (l m : LedgerValue) (r : Result Taken E) → seen ≡ old → l ≡ ledger_at seen k → OnOk r (Gathers l s m) → (r ≡ Ok taken.Repeat) ↔ Holds l s →
    IfOk r (λ t. TakesAt old k s t (with_ledger seen k m))
takes-at old seen k s l m (Ok t) is read gathers repeat =
    subst (λ o. TakesAt o k s t (with_ledger seen k m)) is (record {
      ledger = m;
      new_is = refl;
      gathers = subst (λ x. Gathers x s m) read gathers;
      repeat = subst (λ x. (t ≡ taken.Repeat) ↔ Holds x s) read (λ same. repeat.0 (ap Ok same), λ held. (let same = repeat.1 held in cc));
    })
takes-at old seen k s l m (Err e) is read gathers repeat = search rules

-- what the ledger of this number was joined with
pub joins-at : (old seen : WorldValue) (k from : ℕ) (a b m : LedgerValue) (ledgers : List LedgerValue) → seen ≡ old → a ≡ ledger_at seen k → b ≡ ledger_at seen from → GathersBoth a b m → ledgers ≡ set seen.ledgers k m →
    JoinsAt old k from (record { profile = seen.profile; sections = seen.sections; farm = seen.farm; ledgers = ledgers })
joins-at old seen k from a b m ledgers is own other gathers same =
    subst (λ o. JoinsAt o k from (record { profile = seen.profile; sections = seen.sections; farm = seen.farm; ledgers = ledgers })) is (record {
      ledger = m;
      new_is = ap (λ ls. record { profile = seen.profile; sections = seen.sections; farm = seen.farm; ledgers = ls }) same;
      gathers = subst (λ x. GathersBoth x (ledger_at seen from) m) own (subst (λ x. GathersBoth a x m) other gathers);
    })

-- a ledger that was put at a number twice
pub set-again : {X : Type 0} (xs : List X) (k : ℕ) (x y : X) → set (set xs k x) k y ≡ set xs k y
set-again [] k x y = refl
set-again (z ∷ xs) zero x y = refl
set-again (z ∷ xs) (suc k) x y = ap (λ ys. z ∷ ys) (set-again xs k x y)
