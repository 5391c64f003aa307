-- The sections that are asked for, with one more, and a section that is missing.
use Rattle.std.{proofs.Common.{◌≡◌, ℕ, zero, suc, ◌==◌, ◌<◌, ◌||◌, Bool, true, false, cond, List, [], ◌∷◌, ◌++◌, Option, None, Some, Result, Ok, Err, Contains, length, map, take, drop, ◌+◌, get_or, take-append-drop, refl, sym, ap, subst, ◌∙◌, arith, append-nil, is_none, eq-eqb}, proofs.lemmas.Bool.{eqb-true, false≢true}, proofs.lemmas.List.{map-append, map_more}, proofs.lemmas.List.Elements.{Contains-append_left, Contains-append_right, Contains-push, filter-append}, specs.{Option.{unwrap_or}, Result.{OnOk}}}
use Rattle.std.specs.List.{list_any}
use Rattle.pmf_event.specs.Section.{Trace}
use Rattle.pmf_request.specs.declared.settings.Reasons.{Reasons}
use Rattle.pmf_query.specs.{declared.refusal.{EventFault.{EventFault}, EventRefusal.{EventRefusal}}, declared.streaming.{Unanswered.{Unanswered}, Unanswered.TheVariants.{Refused}}, Streaming.{Recites}}
use Rattle.pmf_why.specs.{declared.taking.Telling.{Telling}, Reasons.{is_asked}, Telling.{HasParts}, Why.{IsWhyFault, IsWhyRefusal, asked_sections, refusal_of}}

module _ (asked : Reasons) (bytes : List ℕ) (sections : List Trace) (t : Trace) where
  section-more : (b : Bool) → is_asked asked.section t.name.number ≡ b → asked_sections asked (sections ++ t ∷ []) ≡ asked_sections asked sections ++ cond b (t ∷ []) []
  section-more b is = filter-append (λ (t : Trace). is_asked asked.section t.name.number) sections (t ∷ []) ∙ ap (λ b. asked_sections asked sections ++ cond b (t ∷ []) []) is

  module _ (old : Telling) (has : HasParts asked bytes (asked_sections asked sections) old) where
    same : is_asked old.asked.section t.name.number ≡ is_asked asked.section t.name.number
    same = ap (λ (a : Reasons). is_asked a.section t.name.number) has.rows.asked_is

    pub passed_by : is_asked old.asked.section t.name.number ≡ false → HasParts asked bytes (asked_sections asked (sections ++ t ∷ [])) old
    passed_by apart = subst (λ (ts : List Trace). HasParts asked bytes ts old) (sym (section-more false (sym same ∙ apart) ∙ append-nil (asked_sections asked sections))) has

    pub taken_up : is_asked old.asked.section t.name.number ≡ true → {E : Type 0} (r : Result (Unit {0}) E) (new : Telling) → OnOk r (HasParts asked bytes (asked_sections asked sections ++ t ∷ []) new) →
        OnOk r (HasParts asked bytes (asked_sections asked (sections ++ t ∷ [])) new)
    taken_up is (Ok u) new parts = subst (λ (ts : List Trace). HasParts asked bytes ts new) (sym (section-more true (sym same ∙ is))) parts
    taken_up is (Err e) new parts = parts

first_is : (n number : ℕ) (rest : Bool) → n ≡ number → ((n == number) || rest) ≡ false → ⊥
first_is n number rest same none = false≢true (sym none ∙ ap (λ b. b || rest) (eq-eqb n number same))

or_right : (a b : Bool) → (a || b) ≡ false → b ≡ false
or_right true b is = absurd cc
or_right false b is = is

-- a section of this number, among some that have none
none_has : {A : Type 0} (value : A → Trace) (number : ℕ) (xs : List A) → list_any (λ s. (value s).name.number == number) xs ≡ false → (i : ℕ) (d : Trace) → i < length (map value xs) → (get_or (map value xs) i d).name.number ≡ number → ⊥
none_has value number [] none i d within is = absurd (omega arith)
none_has value number (x ∷ xs) none zero d within is = (first_is (value x).name.number number (list_any (λ s. (value s).name.number == number) xs) is none)
none_has value number (x ∷ xs) none (suc i) d within is = none_has value number xs (or_right ((value x).name.number == number) _ none) i d (omega arith) is

pub missing : {A : Type 0} (value : A → Trace) (named : Option ℕ) (xs : List A) → (is_none named || list_any (λ s. is_asked named (value s).name.number) xs) ≡ false →
    (number : ℕ) × (named ≡ Some number) × ((t : Trace) → Contains (map value xs) t → t.name.number ≡ number → ⊥)
missing value None xs is = absurd cc
missing value (Some number) xs is = (number, refl, λ t found same. none_has value number xs is found.0 t found.1 (ap (λ (s : Trace). s.name.number) found.2 ∙ same))

same_number : (a b : ℕ) → ◌≡◌ {A = Option ℕ} (Some a) (Some b) → a ≡ b
same_number a b is = cc

-- a section of this number, among some that have one
abbrev HasNumber : List Trace → ℕ → Type 0
HasNumber ts number = (t : Trace) × Contains ts t × (t.name.number ≡ number)

by_first : (t : Trace) (ts : List Trace) (number : ℕ) (first rest : Bool) → (t.name.number == number) ≡ first → (rest ≡ true → HasNumber ts number) → (first || rest) ≡ true → HasNumber (t ∷ ts) number
by_first t ts number true rest is later some = (t, Contains-append_left (t ∷ []) ts t (Contains-push [] t), eqb-true _ _ is)
by_first t ts number false rest is later some = let found = later some in (found.0, Contains-append_right (t ∷ []) ts found.0 found.1, found.2)

one_has : {A : Type 0} (value : A → Trace) (number : ℕ) (xs : List A) → list_any (λ s. (value s).name.number == number) xs ≡ true → HasNumber (map value xs) number
one_has value number [] some = absurd cc
one_has value number (x ∷ xs) some =
    by_first (value x) (map value xs) number ((value x).name.number == number) (list_any (λ s. (value s).name.number == number) xs) refl (one_has value number xs) some

-- the section that is named is there
pub named_there : {A : Type 0} (value : A → Trace) (named : Option ℕ) (xs : List A) → (is_none named || list_any (λ s. is_asked named (value s).name.number) xs) ≡ true →
    (number : ℕ) → named ≡ Some number → (t : Trace) × Contains (map value xs) t × (t.name.number ≡ number)
named_there value None xs some number is = absurd cc
named_there value (Some n) xs some number is = let found = one_has value n xs some in (found.0, found.1, found.2 ∙ same_number n number is)

-- a refusal, with which nothing is written
pub refused_so : {W : Type 0} (IsText : Unit {0} → List ℕ → Type 0) (asked : Reasons) (bytes : List ℕ) (held : W → Option (List ℕ)) (sink : W) (why : Unanswered EventRefusal) (fault : EventFault) →
    why ≡ Refused (refusal_of asked fault) → IsWhyFault asked bytes fault → Recites IsText (IsWhyRefusal asked bytes) held sink sink (Err why)
refused_so IsText asked bytes held sink why fault is because =
    subst (λ u. Recites IsText (IsWhyRefusal asked bytes) held sink sink (Err u)) (sym is) ((refl, λ number named. ap (λ o. unwrap_or o 0) named, because), refl)

-- ---- the sections that were met, and one more

pub met_parts : {A : Type 0} (value : A → Trace) (xs : List A) (i : ℕ) → map value xs ≡ map value (take i xs) ++ map value (drop i xs)
met_parts value xs i = ap (map value) (sym (take-append-drop i xs)) ∙ map-append value (take i xs) (drop i xs)

pub met_more : {A : Type 0} (value : A → Trace) (xs : List A) (i : ℕ) (x : A) → i < length xs → x ≡ get_or xs i x → map value (take (i + 1) xs) ≡ map value (take i xs) ++ value x ∷ []
met_more value xs i x within is = map_more value xs i x within ∙ ap (λ y. map value (take i xs) ++ value y ∷ []) (sym is)
