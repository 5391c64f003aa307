-- A finding by its parts.
use Rattle.std.proofs.{Common.{◌≡◌, ℕ, ◌<◌, Bool, true, false, if◌then◌else◌, List, sym, ◌∙◌, ap, arith, Option, Some, None, is_some, is_none, ne_eqb, eq-eqb}, lemmas.Bool.{and_parts, ltb-true}}
use Rattle.pmf_event.{specs.declared.event.Event.{Event}, specs.declared.finding.Finding.{Finding}, specs.declared.finding.Finding.TheVariants.{PersistEmpty, OrderedEmpty}, specs.declared.interval.Interval.{Interval}, specs.declared.profile.Profile.{Profile}, specs.Line.{line_of_byte}, specs.Store.{last_store, epoch_of, stores}, specs.Interval.{interval_at, closing_fence, epoch_after}, specs.Span.{Extent}, specs.Ranges.{first_byte}, specs.Persist.{is_checked, is_exposed, pass_unless, persist_finding}, specs.Order.{is_unordered, is_certified, least_pair, finding_of_pairs, ordered_finding}, proofs.LeastPairLemmas.{pair-from, certified-unordered}}
use Rattle.pmf_shadow.specs.Told.{interval_as_told}

is_none-by : (o : Option ℕ) (v : Bool) → is_some o ≡ v → is_none o ≡ (if v then false else true)
is_none-by o v is = grind arith

module _ (es : List Event) (p : ℕ) where
  pub persist-empty : (s : Extent) → is_some (first_byte (is_checked es p) s) ≡ false → PersistEmpty ≡ persist_finding es p s
  unfolding persist_finding
  persist-empty s none = sym (ap (λ v. if v then PersistEmpty else pass_unless (first_byte (is_exposed es p) s)) (is_none-by (first_byte (is_checked es p) s) false none))

  pub persist-found : (s : Extent) (o : Option ℕ) → is_some (first_byte (is_checked es p) s) ≡ true → o ≡ first_byte (is_exposed es p) s → pass_unless o ≡ persist_finding es p s
  unfolding persist_finding
  persist-found s o some is = ap pass_unless is ∙ sym (ap (λ v. if v then PersistEmpty else pass_unless (first_byte (is_exposed es p) s)) (is_none-by (first_byte (is_checked es p) s) true some))

  module _ (profile : Profile) (a b : Extent) where
    pairs : Finding
    pairs = finding_of_pairs es p (least_pair (is_certified profile es p) a b) (least_pair (is_unordered profile es p) a b)

    pub ordered-empty : is_some (first_byte (is_checked es p) a) ≡ false → OrderedEmpty ≡ ordered_finding profile es p a b
    unfolding ordered_finding pairs
    ordered-empty none = sym (ap (λ v. if v then OrderedEmpty else if is_none (first_byte (is_checked es p) b) then OrderedEmpty else pairs) (is_none-by (first_byte (is_checked es p) a) false none))

    pub ordered-empty-second : is_some (first_byte (is_checked es p) a) ≡ true → is_some (first_byte (is_checked es p) b) ≡ false → OrderedEmpty ≡ ordered_finding profile es p a b
    unfolding ordered_finding pairs
    ordered-empty-second some none = grind arith

    pub ordered-found : (certified unordered : Option (ℕ × ℕ)) → is_some (first_byte (is_checked es p) a) ≡ true → is_some (first_byte (is_checked es p) b) ≡ true →
        certified ≡ least_pair (is_certified profile es p) a b → unordered ≡ least_pair (is_unordered profile es p) a b →
        finding_of_pairs es p certified unordered ≡ ordered_finding profile es p a b
    unfolding ordered_finding pairs
    ordered-found certified unordered some other is_certified_one is_unordered_one = grind arith

-- ---- the place of a store

module _ (told : ℕ → ℕ) (es : List Event) (p b : ℕ) where
  -- the interval of a written byte
  found : Option Interval
  found = Some (record { last = last_store es p b; opens = epoch_of es (last_store es p b); closes = epoch_after es (closing_fence (stores b) (line_of_byte b) es p) })

  at-written : 0 < last_store es p b → interval_at es p b ≡ found
  unfolding found
  at-written some = ap (λ v. if v then None else found) (ne_eqb (last_store es p b) 0 (λ none. omega arith))

  at-unwritten : last_store es p b ≡ 0 → interval_at es p b ≡ None
  unfolding found
  at-unwritten none = ap (λ v. if v then None else found) (eq-eqb (last_store es p b) 0 none)

  pub place-written : (i : Interval) → Some i ≡ interval_as_told told (interval_at es p b) → 0 < last_store es p b → i.last ≡ told (last_store es p b)
  unfolding found
  place-written i is some = grind arith

  pub never-written : None ≡ interval_as_told told (interval_at es p b) → 0 < last_store es p b → ⊥
  unfolding found
  never-written is some = let bad : None ≡ interval_as_told told found = is ∙ ap (interval_as_told told) (at-written some) in cc

  pub never-unwritten : (i : Interval) → Some i ≡ interval_as_told told (interval_at es p b) → last_store es p b ≡ 0 → ⊥
  never-unwritten i is none = let bad : Some i ≡ None = is ∙ ap (interval_as_told told) (at-unwritten none) in cc

checked-written : (es : List Event) (p y : ℕ) → is_checked es p y ≡ true → 0 < last_store es p y
unfolding is_checked
checked-written es p y is = ltb-true 0 (last_store es p y) (and_parts _ _ is).0

unordered-checked : (profile : Profile) (es : List Event) (p x y : ℕ) → is_unordered profile es p x y ≡ true → is_checked es p y ≡ true
unfolding is_unordered
unordered-checked profile es p x y is = grind arith

-- the later byte of a certified pair is written
pub certified-written : (profile : Profile) (es : List Event) (p : ℕ) (a b : Extent) (x y : ℕ) → least_pair (is_certified profile es p) a b ≡ Some (x, y) → 0 < last_store es p y
certified-written profile es p a b x y is =
    let pair = pair-from (is_certified profile es p) a b x y is in
    checked-written es p y (unordered-checked profile es p x y (certified-unordered profile es p x y pair.passes))
