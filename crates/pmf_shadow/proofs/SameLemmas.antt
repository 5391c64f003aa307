-- What the definitions say at p looks only at the events up to p.
use Rattle.std.proofs.{Common.{◌≡◌, ℕ, zero, suc, ◌-◌, ◌<◌, ◌≤◌, Bool, ◌&&◌, ◌==◌, nat_lt, if◌then◌else◌, List, [], ◌∷◌, ◌++◌, length, take, refl, sym, ◌∙◌, ap, arith, eq-eqb, ne_eqb, Some, slice_get, length-take-le}, lemmas.Bool.{cases_lt}, lemmas.Option.{slice_get_within}}
use Rattle.pmf_event.{specs.declared.event.Event.{Event}, specs.Places.{greatest, least, count}, specs.Store.{event_at, passes, at, flushes, is_fence, last, epoch_of}, specs.Interval.{writes_back, first_write_back}, specs.WriteBack.{write_back_epoch}, specs.Exclusion.{is_excluded}, specs.LineBytes.{HasBytes}, proofs.PlacesLemmas.{SameUpTo, least-bound}, proofs.WriteBackLemmas.{last-bound}}
use Rattle.pmf_shadow.specs.Laws.{SameEvents, SamePlaces}

-- ---- searches

pub greatest-same : (s t : ℕ → Bool) (n : ℕ) → SameUpTo s t n → greatest s n ≡ greatest t n
unfolding greatest
greatest-same s t zero same = refl
greatest-same s t (suc n) same =
    rw (same (suc n) (omega arith) (omega arith), greatest-same s t n (λ k some within. same k some (omega arith))) refl

pub least-same : (s t : ℕ → Bool) (n : ℕ) → SameUpTo s t n → least s n ≡ least t n
unfolding least
least-same s t zero same = refl
least-same s t (suc n) same =
    rw (same (suc n) (omega arith) (omega arith), least-same s t n (λ k some within. same k some (omega arith))) refl

pub count-same : (s t : ℕ → Bool) (n : ℕ) → SameUpTo s t n → count s n ≡ count t n
unfolding count
count-same s t zero same = refl
count-same s t (suc n) same =
    rw (same (suc n) (omega arith) (omega arith), count-same s t n (λ k some within. same k some (omega arith))) refl

-- ---- tests on events

pub same-before : (es fs : List Event) (p q : ℕ) → q ≤ p → SameEvents es fs p → SameEvents es fs q
same-before es fs p q before same k within = same k (omega arith)

module _ (es fs : List Event) (p : ℕ) (same : SameEvents es fs p) where
  pub at-same : (test : Event → Bool) (k : ℕ) → k ≤ p → at test es k ≡ at test fs k
  unfolding at
  at-same test k within = ap (passes test) (same k within)

  pub at-same_up_to : (test : Event → Bool) → SameUpTo (at test es) (at test fs) p
  at-same_up_to test k some within = at-same test k within

  pub last-same : (test : Event → Bool) → last test es p ≡ last test fs p
  unfolding last
  last-same test = greatest-same (at test es) (at test fs) p (at-same_up_to test)

  pub count_at-same : (test : Event → Bool) → count (at test es) p ≡ count (at test fs) p
  count_at-same test = count-same (at test es) (at test fs) p (at-same_up_to test)

  pub epoch_of-same : (k : ℕ) → k ≤ p → epoch_of es k ≡ epoch_of fs k
  unfolding epoch_of
  epoch_of-same k within = count-same (at is_fence es) (at is_fence fs) (k - 1) (λ i some below. at-same is_fence i (omega arith))

  writes_back-same : (line k : ℕ) → SameUpTo (writes_back es line k) (writes_back fs line k) p
  unfolding writes_back
  writes_back-same line k w some within = ap (λ v. nat_lt k w && v) (at-same (flushes line) w within)

  pub first_write_back-same : (stored : Event → Bool) (line : ℕ) → first_write_back stored line es p ≡ first_write_back stored line fs p
  unfolding first_write_back
  first_write_back-same stored line = grind (arith, least-same, writes_back-same, last-same)

  first_write_back-bound : (stored : Event → Bool) (line : ℕ) → first_write_back stored line es p ≤ p
  unfolding first_write_back
  first_write_back-bound stored line = least-bound (writes_back es line (last stored es p)) p

  pub write_back_epoch-same : (stored : Event → Bool) (line : ℕ) → write_back_epoch stored line es p ≡ write_back_epoch stored line fs p
  unfolding write_back_epoch
  write_back_epoch-same stored line = grind (arith, epoch_of-same, first_write_back-bound, first_write_back-same)

  pub last_epoch-same : (stored : Event → Bool) → epoch_of es (last stored es p) ≡ epoch_of fs (last stored fs p)
  last_epoch-same stored = epoch_of-same (last stored es p) (last-bound stored es p) ∙ ap (epoch_of fs) (last-same stored)

  pub excluded-same : (b : ℕ) → is_excluded es p b ≡ is_excluded fs p b
  unfolding is_excluded
  excluded-same b = grind (arith, at-same, last-bound, last-same)

  pub sized-same : HasBytes es p → HasBytes fs p
  sized-same sized k s within is = sized k s within (same k within ∙ is)

-- ---- lists that go on

pub slice_get-front : (xs ys : List Event) (k : ℕ) → k < length xs → slice_get (xs ++ ys) k ≡ slice_get xs k
slice_get-front [] ys k below = absurd (omega arith)
slice_get-front (x ∷ xs) ys zero below = refl
slice_get-front (x ∷ xs) ys (suc k) below = slice_get-front xs ys k (omega arith)

slice_get-seam : (xs : List Event) (e : Event) → slice_get (xs ++ e ∷ []) (length xs) ≡ Some e
slice_get-seam [] e = refl
slice_get-seam (x ∷ xs) e = slice_get-seam xs e

slice_get-take : (n : ℕ) (xs : List Event) (k : ℕ) → k < n → slice_get (take n xs) k ≡ slice_get xs k
slice_get-take zero xs k below = absurd (omega arith)
slice_get-take (suc n) [] k below = refl
slice_get-take (suc n) (x ∷ xs) zero below = refl
slice_get-take (suc n) (x ∷ xs) (suc k) below = slice_get-take n xs k (omega arith)

-- a list and the same with an event at its end
pub same-longer : (es : List Event) (e : Event) → SameEvents es (es ++ e ∷ []) (length es)
unfolding event_at
same-longer es e case2 within = grind (arith, slice_get-front)

pub at_the_end : (es : List Event) (e : Event) → event_at (es ++ e ∷ []) (suc (length es)) ≡ Some e
unfolding event_at
at_the_end es e = slice_get-seam es e

pub within-list : (es : List Event) (p : ℕ) (e : Event) → event_at es (suc p) ≡ Some e → p < length es
unfolding event_at
within-list es p e here = slice_get_within es p e here

-- a list and its first p events
pub same-taken : (es : List Event) (p : ℕ) → SameEvents es (take p es) p
unfolding event_at
same-taken es p case2 within = grind (arith, slice_get-take)

pub length-taken : (es : List Event) (p : ℕ) (e : Event) → event_at es (suc p) ≡ Some e → length (take p es) ≡ p
length-taken es p e here = let within = within-list es p e here in length-take-le p es (omega arith)

-- its first p events with the next one at their end are its first events too
pub same-retaken : (es : List Event) (p : ℕ) (e : Event) → event_at es (suc p) ≡ Some e → SameEvents (take p es ++ e ∷ []) es (suc p)
same-retaken es p e here k within = grind (arith, cases_lt, length-taken, at_the_end, same-longer, same-taken)

-- the places that were told, but that this one is told of event n
abbrev pub told_also : ℕ → ℕ → (ℕ → ℕ) → ℕ → ℕ
told_also n place told k = if k == n then place else told k

pub same-places_before : (n place : ℕ) (told : ℕ → ℕ) → SamePlaces told (told_also (suc n) place told) n
same-places_before n place told k within = sym (ap (λ v. if v then place else told k) (ne_eqb k (suc n) (λ same. omega (arith, same))))

pub told-there : (n place : ℕ) (told : ℕ → ℕ) → told_also n place told n ≡ place
told-there n place told = ap (λ v. if v then place else told n) (eq-eqb n n refl)
