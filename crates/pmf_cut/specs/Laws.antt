-- Which rows of a part are those of the whole. Laws, which the crate's empty public functions prove.
use Rattle.std.specs.Prelude.{◌≡◌, ◌⊎◌, ℕ, suc, ◌+◌, ◌<◌, true, List, length, Option, Some}
use Rattle.pmf_event.specs.{declared.event.Event.{Event}, declared.event.Event.TheVariants.{Persist, Ordered}, declared.finding.Finding.{Finding}, declared.finding.Finding.TheVariants.{PersistPass, PersistEmpty, OrderedPass, OrderedEmpty, OrderedFail, Unclosed}, declared.profile.Profile.{Profile}, Span.{Extent, covers_byte}, Store.{event_at, last_store}, Persist.{is_checked, persist_finding}, Order.{ordered_finding}, LineBytes.{HasBytes}, Transactions.{close_finding}}
use Rattle.pmf_verdict.specs.Rows.{findings_of}
use Rattle.pmf_cut.specs.Alike.{IsCut, GoesOn}

-- the finding of the part is that of the whole, but that a PASS may be EMPTY
abbrev pub IsSameOrEmpty : Finding → Finding → Type 0
IsSameOrEmpty whole part = (part ≡ whole) ⊎ ((whole ≡ PersistPass) × (part ≡ PersistEmpty))

-- the same of an order assertion, whose crash is told by a place of the list: of the part in the part
abbrev pub IsSameOrder : Finding → Finding → Type 0
IsSameOrder (OrderedFail x y crash) part = (place : ℕ) × (part ≡ OrderedFail x y place)
IsSameOrder whole part = (part ≡ whole) ⊎ ((whole ≡ OrderedPass) × (part ≡ OrderedEmpty))

-- of each pair of checked bytes of an order assertion at n, which is place m of the part: the part knows a store of both, or
-- the second was stored to behind the cut
abbrev pub KnowsPairs : List Event → ℕ → ℕ → List Event → ℕ → Extent → Extent → Type 0
KnowsPairs es p n fs m a b = (x y : ℕ) → covers_byte a x ≡ true → covers_byte b y ≡ true → is_checked es n x ≡ true → is_checked es n y ≡ true →
    ((0 < last_store fs m x) × (0 < last_store fs m y)) ⊎ (p < last_store es n y)

-- what is found at place m of the part, by what is found at place n of the whole, which is behind the cut at p
abbrev pub Stays : Profile → List Event → ℕ → ℕ → List Event → ℕ → Option Event → Type 0
Stays profile es p n fs m (Some (Persist s)) = IsSameOrEmpty (persist_finding es n s) (persist_finding fs m s)
Stays profile es p n fs m (Some (Ordered a b)) =
    KnowsPairs es p n fs m a b → IsSameOrder (ordered_finding profile es n a b) (ordered_finding profile fs m a b)
Stays profile es p n fs m e = findings_of profile fs m e ≡ findings_of profile es n e

-- behind a cut all findings stay
abbrev pub FindingsStay : Type 0
FindingsStay = (profile : Profile) (es : List Event) (p : ℕ) (fs : List Event) (q n : ℕ) → HasBytes es (p + n) → HasBytes fs (q + n) →
    IsCut es p fs q → GoesOn es p fs q (suc n) → Stays profile es p (suc (p + n)) fs (suc (q + n)) (event_at es (suc (p + n)))

-- a scope that is left open is told where a part ends as where the whole ends, but by its place in the part
abbrev pub IsSameEnd : ℕ → ℕ → Option Finding → Option Finding → Type 0
IsSameEnd p q (Some (Unclosed start)) part = (place : ℕ) × (part ≡ Some (Unclosed place)) × (place + p ≡ start + q)
IsSameEnd p q whole part = part ≡ whole

-- where a part goes on up to the end of the whole, what is found at the end stays
abbrev pub EndsStay : Type 0
EndsStay = (es : List Event) (p : ℕ) (fs : List Event) (q n : ℕ) → length es ≡ p + n →
    IsCut es p fs q → GoesOn es p fs q n → IsSameEnd p q (close_finding es (p + n)) (close_finding fs (q + n))
