-- Laws of events as they are kept.
use Rattle.std.proofs.{Common.{◌≡◌, ℕ, zero, suc, ◌+◌, ◌<◌, ◌≤◌, ◌^◌, List, [], ◌∷◌, ◌++◌, map, length, get_or, None, Some, inl, inr, refl, sym, ◌∙◌, ap, subst, arith, slice_get}, lemmas.Nat.{from_le_bytes-to_le_bytes_4}, lemmas.Option.{slice_get_read, slice_get-map}, lemmas.List.{length-map, length-append, map-append}, lemmas.Bool.{cases_lt}}
use Rattle.std.specs.Option.{option_map}
use Rattle.pmf_event.specs.{Span.{Extent}, Packed.{number_of, to_number, ordered_by, event_of, IsWithin, AreWithin, behind}, declared.packed.Packed.{Packed}, declared.event.Event.{Event}, declared.event.Event.TheVariants.{Ordered}}
use Rattle.pmf_event.specs.declared.packed.Packed.TheVariants as packed

get-front : {X : Type 0} (xs ys : List X) (k : ℕ) → k < length xs → slice_get (xs ++ ys) k ≡ slice_get xs k
get-front [] ys k h = absurd (omega arith)
get-front (x ∷ xs) ys zero h = refl
get-front (x ∷ xs) ys (suc k) h = get-front xs ys k (omega arith)

pub get-behind : {X : Type 0} (xs ys : List X) (k : ℕ) → slice_get (xs ++ ys) (length xs + k) ≡ slice_get ys k
get-behind [] ys k = ap (slice_get ys) (let none : length {A = Extent} [] + k ≡ k = omega arith in none)
get-behind (x ∷ xs) ys k = ap (slice_get (x ∷ xs ++ ys)) (let more : length (x ∷ xs) + k ≡ suc (length xs + k) = omega arith in more) ∙ get-behind xs ys k

-- what names one of some pairs names one of more
one-more : (few more : ℕ) (k : Packed) → few ≤ more → IsWithin few k → IsWithin more k
one-more few more (packed.Ordered n) le within = omega (arith, le, within)
one-more few more _ le within = tt

pub are_more : (few more : ℕ) (ks : List Packed) → few ≤ more → AreWithin few ks → AreWithin more ks
are_more few more [] le within = tt
are_more few more (k ∷ ks) le within = (one-more few more k le within.0, are_more few more ks le within.1)

pub are_both : (count : ℕ) (ks js : List Packed) → AreWithin count ks → AreWithin count js → AreWithin count (ks ++ js)
are_both count [] js here there = there
are_both count (k ∷ ks) js here there = (here.0, are_both count ks js here.1 there)

none-some : {X : Type 0} {x : X} → None ≡ Some x → ⊥
none-some same = cc

some-same : {X : Type 0} {x y : X} → Some x ≡ Some y → x ≡ y
some-same same = cc

pub one_of : (count : ℕ) (ks : List Packed) (i : ℕ) (k : Packed) → AreWithin count ks → slice_get ks i ≡ Some k → IsWithin count k
one_of count [] i k within here = absurd (none-some here)
one_of count (j ∷ ks) zero k within here = subst (IsWithin count) (some-same here) within.0
one_of count (j ∷ ks) (suc i) k within here = one_of count ks i k within.1 here

-- more pairs behind change no event
event-more : (ps qs : List (Extent × Extent)) (k : Packed) → IsWithin (length ps) k → event_of (ps ++ qs) k ≡ event_of ps k
event-more ps qs (packed.Ordered n) within = ap ordered_by (get-front ps qs (number_of n) within)
event-more ps qs (packed.Store s) within = refl
event-more ps qs (packed.Flush s) within = refl
event-more ps qs packed.Fence within = refl
event-more ps qs (packed.Persist s) within = refl
event-more ps qs (packed.Exclude s) within = refl
event-more ps qs (packed.Include s) within = refl
event-more ps qs packed.TxBegin within = refl
event-more ps qs (packed.TxAdd s) within = refl
event-more ps qs packed.TxEnd within = refl
event-more ps qs packed.CheckStart within = refl
event-more ps qs packed.CheckEnd within = refl

pub events_more : (ps qs : List (Extent × Extent)) (ks : List Packed) → AreWithin (length ps) ks → map (event_of (ps ++ qs)) ks ≡ map (event_of ps) ks
events_more ps qs [] within = refl
events_more ps qs (k ∷ ks) within = ap (λ e. e ∷ map (event_of (ps ++ qs)) ks) (event-more ps qs k within.0) ∙ ap (λ es. event_of ps k ∷ es) (events_more ps qs ks within.1)

-- the event at an index is that of what is kept there
pub kept_at : (ps : List (Extent × Extent)) (ks : List Packed) (es : List Event) (i : ℕ) (k : Packed) → map (event_of ps) ks ≡ es → i < length es →
    k ≡ get_or ks i k → slice_get ks i ≡ Some k
kept_at ps ks es i k view within here =
    let long : length es ≡ length ks = ap length (sym view) ∙ length-map ks (event_of ps) in
    slice_get_read ks (length ks) i k refl (omega (arith, long, within)) here

pub event_at_is : (ps : List (Extent × Extent)) (ks : List Packed) (es : List Event) (i : ℕ) (k : Packed) → map (event_of ps) ks ≡ es → slice_get ks i ≡ Some k →
    slice_get es i ≡ Some (event_of ps k)
event_at_is ps ks es i k view here = ap (λ l. slice_get l i) (sym view) ∙ slice_get-map (event_of ps) ks i ∙ ap (option_map (event_of ps)) here

-- one more
pub one_put : (ps : List (Extent × Extent)) (ks js : List Packed) (k : Packed) (es : List Event) → map (event_of ps) ks ≡ es → js ≡ ks ++ k ∷ [] →
    map (event_of ps) js ≡ es ++ event_of ps k ∷ []
one_put ps ks js k es view is = ap (map (event_of ps)) is ∙ map-append (event_of ps) ks (k ∷ []) ∙ ap (λ l. l ++ event_of ps k ∷ []) view

-- what names no pair is the same event whatever the pairs
pub alone_is : (ps : List (Extent × Extent)) (k : Packed) → IsWithin 0 k → event_of ps k ≡ event_of [] k
alone_is ps k alone = event-more [] ps k alone

pub one_put_within : (count : ℕ) (ks js : List Packed) (k : Packed) → AreWithin count ks → IsWithin count k → js ≡ ks ++ k ∷ [] → AreWithin count js
one_put_within count ks js k within one is = subst (AreWithin count) (sym is) (are_both count ks (k ∷ []) within (one, tt))

pub one_within : (few more : ℕ) (k : Packed) → few ≤ more → IsWithin few k → IsWithin more k
one_within few more k le within = one-more few more k le within

get-seam : {X : Type 0} (xs : List X) (y : X) → slice_get (xs ++ y ∷ []) (length xs) ≡ Some y
get-seam [] y = refl
get-seam (x ∷ xs) y = get-seam xs y

pub number_is : (n : ℕ) → n < 2 ^ 32 → number_of (to_number n) ≡ n
number_is n fits = from_le_bytes-to_le_bytes_4 n fits

-- an order assertion more
pub ordered_put : (ps qs : List (Extent × Extent)) (ks js : List Packed) (es : List Event) (a b : Extent) (n : ℕ) → AreWithin (length ps) ks → map (event_of ps) ks ≡ es →
    n ≡ length ps → n < 2 ^ 32 → qs ≡ ps ++ (a, b) ∷ [] → js ≡ ks ++ packed.Ordered (to_number n) ∷ [] → map (event_of qs) js ≡ es ++ Ordered a b ∷ []
ordered_put ps qs ks js es a b n within view count fits pairs is =
    ap (map (event_of qs)) is ∙ map-append (event_of qs) ks (packed.Ordered (to_number n) ∷ [])
    ∙ ap (λ l. l ++ event_of qs (packed.Ordered (to_number n)) ∷ []) (ap (λ l. map (event_of l) ks) pairs ∙ events_more ps ((a, b) ∷ []) ks within ∙ view)
    ∙ ap (λ o. es ++ ordered_by o ∷ []) (ap (slice_get qs) (number_is n fits ∙ count) ∙ ap (λ l. slice_get l (length ps)) pairs ∙ get-seam ps (a, b))

pub ordered_within : (ps qs : List (Extent × Extent)) (ks js : List Packed) (a b : Extent) (n : ℕ) → AreWithin (length ps) ks →
    n ≡ length ps → n < 2 ^ 32 → qs ≡ ps ++ (a, b) ∷ [] → js ≡ ks ++ packed.Ordered (to_number n) ∷ [] → AreWithin (length qs) js
ordered_within ps qs ks js a b n within count fits pairs is =
    let long : length qs ≡ length ps + 1 = ap length pairs ∙ length-append ps ((a, b) ∷ []) in
    let same = number_is n fits in
    let here : number_of (to_number n) < length qs = omega (arith, long, same, count) in
    subst (AreWithin (length qs)) (sym is) (are_both (length qs) ks (packed.Ordered (to_number n) ∷ []) (are_more (length ps) (length qs) ks (omega (arith, long)) within) (here, tt))

-- behind so many order assertions each names its pair
behind-is : (ps qs : List (Extent × Extent)) (k : Packed) → IsWithin (length qs) k → length ps + length qs ≤ 2 ^ 32 → event_of (ps ++ qs) (behind (length ps) k) ≡ event_of qs k
behind-is ps qs (packed.Ordered n) within fits =
    ap ordered_by (ap (slice_get (ps ++ qs)) (number_is (length ps + number_of n) (omega (arith, within, fits))) ∙ get-behind ps qs (number_of n))
behind-is ps qs (packed.Store s) within fits = refl
behind-is ps qs (packed.Flush s) within fits = refl
behind-is ps qs packed.Fence within fits = refl
behind-is ps qs (packed.Persist s) within fits = refl
behind-is ps qs (packed.Exclude s) within fits = refl
behind-is ps qs (packed.Include s) within fits = refl
behind-is ps qs packed.TxBegin within fits = refl
behind-is ps qs (packed.TxAdd s) within fits = refl
behind-is ps qs packed.TxEnd within fits = refl
behind-is ps qs packed.CheckStart within fits = refl
behind-is ps qs packed.CheckEnd within fits = refl

behind-within : (before count : ℕ) (k : Packed) → IsWithin count k → before + count ≤ 2 ^ 32 → IsWithin (before + count) (behind before k)
behind-within before count (packed.Ordered n) within fits =
    let same = number_is (before + number_of n) (omega (arith, within, fits)) in omega (arith, same, within)
behind-within before count (packed.Store s) within fits = tt
behind-within before count (packed.Flush s) within fits = tt
behind-within before count packed.Fence within fits = tt
behind-within before count (packed.Persist s) within fits = tt
behind-within before count (packed.Exclude s) within fits = tt
behind-within before count (packed.Include s) within fits = tt
behind-within before count packed.TxBegin within fits = tt
behind-within before count (packed.TxAdd s) within fits = tt
behind-within before count packed.TxEnd within fits = tt
behind-within before count packed.CheckStart within fits = tt
behind-within before count packed.CheckEnd within fits = tt

pub events_behind : (ps qs : List (Extent × Extent)) (ks : List Packed) → AreWithin (length qs) ks → length ps + length qs ≤ 2 ^ 32 →
    map (event_of (ps ++ qs)) (map (behind (length ps)) ks) ≡ map (event_of qs) ks
events_behind ps qs [] within fits = refl
events_behind ps qs (k ∷ ks) within fits =
    ap (λ e. e ∷ map (event_of (ps ++ qs)) (map (behind (length ps)) ks)) (behind-is ps qs k within.0 fits) ∙ ap (λ es. event_of qs k ∷ es) (events_behind ps qs ks within.1 fits)

pub are_behind : (before count : ℕ) (ks : List Packed) → AreWithin count ks → before + count ≤ 2 ^ 32 → AreWithin (before + count) (map (behind before) ks)
are_behind before count [] within fits = tt
are_behind before count (k ∷ ks) within fits = (behind-within before count k within.0 fits, are_behind before count ks within.1 fits)

-- others behind these
pub appended_are : (ps qs : List (Extent × Extent)) (ks js ls : List Packed) (es fs : List Event) → AreWithin (length ps) ks → AreWithin (length qs) js → length ps + length qs ≤ 2 ^ 32 →
    map (event_of ps) ks ≡ es → map (event_of qs) js ≡ fs → ls ≡ ks ++ map (behind (length ps)) js → map (event_of (ps ++ qs)) ls ≡ es ++ fs
appended_are ps qs ks js ls es fs here there fits one other is =
    ap (map (event_of (ps ++ qs))) is ∙ map-append (event_of (ps ++ qs)) ks (map (behind (length ps)) js)
    ∙ ap (λ l. l ++ map (event_of (ps ++ qs)) (map (behind (length ps)) js)) (events_more ps qs ks here ∙ one)
    ∙ ap (λ l. es ++ l) (events_behind ps qs js there fits ∙ other)

pub appended_within : (ps qs : List (Extent × Extent)) (ks js ls : List Packed) → AreWithin (length ps) ks → AreWithin (length qs) js → length ps + length qs ≤ 2 ^ 32 →
    ls ≡ ks ++ map (behind (length ps)) js → AreWithin (length (ps ++ qs)) ls
appended_within ps qs ks js ls here there fits is =
    let long : length (ps ++ qs) ≡ length ps + length qs = length-append ps qs in
    subst (AreWithin (length (ps ++ qs))) (sym is) (are_both (length (ps ++ qs)) ks (map (behind (length ps)) js) (are_more (length ps) (length (ps ++ qs)) ks (omega (arith, long)) here)
    (subst (λ n. AreWithin n (map (behind (length ps)) js)) (sym long) (are_behind (length ps) (length qs) js there fits)))

-- lists that agree below an index, and there
pub agree_next : (es fs : List Event) (i : ℕ) (e f : Event) → ((k : ℕ) → k < i → slice_get es k ≡ slice_get fs k) → slice_get es i ≡ Some e → slice_get fs i ≡ Some f → e ≡ f →
    (k : ℕ) → k < i + 1 → slice_get es k ≡ slice_get fs k
agree_next es fs i e f below one other same k within = elim (cases_lt k i) [
  | inl less ↦ below k less
  | inr not_less ↦ let here : k ≡ i = omega (arith, not_less, within) in ap (slice_get es) here ∙ one ∙ ap (λ x. Some x) same ∙ sym other ∙ ap (slice_get fs) (sym here)
]

pub agree_all : (es fs : List Event) → length es ≡ length fs → ((k : ℕ) → k < length es → slice_get es k ≡ slice_get fs k) → es ≡ fs
agree_all [] [] long same = refl
agree_all [] (f ∷ fs) long same = absurd (omega (arith, long))
agree_all (e ∷ es) [] long same = absurd (omega (arith, long))
agree_all (e ∷ es) (f ∷ fs) long same =
    ap (λ x. x ∷ es) (some-same (same 0 (omega arith))) ∙ ap (λ l. f ∷ l) (agree_all es fs (omega (arith, long)) (λ k within. same (suc k) (omega (arith, within))))
