-- What images show, from what walks tell at the places up to which they look.
use Rattle.std.proofs.{Common.{◌≡◌, ℕ, zero, suc, ◌+◌, ◌-◌, ◌<◌, ◌≤◌, min, Bool, true, false, nat_eq, if◌then◌else◌, List, [], ◌∷◌, ◌++◌, Some, None, length, get_or, map, take, refl, sym, ap, ◌∙◌, arith, inl, inr}, lemmas.Bool.{cases_lt, cases_eq, and_parts, and_from}, lemmas.Option.{slice_get_past}, lemmas.List.{get_or_append_left, get_or_push, map_more}}
use Rattle.std.specs.Option.{option_eq}
use Rattle.pmf_event.{specs.declared.event.Event.{Event}, specs.Line.{line_of_byte}, specs.Places.{greatest, count, some_between}, specs.Store.{event_at, at, stores_line, flushes, is_fence, last, last_store}, proofs.PlacesLemmas.{greatest-step, greatest-bound, greatest-passes, greatest-above, count-step, some_between-here, some_between-found}, proofs.EventLemmas.{at-is, not_fence_and_flush}}
use Rattle.pmf_image.{specs.Image.{count_of, is_fenced, floor_of}, specs.Certificate.{cut_in, shows_in}, proofs.CertificateLemmas.{cut-is, shows-is}}
use Rattle.pmf_images.specs.{declared.showing.Asked.{Asked}, declared.showing.Shown.{Shown}, Horizons.{place_of, crash_of, fence_of, flush_of, horizon_of}, Showing.{shown_of}, Telling.{AreTold, ArePlaces}, Walks.{count_at}}

-- ---- behind the last event

not_behind : (test : Event → Bool) (es : List Event) (k : ℕ) → length es < k → at test es k ≡ false
unfolding event_at
not_behind test es zero past = absurd (omega arith)
not_behind test es (suc k) past = at-is test es (suc k) None (slice_get_past es k (omega arith))

module _ (test : ℕ → Bool) (n : ℕ) (none : (k : ℕ) → n < k → test k ≡ false) where
  greatest_behind : (m : ℕ) → n ≤ m → greatest test m ≡ greatest test n
  greatest_behind zero low = let same : 0 ≡ n = omega arith in ap (greatest test) same
  greatest_behind (suc m) low = elim (cases_lt m n) [
    | inl less ↦ let same : suc m ≡ n = omega arith in ap (greatest test) same
    | inr more ↦ greatest-step test m ∙ ap (λ v. if v then suc m else greatest test m) (none (suc m) (omega arith)) ∙ greatest_behind m more
  ]

  count_behind : (m : ℕ) → n ≤ m → count test m ≡ count test n
  count_behind zero low = let same : 0 ≡ n = omega arith in ap (count test) same
  count_behind (suc m) low = elim (cases_lt m n) [
    | inl less ↦ let same : suc m ≡ n = omega arith in ap (count test) same
    | inr more ↦ count-step test m ∙ ap (λ v. if v then suc (count test m) else count test m) (none (suc m) (omega arith)) ∙ count_behind m more
  ]

-- as good as the last event
within : (f : ℕ → ℕ) (n p : ℕ) → ((m : ℕ) → n ≤ m → f m ≡ f n) → f (min p n) ≡ f p
within f n p behind = elim (cases_lt p n) [
  | inl less ↦ let same : min p n ≡ p = omega arith in ap f same
  | inr more ↦ let low : min p n ≡ n = omega arith in ap f low ∙ sym (behind p more)
]

last_within : (test : Event → Bool) (es : List Event) (p : ℕ) → last test es (min p (length es)) ≡ last test es p
unfolding last
last_within test es p = within (greatest (at test es)) (length es) p (greatest_behind (at test es) (length es) (not_behind test es))

count_within : (es : List Event) (line p : ℕ) → count_of es (min p (length es)) line ≡ count_of es p line
unfolding count_of
count_within es line p = within (count (at (stores_line line) es)) (length es) p (count_behind (at (stores_line line) es) (length es) (not_behind (stores_line line) es))

-- ---- the last write-back that a fence follows

-- it is the last one up to the last fence
fenced_is : (es : List Event) (line n : ℕ) → greatest (is_fenced es n line) n ≡ last (flushes line) es (last is_fence es n)
unfolding last is_fenced
fenced_is es line n =
    let fence = greatest (at is_fence es) n in
    let g = greatest (is_fenced es n line) n in
    let w = greatest (at (flushes line) es) fence in
    let g_bound = greatest-bound (is_fenced es n line) n in
    let fence_bound = greatest-bound (at is_fence es) n in
    let w_bound = greatest-bound (at (flushes line) es) fence in
    let low : g ≤ w = elim (cases_lt 0 g) [
      | inl some ↦
          let parts = and_parts (at (flushes line) es g) (some_between (at is_fence es) g (n + 1)) (greatest-passes (is_fenced es n line) n some) in
          let found = some_between-found (at is_fence es) g (n + 1) parts.1 in
          let after = found.after in
          let before = found.within in
          let high = greatest-above (at is_fence es) n found.place (omega arith) (omega arith) found.passes in
          greatest-above (at (flushes line) es) fence g some (omega arith) parts.0
      | inr none ↦ omega arith
    ] in
    let high : w ≤ g = elim (cases_lt 0 w) [
      | inl some ↦
          let flush = greatest-passes (at (flushes line) es) fence some in
          let is_fence_there = greatest-passes (at is_fence es) n (omega arith) in
          let apart : w ≡ fence → ⊥ = λ same. not_fence_and_flush es line fence is_fence_there (ap (at (flushes line) es) (sym same) ∙ flush) in
          let less : w < fence = elim (cases_eq w fence) [ inl same ↦ absurd (apart same) | inr other ↦ omega arith ] in
          greatest-above (is_fenced es n line) n w some (omega arith)
          (and_from (at (flushes line) es w) (some_between (at is_fence es) w (n + 1)) flush (some_between-here (at is_fence es) w (n + 1) fence less (omega arith) is_fence_there))
      | inr none ↦ omega arith
    ] in
    omega arith

-- ---- at the horizon

flush_is : (es : List Event) (a : Asked) → flush_of es a ≡ greatest (is_fenced es a.certificate.crash (line_of_byte a.byte)) a.certificate.crash
flush_is es a = ap (last (flushes (line_of_byte a.byte)) es) (last_within is_fence es a.certificate.crash) ∙ sym (fenced_is es (line_of_byte a.byte) a.certificate.crash)

at_horizon : (f : ℕ → ℕ) (c : Bool) (crash flush all floor : ℕ) → f crash ≡ all → f (flush - 1) ≡ floor → f (if c then crash else flush - 1) ≡ (if c then all else floor)
at_horizon f true crash flush all floor full other = full
at_horizon f false crash flush all floor full other = other

cut_is : (es : List Event) (a : Asked) → count_at es (horizon_of es a) a.byte ≡ cut_in es a.certificate (line_of_byte a.byte)
unfolding floor_of
cut_is es a =
    let line = line_of_byte a.byte in
    at_horizon (λ p. count_of es p line) (option_eq nat_eq a.certificate.full_line (Some line)) (crash_of es a) (flush_of es a) (count_of es a.certificate.crash line) (floor_of es a.certificate.crash line)
    (count_within es line a.certificate.crash) (ap (λ p. count_of es (p - 1) line) (flush_is es a))
    ∙ sym (cut-is es a.certificate line)

shows_is : (es : List Event) (a : Asked) → last_store es (horizon_of es a) a.byte ≡ shows_in es a.certificate a.byte
shows_is es a =
    let line = line_of_byte a.byte in
    let crash = a.certificate.crash in
    at_horizon (λ p. last_store es p a.byte) (option_eq nat_eq a.certificate.full_line (Some line)) (crash_of es a) (flush_of es a) (last_store es crash a.byte)
    (last_store es (greatest (is_fenced es crash line) crash - 1) a.byte) (last_within _ es crash) (ap (λ p. last_store es (p - 1) a.byte) (flush_is es a))
    ∙ sym (shows-is es a.certificate a.byte)

pub shown_is : (es : List Event) (a : Asked) (cut shows last : ℕ) → cut ≡ count_at es (horizon_of es a) a.byte → shows ≡ last_store es (horizon_of es a) a.byte → last ≡ last_store es (place_of es a) a.byte →
    (new : Shown) → new.cut ≡ cut → new.shows ≡ shows → new.last ≡ last → new ≡ shown_of es a
shown_is es a cut shows last at_cut at_shows at_last new is_cut is_shows is_last =
    let one = is_cut ∙ at_cut ∙ cut_is es a in
    let two = is_shows ∙ at_shows ∙ shows_is es a in
    let three = is_last ∙ at_last ∙ last_within _ es a.place in
    rw (one, two, three) refl

-- ---- places of all that is asked

pub told_places : (told : ℕ → ℕ → ℕ) (place : Asked → ℕ) (asked : List Asked) (places answers : List ℕ) → ArePlaces place asked places → AreTold told places asked answers →
    ArePlaces (λ a. told (place a) a.byte) asked answers
told_places told place asked places answers own answered = record {
  long = answered.long;
  each = λ k a less. answered.each k a less ∙ ap (λ p. told p (get_or asked k a).byte) (own.each k a less);
}

abbrev pub none : Asked
none = record { certificate = record { crash = 0; full_line = None }; place = 0; byte = 0 }

pub places_within : (place : Asked → ℕ) (asked : List Asked) (places : List ℕ) (n : ℕ) → ArePlaces place asked places → ((a : Asked) → place a ≤ n) → (k : ℕ) → k < length places → get_or places k 0 ≤ n
places_within place asked places n own most k less =
    let long = own.long in
    let is = own.each k none (omega arith) in
    let bound = most (get_or asked k none) in
    omega arith

pub crash-within : (es : List Event) (a : Asked) → crash_of es a ≤ length es
crash-within es a = omega arith

pub place-within : (es : List Event) (a : Asked) → place_of es a ≤ length es
place-within es a = omega arith

pub fence-within : (es : List Event) (a : Asked) → fence_of es a ≤ length es
unfolding last
fence-within es a = let bound = greatest-bound (at is_fence es) (crash_of es a) in omega arith

pub horizon-within : (es : List Event) (a : Asked) → horizon_of es a ≤ length es
unfolding last
horizon-within es a =
    let bound = greatest-bound (at (flushes (line_of_byte a.byte)) es) (fence_of es a) in
    let low = fence-within es a in
    elim (option_eq nat_eq a.certificate.full_line (Some (line_of_byte a.byte))) as (λ v. (if v then crash_of es a else flush_of es a - 1) ≤ length es) [ true ↦ omega arith | false ↦ omega arith ]

-- one more place
pub place_more : (place : Asked → ℕ) (asked : List Asked) (i x : ℕ) (old new : List ℕ) → length old ≡ i → new ≡ old ++ x ∷ [] → ((a : Asked) → x ≡ place (get_or asked i a)) →
    ((k : ℕ) (a : Asked) → k < i → get_or old k 0 ≡ place (get_or asked k a)) → (k : ℕ) (a : Asked) → k < i + 1 → get_or new k 0 ≡ place (get_or asked k a)
place_more place asked i x old new long is own before k a less = elim (cases_eq k i) [
  | inl same ↦ rw (is, same) (get_or_push old x 0 i long ∙ own a)
  | inr other ↦ rw is (get_or_append_left old (x ∷ []) 0 k (omega arith) ∙ before k a (omega arith))
]

-- one more of what is shown
pub shown_more : (es : List Event) (asked : List Asked) (i : ℕ) (old new : List Shown) (shown : Shown) → i < length asked → new ≡ old ++ shown ∷ [] → shown ≡ shown_of es (get_or asked i none) →
    old ≡ map (shown_of es) (take i asked) → new ≡ map (shown_of es) (take (i + 1) asked)
shown_more es asked i old new shown less is own before = is ∙ ap (λ xs. xs ++ shown ∷ []) before ∙ ap (λ s. map (shown_of es) (take i asked) ++ s ∷ []) own ∙ sym (map_more (shown_of es) asked i none less)

-- the horizon, from a crash and a write-back
pub horizon_from : (es : List Event) (a : Asked) (crash flush horizon : ℕ) → crash ≡ crash_of es a → flush ≡ flush_of es a →
    horizon ≡ (if option_eq nat_eq a.certificate.full_line (Some (line_of_byte a.byte)) then crash else flush - 1) → horizon ≡ horizon_of es a
horizon_from es a crash flush horizon at_crash at_flush is = rw (is, at_crash, at_flush) refl
