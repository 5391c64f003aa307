-- Certificates: what a pass over the events keeps of a line and of a byte, and what a certificate's image
-- holds.
use Rattle.std.{proofs.Common.{◌≡◌, ℕ, zero, suc, ◌+◌, ◌-◌, ◌<◌, ◌≤◌, Bool, true, false, ◌&&◌, nat_lt, if◌then◌else◌, List, [], refl, sym, ◌∙◌, ap, arith, Option, Some, unwrap_or, nat_eq}, specs.Option.{option_eq}, proofs.lemmas.Bool.{cases_lt, cases_eq, ltb-true, false_from_ne_true}, proofs.Math.Bool.{and-true, and-false}, proofs.lemmas.Grind.{common_steps}}
use Rattle.pmf_event.{specs.declared.event.Event.{Event}, specs.Line.{line_of_byte}, specs.Places.{greatest, some_between}, specs.Store.{event_at, at, stores, stores_line, flushes, is_fence, last, last_store}, proofs.PlacesLemmas.{SameUpTo, greatest-step, greatest-zero, greatest-bound, count-step, count-zero, count-le, some_between-here}, proofs.EventLemmas.{at-is, last-step, not_fence_and_flush}}
use Rattle.pmf_image.{specs.declared.certificate.Certificate.{Certificate}, specs.declared.certificate.Kept.{Kept}, specs.Certificate.{full_cuts, cut_in, shows_in}, specs.Image.{Image, count_of, is_fenced, floor_of, value_of, cut_of, shows}, proofs.ImageLemmas.{reach-untorn, reached-shown, shown-reaches, last_store-stores, last_store-bound, last_store-above, count_of-here, count_of-mono}}

pub greatest-same : (s t : ℕ → Bool) (n : ℕ) → SameUpTo s t n → greatest s n ≡ greatest t n
unfolding greatest
greatest-same s t zero same = refl
greatest-same s t (suc n) same =
    rw (same (suc n) (omega arith) (omega arith), greatest-same s t n (λ k some within. same k some (omega arith))) refl

-- ---- a pass over the events, for the last store of a byte

pub last_store-next : (es : List Event) (b i before after : ℕ) (e : Event) → before ≡ last_store es i b → event_at es (suc i) ≡ Some e →
    after ≡ (if stores b e then suc i else before) → after ≡ last_store es (suc i) b
last_store-next es b i before after e so_far here is = grind (arith, common_steps, last-step)

-- ---- the floor after one more event

-- a fence at the next place fences every write-back before it
fenced-by_fence : (es : List Event) (n line k : ℕ) → at is_fence es (suc n) ≡ true → 0 < k → k ≤ n →
    is_fenced es (suc n) line k ≡ at (flushes line) es k
unfolding is_fenced
fenced-by_fence es n line k fence some within =
    ap (λ v. at (flushes line) es k && v) (some_between-here (at is_fence es) k (suc n + 1) (suc n) (omega arith) (omega arith) fence)
    ∙ and-true (at (flushes line) es k)

greatest-at_fence : (es : List Event) (n line : ℕ) → at is_fence es (suc n) ≡ true →
    greatest (is_fenced es (suc n) line) (suc n) ≡ last (flushes line) es n
unfolding last is_fenced
greatest-at_fence es n line fence = grind (arith, common_steps, false_from_ne_true, not_fence_and_flush, greatest-step, greatest-same, fenced-by_fence)

-- another event fences nothing
fenced-other : (es : List Event) (n line k : ℕ) → at is_fence es (suc n) ≡ false → is_fenced es (suc n) line k ≡ is_fenced es n line k
unfolding is_fenced some_between
fenced-other es n line k other =
    let one : suc n + 1 - 1 ≡ suc n = omega arith in
    let another : n ≡ n + 1 - 1 = omega arith in
    ap (λ g. at (flushes line) es k && nat_lt k g)
    (ap (greatest (at is_fence es)) one
    ∙ greatest-step (at is_fence es) n
    ∙ ap (λ v. if v then suc n else greatest (at is_fence es) n) other
    ∙ ap (greatest (at is_fence es)) another)

not_fenced-past : (es : List Event) (n line : ℕ) → is_fenced es n line (suc n) ≡ false
unfolding is_fenced some_between
not_fenced-past es n line = grind (arith, common_steps, greatest-bound, false_from_ne_true, ltb-true, and-false)

greatest-other : (es : List Event) (n line : ℕ) → at is_fence es (suc n) ≡ false →
    greatest (is_fenced es (suc n) line) (suc n) ≡ greatest (is_fenced es n line) n
greatest-other es n line other = grind (arith, common_steps, greatest-step, fenced-other, not_fenced-past, greatest-same)

-- ---- a pass over the events, for what is durable of a line

-- what was stored by the first i events, as a number; what of it by the line's last write-back; and what of it
-- by the last write-back that a fence follows
pub record Carried (es : List Event) (line : ℕ) (stored_by : ℕ → ℕ) (i : ℕ) (kept : Kept) : Type 0 where
  pub stored_is : kept.stored ≡ stored_by i
  pub flushed_is : kept.flushed ≡ stored_by (last (flushes line) es i - 1)
  pub durable_is : kept.durable ≡ stored_by (greatest (is_fenced es i line) i - 1)

pub Carried-none : (es : List Event) (line : ℕ) (stored_by : ℕ → ℕ) → stored_by 0 ≡ 0 →
    Carried es line stored_by 0 (record { stored = 0; flushed = 0; durable = 0 })
unfolding last
Carried-none es line stored_by none = grind (arith, common_steps, greatest-zero)

-- one more event
module _ (es : List Event) (line : ℕ) (stored_by : ℕ → ℕ) (i : ℕ) (kept : Kept) (e : Event)
    (carried : Carried es line stored_by i kept) (here : event_at es (suc i) ≡ Some e) where
  flushed-step : (if flushes line e then kept.stored else kept.flushed) ≡ stored_by (last (flushes line) es (suc i) - 1)
  flushed-step =
      elim (flushes line e) as (λ v. (if v then kept.stored else kept.flushed) ≡ stored_by ((if v then suc i else last (flushes line) es i) - 1)) [
        | true ↦ let same : i ≡ suc i - 1 = omega arith in carried.stored_is ∙ ap stored_by same
        | false ↦ carried.flushed_is
      ]
      ∙ sym (ap (λ k. stored_by (k - 1)) (last-step (flushes line) es i e here))

  durable-step : (if is_fence e then kept.flushed else kept.durable) ≡ stored_by (greatest (is_fenced es (suc i) line) (suc i) - 1)
  durable-step = grind (arith, common_steps, greatest-at_fence, greatest-other, at-is)

  pub Carried-step : (new : Kept) → new.stored ≡ stored_by (suc i) → new.flushed ≡ (if flushes line e then kept.stored else kept.flushed) →
      new.durable ≡ (if is_fence e then kept.flushed else kept.durable) → Carried es line stored_by (suc i) new
  Carried-step new stores written fenced = record { stored_is = stores; flushed_is = written ∙ flushed-step; durable_is = fenced ∙ durable-step }

-- ---- how many stores of a line there are

pub count_of-none : (es : List Event) (line : ℕ) → count_of es 0 line ≡ 0
unfolding count_of
count_of-none es line = count-zero (at (stores_line line) es)

pub count_of-bound : (es : List Event) (line i : ℕ) → count_of es i line ≤ i
unfolding count_of
count_of-bound es line i = count-le (at (stores_line line) es) i

pub count_of-next : (es : List Event) (line i before after : ℕ) (e : Event) → before ≡ count_of es i line → event_at es (suc i) ≡ Some e →
    after ≡ (if stores_line line e then suc before else before) → after ≡ count_of es (suc i) line
unfolding count_of
count_of-next es line i before after e so_far here is = grind (arith, common_steps, count-step, at-is)

-- ---- the cut of a certificate's image

cut-of_map : (es : List Event) (n line : ℕ) (o : Option ℕ) →
    unwrap_or (value_of (full_cuts es n o) line) (floor_of es n line) ≡ (if option_eq nat_eq o (Some line) then count_of es n line else floor_of es n line)
unfolding value_of
cut-of_map es n line o = grind (arith, common_steps)

-- the count on the full line, and the floor elsewhere
pub cut-is : (es : List Event) (c : Certificate) (line : ℕ) →
    cut_in es c line ≡ (if option_eq nat_eq c.full_line (Some line) then count_of es c.crash line else floor_of es c.crash line)
unfolding cut_of
cut-is es c line = cut-of_map es c.crash line c.full_line

-- what a pass up to the crash keeps
pub cut-carried : (es : List Event) (c : Certificate) (line i : ℕ) (kept : Kept) → Carried es line (λ k. count_of es k line) i kept → i ≡ c.crash →
    (r : ℕ) → r ≡ (if option_eq nat_eq c.full_line (Some line) then kept.stored else kept.durable) → r ≡ cut_in es c line
unfolding floor_of
cut-carried es c line i kept carried end r is = rw (is, cut-is es c line, ← end, carried.stored_is, carried.durable_is) refl

-- ---- what a byte shows in it

-- where the cut of its line is the count at m, an untorn byte shows its last store at m
shows-upto : (es : List Event) (n b m : ℕ) (image : Image) → image.torn ≡ [] → m ≤ n →
    cut_of es n image (line_of_byte b) ≡ count_of es m (line_of_byte b) → shows es n image b ≡ last_store es m b
shows-upto es n b m image untorn within cut = grind (arith, common_steps, reach-untorn, last_store-bound, cases_eq, count_of-mono, reached-shown, last_store-stores, shown-reaches, cases_lt, last_store-above, count_of-here)

-- its last store at the crash on the full line, and elsewhere that before the last write-back that a fence
-- follows
pub shows-is : (es : List Event) (c : Certificate) (b : ℕ) →
    shows_in es c b ≡ (if option_eq nat_eq c.full_line (Some (line_of_byte b)) then last_store es c.crash b
    else last_store es (greatest (is_fenced es c.crash (line_of_byte b)) c.crash - 1) b)
unfolding floor_of
shows-is es c b = grind (arith, common_steps, shows-upto, greatest-bound, cut-is)

pub shows-carried : (es : List Event) (c : Certificate) (b i : ℕ) (kept : Kept) → Carried es (line_of_byte b) (λ k. last_store es k b) i kept → i ≡ c.crash →
    (r : ℕ) → r ≡ (if option_eq nat_eq c.full_line (Some (line_of_byte b)) then kept.stored else kept.durable) → r ≡ shows_in es c b
shows-carried es c b i kept carried end r is = rw (is, shows-is es c b, ← end, carried.stored_is, carried.durable_is) refl
