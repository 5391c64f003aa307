-- Soundness of closed intervals, the two images that are always there, and the image of an open interval.
use Rattle.std.proofs.{Common.{◌≡◌, ℕ, zero, suc, ◌+◌, ◌-◌, ◌<◌, ◌≤◌, true, false, List, [], ◌∷◌, refl, ◌∙◌, arith, inl, inr, slice_get, ◌↔◌, le-leb, ne_eqb}, lemmas.Bool.{cases_eq, leb-true, and_parts, and_from, ltb-true}, lemmas.Bool.Decides.{eqb_tells}, lemmas.Grind.{common_steps}}
use Rattle.pmf_event.{specs.declared.event.Event.{Event}, specs.declared.event.Event.TheVariants.{Store}, specs.Line.{line_of_byte}, specs.Places.{greatest, count, some_between}, specs.Store.{event_at, passes, at, stores, stores_line, flushes, is_fence, last, last_store}, specs.Persist.{is_checked}, proofs.PlacesLemmas.{greatest-bound, greatest-passes, greatest-above, count-zero, count-mono, count-here, count-found, some_between-here, some_between-found}, proofs.LineLemmas.{stores-line, meets-bounds}, proofs.IntervalLemmas.{Closing, Closing-from_closed}}
use Rattle.pmf_image.specs.{Image.{count_of, is_fenced, floor_of, Image, IsAllowed, value_of, is_in, cut_of, reach_of, reaches, shows}, Laws.{EachCutIsAllowed, EachByteMayBeTorn, ClosedIntervalsHold, AllowsCuts, EveryPlaceHasImages}}

-- ---- soundness

-- a store before a fenced write-back of its line is below the floor
pub below_the_floor : (es : List Event) (line k p n : ℕ) → p ≤ n → Closing es line k p → count_of es k line ≤ floor_of es n line
unfolding floor_of count_of is_fenced
below_the_floor es line k p n later c =
    let fenced = and_from (at (flushes line) es c.flush) (some_between (at is_fence es) c.flush (n + 1)) c.is_flush
    (some_between-here (at is_fence es) c.flush (n + 1) c.fence c.before (omega (arith, c.within)) c.is_fence) in
    let above = greatest-above (is_fenced es n line) n c.flush (omega (arith, c.after)) (omega (arith, c.before, c.within)) fenced in
    count-mono (at (stores_line line) es) k (greatest (is_fenced es n line) n - 1) (omega (arith, c.after))

pub cut-reaches : (es : List Event) (n b : ℕ) (image : Image) → cut_of es n image (line_of_byte b) ≤ reach_of es n image b
unfolding reach_of
cut-reaches es n b image = omega arith

-- a store that reaches its byte is shown, or a later one is
pub reached-shown : (es : List Event) (n b k : ℕ) (image : Image) → 0 < k → k ≤ n → at (stores b) es k ≡ true →
    count_of es k (line_of_byte b) ≤ reach_of es n image b → k ≤ shows es n image b
unfolding shows reaches
reached-shown es n b k image some within is reached = grind (arith, common_steps, greatest-above, and_from, le-leb)

pub written-from_checked : (es : List Event) (p b : ℕ) → is_checked es p b ≡ true → 0 < last_store es p b
unfolding is_checked
written-from_checked es p b checked = ltb-true 0 (last_store es p b) (and_parts _ _ checked).0

pub last_store-stores : (es : List Event) (p b : ℕ) → 0 < last_store es p b → at (stores b) es (last_store es p b) ≡ true
unfolding last
last_store-stores es p b some = greatest-passes (at (stores b) es) p some

pub last_store-bound : (es : List Event) (p b : ℕ) → last_store es p b ≤ p
unfolding last
last_store-bound es p b = greatest-bound (at (stores b) es) p

pub holds-where_closed : ClosedIntervalsHold
holds-where_closed es p s each n later within image allowed b covered checked =
    let written = written-from_checked es p b checked in
    let found = Closing-from_closed es p b written (each b covered checked) in
    let floor = below_the_floor es (line_of_byte b) (last_store es p b) p n later found in
    let cut = allowed.low (line_of_byte b) in
    let reach = cut-reaches es n b image in
    let bound = last_store-bound es p b in
    reached-shown es n b (last_store es p b) image written (omega arith) (last_store-stores es p b written) (omega arith)

-- ---- the two images

pub floor-below_count : (es : List Event) (n line : ℕ) → floor_of es n line ≤ count_of es n line
unfolding floor_of count_of
floor-below_count es n line = grind (arith, common_steps, greatest-bound, count-mono)

pub untorn-allowed : (es : List Event) (n : ℕ) (image : Image) → image.torn ≡ [] →
    ((line : ℕ) → (floor_of es n line ≤ cut_of es n image line) × (cut_of es n image line ≤ count_of es n line)) → IsAllowed es n image
unfolding is_in
untorn-allowed es n image untorn within = grind (arith, common_steps)

allows-untorn : (es : List Event) (n : ℕ) (cut : ℕ → ℕ) (image : Image) → image.torn ≡ [] → ((line : ℕ) → cut_of es n image line ≡ cut line) →
    ((line : ℕ) → (floor_of es n line ≤ cut line) × (cut line ≤ count_of es n line)) → AllowsCuts es n cut
allows-untorn es n cut image untorn cuts within = grind (arith, common_steps, untorn-allowed)

allows_floors : (es : List Event) (n : ℕ) → AllowsCuts es n (floor_of es n)
unfolding cut_of value_of
allows_floors es n = allows-untorn es n (floor_of es n) (record { cuts = []; torn = [] }) refl (λ line. refl) (λ line. (omega arith, floor-below_count es n line))

-- the cut that stands first in the map is that of its line
pub cut-first : (es : List Event) (n line cut : ℕ) (cuts : List (ℕ × ℕ)) (torn : List ℕ) →
    cut_of es n (record { cuts = (line, cut) ∷ cuts; torn = torn }) line ≡ cut
unfolding cut_of value_of
cut-first es n line cut cuts torn = grind (arith, common_steps)

pub cut-rest : (es : List Event) (n line cut other : ℕ) (cuts : List (ℕ × ℕ)) (torn : List ℕ) → (other ≡ line → ⊥) →
    cut_of es n (record { cuts = (line, cut) ∷ cuts; torn = torn }) other ≡ cut_of es n (record { cuts = cuts; torn = torn }) other
unfolding cut_of value_of
cut-rest es n line cut other cuts torn apart = grind (arith, common_steps, ne_eqb)

-- every line below m with its cut
table : (ℕ → ℕ) → ℕ → List (ℕ × ℕ)
table cut zero = []
table cut (suc m) = (m, cut m) ∷ table cut m

-- an address above the end of every store
end_of_event : Event → ℕ
end_of_event (Store s) = s.first + s.size
end_of_event _ = 0

end_of : List Event → ℕ
end_of [] = 0
end_of (e ∷ es) = end_of_event e + end_of es

event-below_end : (line : ℕ) (e : Event) → stores_line line e ≡ true → line < end_of_event e
unfolding stores_line end_of_event
event-below_end line e is = grind (arith, common_steps, meets-bounds)

get-below_end : (line : ℕ) (es : List Event) (k : ℕ) → passes (stores_line line) (slice_get es k) ≡ true → line < end_of es
unfolding end_of
get-below_end line [] k is = let bad : false ≡ true = is in cc
get-below_end line (e ∷ es) zero is = let here = event-below_end line e is in omega arith
get-below_end line (e ∷ es) (suc k) is = let later = get-below_end line es k is in omega arith

place-below_end : (line : ℕ) (es : List Event) (k : ℕ) → at (stores_line line) es k ≡ true → line < end_of es
unfolding at event_at
place-below_end line es k is = grind (arith, common_steps, get-below_end)

count-past_end : (es : List Event) (n line : ℕ) → end_of es ≤ line → count_of es n line ≡ 0
unfolding count_of
count-past_end es n line above =
    elim (cases_eq (count (at (stores_line line) es) n) 0) [
      | inl none ↦ none
      | inr some ↦
          let zero_is = count-mono (at (stores_line line) es) 0 n (omega arith) in
          let found = count-found (at (stores_line line) es) 0 n (rw (count-zero (at (stores_line line) es)) (omega arith)) in
          let below = place-below_end line es found.place found.passes in absurd (omega arith)
    ]

-- each cut of the table is the count, if that is 0 from m on
table-cut : (es : List Event) (n m line : ℕ) → (m ≤ line → count_of es n line ≡ 0) →
    cut_of es n (record { cuts = table (count_of es n) m; torn = [] }) line ≡ count_of es n line
unfolding table cut_of value_of
table-cut es n zero line past = let none = past (omega arith) in let floor = floor-below_count es n line in omega arith
table-cut es n (suc m) line past = elim (cases_eq line m) [
  | inl same ↦ rw same (cut-first es n m (count_of es n m) (table (count_of es n) m) [])
  | inr other ↦ cut-rest es n m (count_of es n m) line (table (count_of es n) m) [] other ∙ table-cut es n m line (λ above. past (omega arith))
]

allows_counts : (es : List Event) (n : ℕ) → AllowsCuts es n (count_of es n)
allows_counts es n =
    allows-untorn es n (count_of es n) (record { cuts = table (count_of es n) (end_of es); torn = [] }) refl
    (λ line. table-cut es n (end_of es) line (count-past_end es n line)) (λ line. (floor-below_count es n line, omega arith))

pub has_images : EveryPlaceHasImages
has_images es n = (allows_floors es n, allows_counts es n)

-- ---- one cut, and one torn byte

-- one cut more within its bounds leaves every cut within them
pub within-first : (es : List Event) (n line cut : ℕ) (cuts : List (ℕ × ℕ)) (torn : List ℕ) → floor_of es n line ≤ cut → cut ≤ count_of es n line →
    ((other : ℕ) → (floor_of es n other ≤ cut_of es n (record { cuts = cuts; torn = torn }) other)
    × (cut_of es n (record { cuts = cuts; torn = torn }) other ≤ count_of es n other)) → (other : ℕ) →
    (floor_of es n other ≤ cut_of es n (record { cuts = (line, cut) ∷ cuts; torn = torn }) other)
    × (cut_of es n (record { cuts = (line, cut) ∷ cuts; torn = torn }) other ≤ count_of es n other)
within-first es n line cut cuts torn low high within other = grind (arith, common_steps, cases_eq, cut-first, cut-rest)

abbrev one_cut : ℕ → ℕ → List ℕ → Image
one_cut line cut torn = record { cuts = (line, cut) ∷ []; torn = torn }

one_cut-within : (es : List Event) (n line cut : ℕ) (torn : List ℕ) → floor_of es n line ≤ cut → cut ≤ count_of es n line → (other : ℕ) →
    (floor_of es n other ≤ cut_of es n (one_cut line cut torn) other) × (cut_of es n (one_cut line cut torn) other ≤ count_of es n other)
unfolding cut_of value_of
one_cut-within es n line cut torn low high = within-first es n line cut [] torn low high (λ other. (omega arith, floor-below_count es n other))

pub allows_each_cut : EachCutIsAllowed
unfolding cut_of value_of
allows_each_cut es n line cut low high = record {
  image = one_cut line cut [];
  untorn = refl;
  here = cut-first es n line cut [] [];
  elsewhere = λ other apart. cut-rest es n line cut other [] [] apart;
  allowed = untorn-allowed es n (one_cut line cut []) refl (one_cut-within es n line cut [] low high);
}

only-torn : (b other : ℕ) → (is_in (b ∷ []) other ≡ true) ↔ (other ≡ b)
unfolding is_in
only-torn b other = grind (arith, common_steps, eqb_tells)

pub allows_each_torn : EachByteMayBeTorn
unfolding cut_of value_of
allows_each_torn es n b cut low room =
    let line = line_of_byte b in
    let torn = b ∷ [] in
    let within = one_cut-within es n line cut torn low (omega arith) in record {
      image = one_cut line cut torn;
      torn = only-torn b;
      here = cut-first es n line cut [] torn;
      elsewhere = λ other apart. cut-rest es n line cut other [] torn apart;
      allowed = record {
        low = λ other. (within other).0;
        high = λ other. (within other).1;
        torn = λ other some. rw ((only-torn b other).0 some, cut-first es n line cut [] torn) room;
      };
    }

-- ---- an open interval

-- a fenced write-back of the line after a place is a closing of it
pub Closing-from_fenced : (es : List Event) (line k n : ℕ) → k < greatest (is_fenced es n line) n → Closing es line k n
unfolding is_fenced
Closing-from_fenced es line k n later =
    let flush = greatest (is_fenced es n line) n in
    let is = and_parts (at (flushes line) es flush) (some_between (at is_fence es) flush (n + 1)) (greatest-passes (is_fenced es n line) n (omega arith)) in
    let found = some_between-found (at is_fence es) flush (n + 1) is.1 in
    record {
      flush = flush;
      fence = found.place;
      after = later;
      before = found.after;
      within = omega (arith, found.within);
      is_flush = is.0;
      is_fence = found.passes;
    }

pub count_of-here : (es : List Event) (b k : ℕ) → 0 < k → at (stores b) es k ≡ true → count_of es k (line_of_byte b) ≡ suc (count_of es (k - 1) (line_of_byte b))
unfolding count_of
count_of-here es b k some is = count-here (at (stores_line (line_of_byte b)) es) k some (stores-line es b k is)

pub count_of-mono : (es : List Event) (m n line : ℕ) → m ≤ n → count_of es m line ≤ count_of es n line
unfolding count_of
count_of-mono es m n line within = count-mono (at (stores_line line) es) m n within

pub shown-reaches : (es : List Event) (n b : ℕ) (image : Image) → 0 < shows es n image b →
    (at (stores b) es (shows es n image b) ≡ true) × (count_of es (shows es n image b) (line_of_byte b) ≤ reach_of es n image b) × (shows es n image b ≤ n)
unfolding shows reaches
shown-reaches es n b image some = grind (arith, common_steps, and_parts, greatest-passes, leb-true, greatest-bound)

pub reach-untorn : (es : List Event) (n b : ℕ) (image : Image) → image.torn ≡ [] → reach_of es n image b ≡ cut_of es n image (line_of_byte b)
unfolding reach_of is_in
reach-untorn es n b image untorn = rw untorn (omega arith)

pub last_store-above : (es : List Event) (p b k : ℕ) → 0 < k → k ≤ p → at (stores b) es k ≡ true → k ≤ last_store es p b
unfolding last
last_store-above es p b k some within is = greatest-above (at (stores b) es) p k some within is
