-- The line of a byte, and the lines that a span meets.
use Rattle.std.proofs.{Common.{◌≡◌, ℕ, ◌+◌, ◌-◌, ◌*◌, ◌/◌, ◌%◌, ◌<◌, ◌≤◌, true, false, ◌&&◌, ◌==◌, nat_lt, nat_le, List, sym, ◌∙◌, ap, arith, inl, inr, Option, Some, None, le-leb, lt-ltb}, lemmas.Bool.{cases_lt, leb-true, and_parts, and_from, ltb-true}, lemmas.Bool.Decides.{Decides-eqb}}
use Rattle.pmf_event.specs.{declared.event.Event.{Event}, declared.event.Event.TheVariants.{Store}, Span.{Extent, covers_byte}, Line.{line_of_byte, meets_line}, Store.{event_at, passes, at, stores, stores_line}, Laws.{MeetsTheLinesOfItsBytes, MeetsTheLinesOfItsNumbers, MeetsWhereAByteIsShared}}

-- what a span covers, as bounds
pub covers-bounds : (s : Extent) (b : ℕ) → covers_byte s b ≡ true → (s.first ≤ b) × (b < s.first + s.size)
covers-bounds s b is =
    let both = and_parts (nat_le s.first b) (nat_lt b (s.first + s.size)) is in
    (leb-true s.first b both.0, ltb-true b (s.first + s.size) both.1)

pub bounds-cover : (s : Extent) (b : ℕ) → s.first ≤ b → b < s.first + s.size → covers_byte s b ≡ true
bounds-cover s b low high = and_from _ _ (le-leb s.first b low) (lt-ltb b (s.first + s.size) high)

pub line-bounds : (b : ℕ) → (line_of_byte b ≤ b) × (b < line_of_byte b + 64) × (line_of_byte b % 64 ≡ 0)
line-bounds b = (omega arith, omega arith, omega arith)

pub line-unique : (b l : ℕ) → l % 64 ≡ 0 → l ≤ b → b < l + 64 → line_of_byte b ≡ l
line-unique b l aligned low high = omega arith

-- what meeting a line is, as bounds
pub meets-bounds : (s : Extent) (l : ℕ) → meets_line s l ≡ true → (l % 64 ≡ 0) × (s.first < l + 64) × (l < s.first + s.size)
meets-bounds s l is =
    let aligned = and_parts (l % 64 == 0) (nat_lt s.first (l + 64) && nat_lt l (s.first + s.size)) is in
    let bounds = and_parts (nat_lt s.first (l + 64)) (nat_lt l (s.first + s.size)) aligned.1 in
    ((Decides-eqb (l % 64) 0).0 aligned.0, ltb-true s.first (l + 64) bounds.0, ltb-true l (s.first + s.size) bounds.1)

pub bounds-meet : (s : Extent) (l : ℕ) → l % 64 ≡ 0 → s.first < l + 64 → l < s.first + s.size → meets_line s l ≡ true
bounds-meet s l aligned low high =
    and_from _ _ ((Decides-eqb (l % 64) 0).1 aligned) (and_from _ _ (lt-ltb s.first (l + 64) low) (lt-ltb l (s.first + s.size) high))

-- a span meets the line of each byte that it covers
pub line-meets : (s : Extent) (b : ℕ) → covers_byte s b ≡ true → meets_line s (line_of_byte b) ≡ true
line-meets s b covers =
    let bounds = covers-bounds s b covers in
    let line = line-bounds b in
    bounds-meet s (line_of_byte b) line.2 (omega (arith, bounds.0, line.1)) (omega (arith, bounds.1, line.0))

pub meets_the_lines_of_its_bytes : MeetsTheLinesOfItsBytes
meets_the_lines_of_its_bytes s l some = (
  λ meets. let bounds = meets-bounds s l meets in
      elim (cases_lt s.first l) [
        | inl below ↦ (l, bounds-cover s l (omega arith) bounds.2, line-unique l l bounds.0 (omega arith) (omega arith))
        | inr from ↦ (s.first, bounds-cover s s.first (omega arith) (omega arith), line-unique s.first l bounds.0 from bounds.1)
      ],
  λ here. ap (meets_line s) (sym here.2) ∙ line-meets s here.0 here.1,
)

pub meets_where_a_byte_is_shared : MeetsWhereAByteIsShared
meets_where_a_byte_is_shared s t some other = (
  λ meets.
      let bounds = and_parts (nat_lt s.first (t.first + t.size)) (nat_lt t.first (s.first + s.size)) meets in
      let low = ltb-true s.first (t.first + t.size) bounds.0 in
      let high = ltb-true t.first (s.first + s.size) bounds.1 in
      elim (cases_lt s.first t.first) [
        | inl below ↦ (t.first, bounds-cover s t.first (omega arith) high, bounds-cover t t.first (omega arith) (omega arith))
        | inr from ↦ (s.first, bounds-cover s s.first (omega arith) (omega arith), bounds-cover t s.first from low)
      ],
  λ here.
      let one = covers-bounds s here.0 here.1 in
      let another = covers-bounds t here.0 here.2 in
      and_from _ _ (lt-ltb s.first (t.first + t.size) (omega (arith, one.0, another.1))) (lt-ltb t.first (s.first + s.size) (omega (arith, another.0, one.1))),
)

passes-line : (b : ℕ) (o : Option Event) → passes (stores b) o ≡ true → passes (stores_line (line_of_byte b)) o ≡ true
unfolding stores stores_line
passes-line b None is = is
passes-line b (Some (Store s)) is = line-meets s b is
passes-line b (Some _) is = let bad : false ≡ true = is in cc

-- a store of a byte is a store that meets its line
pub stores-line : (es : List Event) (b k : ℕ) → at (stores b) es k ≡ true → at (stores_line (line_of_byte b)) es k ≡ true
unfolding at
stores-line es b k is = passes-line b (event_at es k) is

-- a line by its number meets the span exactly where the number is that of one of the span's lines
pub number-meets : (s : Extent) (n : ℕ) → 0 < s.size → s.first / 64 ≤ n → n ≤ (s.first + s.size - 1) / 64 → meets_line s (n * 64) ≡ true
number-meets s n some low high = bounds-meet s (n * 64) (omega arith) (omega arith) (omega arith)

pub meets-number : (s : Extent) (n : ℕ) → 0 < s.size → meets_line s (n * 64) ≡ true → (s.first / 64 ≤ n) × (n ≤ (s.first + s.size - 1) / 64)
meets-number s n some meets = let bounds = meets-bounds s (n * 64) meets in (omega (arith, bounds.1), omega (arith, bounds.2))

pub meets_the_lines_of_its_numbers : MeetsTheLinesOfItsNumbers
meets_the_lines_of_its_numbers s l some = (
  λ meets.
      let bounds = meets-bounds s l meets in
      let same : (l / 64) * 64 ≡ l = omega (arith, bounds.0) in
      let own = meets-number s (l / 64) some (ap (meets_line s) same ∙ meets) in
      (l / 64, own.0, omega (arith, own.0, own.1), same),
  λ here. ap (meets_line s) (sym here.3) ∙ number-meets s here.0 some here.1 (omega (arith, here.1, here.2)),
)
