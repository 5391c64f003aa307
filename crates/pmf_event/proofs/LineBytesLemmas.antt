-- The state of a line follows from its bytes: the last store that meets it is the last store of one of
-- its bytes, and no byte of it has a later one.
use Rattle.std.proofs.{Common.{◌≡◌, ℕ, ◌%◌, ◌<◌, ◌≤◌, Bool, true, false, not, ◌&&◌, ◌||◌, ◌==◌, nat_lt, List, refl, sym, ◌∙◌, ap, arith, inl, inr, ◌↔◌, Option, Some, None, lt-ltb, le-ltb, ne_eqb}, lemmas.Bool.{cases_eq, cases_lt, ltb-true, and_parts, and_from, or_left, or_right, or_from, not_from_false, not-true, false_from_ne_true}, lemmas.Bool.Decides.{Decides-eqb}}
use Rattle.pmf_event.{specs.declared.event.Event.{Event}, specs.declared.event.Event.TheVariants.{Store}, specs.declared.span.TheConstants.{LINE_SIZE}, specs.Span.{Extent, covers_byte}, specs.Line.{line_of_byte, meets_line}, specs.Places.{least}, specs.Store.{event_at, passes, at, stores, stores_line, flushes, last, last_store}, specs.Interval.{writes_back, first_write_back, closes, closing_fence}, specs.FlushWarnings.{is_clean, is_pending}, specs.LineBytes.{is_undurable, is_unwritten, HasBytes, SomeByteOf, NoByteOf, LinesFollowFromTheirBytes}, proofs.PlacesLemmas.{greatest-passes, greatest-above, least-bound, least-passes, least-below}, proofs.IntervalLemmas.{Closing-found, Closing-closes}, proofs.LineLemmas.{line-bounds, line-unique, meets_the_lines_of_its_bytes, stores-line}, proofs.WriteBackLemmas.{last-bound}}

-- the last of some stores: it passes, and it is at or behind each place that does
pub last-passes : (test : Event → Bool) (es : List Event) (p : ℕ) → 0 < last test es p → at test es (last test es p) ≡ true
unfolding last
last-passes test es p some = greatest-passes (at test es) p some

pub last-above : (test : Event → Bool) (es : List Event) (p k : ℕ) → 0 < k → k ≤ p → at test es k ≡ true → k ≤ last test es p
unfolding last
last-above test es p k positive within is = greatest-above (at test es) p k positive within is

-- the store at a place that meets the line
record StoreThere (o : Option Event) (line : ℕ) : Type 0 where
  span : Extent
  there : o ≡ Some (Store span)
  meets : meets_line span line ≡ true

store-there : (o : Option Event) (line : ℕ) → passes (stores_line line) o ≡ true → StoreThere o line
unfolding stores_line
store-there None line is = let bad : false ≡ true = is in cc
store-there (Some (Store s)) line is = record { span = s; there = refl; meets = is }
store-there (Some _) line is = let bad : false ≡ true = is in cc

stores-there : (es : List Event) (k b : ℕ) (s : Extent) → event_at es k ≡ Some (Store s) → covers_byte s b ≡ true → at (stores b) es k ≡ true
unfolding at stores
stores-there es k b s here covers = ap (passes (stores b)) here ∙ covers

line-there : (es : List Event) (k line : ℕ) → at (stores_line line) es k ≡ true → StoreThere (event_at es k) line
unfolding at
line-there es k line is = store-there (event_at es k) line is

module _ (es : List Event) (line p : ℕ) where
  -- a write-back after a place is one after each earlier place
  earlier-first : (j k : ℕ) → j ≤ k → 0 < least (writes_back es line k) p → 0 < least (writes_back es line j) p
  unfolding writes_back
  earlier-first j k before some =
      let w = least (writes_back es line k) p in
      let is = and_parts (nat_lt k w) (at (flushes line) es w) (least-passes (writes_back es line k) p some) in
      let after = ltb-true k w is.0 in
      (least-below (writes_back es line j) p w some (least-bound (writes_back es line k) p) (and_from _ _ (lt-ltb j w (omega arith)) is.1)).0

  -- and so is a fence behind one
  earlier-closing : (j k : ℕ) → j ≤ k → 0 < least (closes es line k) p → 0 < least (closes es line j) p
  earlier-closing j k before some =
      let c = Closing-found es line k p some in
      Closing-closes es line j p (record {
        flush = c.flush;
        fence = c.fence;
        after = omega (arith, c.after);
        before = c.before;
        within = c.within;
        is_flush = c.is_flush;
        is_fence = c.is_fence;
      })

-- a place without another, as a test: stored to, and nothing after
pub lacks-parts : (k f : ℕ) → (nat_lt 0 k && f == 0) ≡ true → (0 < k) × (f ≡ 0)
lacks-parts k f is = let both = and_parts (nat_lt 0 k) (f == 0) is in (ltb-true 0 k both.0, (Decides-eqb f 0).0 both.1)

pub lacks-from : (k f : ℕ) → 0 < k → f ≡ 0 → (nat_lt 0 k && f == 0) ≡ true
lacks-from k f some none = and_from _ _ (lt-ltb 0 k some) ((Decides-eqb f 0).1 none)

pub lacks-not : (k f : ℕ) → (0 < k → 0 < f) → (nat_lt 0 k && f == 0) ≡ false
lacks-not k f has = false_from_ne_true _ (λ is. let lacks = lacks-parts k f is in let some = has lacks.0 in let none = lacks.1 in omega arith)

pub lacks-has : (k f : ℕ) → (nat_lt 0 k && f == 0) ≡ false → 0 < k → 0 < f
lacks-has k f is some = elim (cases_eq f 0) [
  | inl none ↦ let bad : false ≡ true = sym is ∙ lacks-from k f some none in cc
  | inr has ↦ omega arith
]

-- no place, or one with another, as a test
done-parts : (q f : ℕ) → (q == 0 || nat_lt 0 f) ≡ true → 0 < q → 0 < f
done-parts q f is some = elim (cases_lt 0 f) [
  | inl has ↦ has
  | inr none ↦ let bad : false ≡ true = sym (or_from (q == 0) (nat_lt 0 f) (ne_eqb q 0 (λ zero_is. omega arith)) (le-ltb 0 f none)) ∙ is in cc
]

done-from : (q f : ℕ) → (0 < q → 0 < f) → (q == 0 || nat_lt 0 f) ≡ true
done-from q f has = elim (cases_lt 0 q) [
  | inl some ↦ or_right (q == 0) (nat_lt 0 f) (lt-ltb 0 f (has some))
  | inr none ↦ or_left (q == 0) (nat_lt 0 f) ((Decides-eqb q 0).1 (omega arith))
]

-- a byte of the line whose last store is the last that meets the line
record LastByte (es : List Event) (p line : ℕ) : Type 0 where
  byte : ℕ
  home : line_of_byte byte ≡ line
  is : last_store es p byte ≡ last (stores_line line) es p

module _ (es : List Event) (p line : ℕ) where
  -- no byte of the line was stored to after the last store that meets the line
  own-bound : (b : ℕ) → line_of_byte b ≡ line → last_store es p b ≤ last (stores_line line) es p
  own-bound b home =
      let k = last_store es p b in
      elim (cases_lt 0 k) [
        | inl some ↦ last-above (stores_line line) es p k some (last-bound (stores b) es p)
            (ap (λ l. at (stores_line l) es k) (sym home) ∙ stores-line es b k (last-passes (stores b) es p some))
        | inr none ↦ omega arith
      ]

  last-byte : HasBytes es p → 0 < last (stores_line line) es p → LastByte es p line
  last-byte sized some =
      let q = last (stores_line line) es p in
      let bound = last-bound (stores_line line) es p in
      let store = line-there es q line (last-passes (stores_line line) es p some) in
      let found = (meets_the_lines_of_its_bytes store.span line (sized q store.span bound store.there)).0 store.meets in
      let above = last-above (stores found.0) es p q some bound (stores-there es q found.0 store.span store.there found.1) in
      let below = own-bound found.0 found.2 in
      record { byte = found.0; home = found.2; is = omega arith }

  undurable-there : (b : ℕ) → line_of_byte b ≡ line → is_undurable es p b ≡ (nat_lt 0 (last_store es p b) && least (closes es line (last_store es p b)) p == 0)
  unfolding is_undurable closing_fence
  undurable-there b home = ap (λ l. nat_lt 0 (last_store es p b) && least (closes es l (last_store es p b)) p == 0) home

  unwritten-there : (b : ℕ) → line_of_byte b ≡ line → is_unwritten es p b ≡ (nat_lt 0 (last_store es p b) && least (writes_back es line (last_store es p b)) p == 0)
  unfolding is_unwritten first_write_back
  unwritten-there b home = ap (λ l. nat_lt 0 (last_store es p b) && least (writes_back es l (last_store es p b)) p == 0) home

  clean-there : is_clean es p line ≡ (last (stores_line line) es p == 0 || nat_lt 0 (least (closes es line (last (stores_line line) es p)) p))
  unfolding is_clean closing_fence
  clean-there = refl

  pending-there : is_pending es p line ≡ (not (is_clean es p line) && nat_lt 0 (least (writes_back es line (last (stores_line line) es p)) p))
  unfolding is_pending first_write_back
  pending-there = refl

  -- no byte of a clean line is undurable
  none_undurable-from_clean : is_clean es p line ≡ true → (b : ℕ) → line_of_byte b ≡ line → is_undurable es p b ≡ false
  none_undurable-from_clean clean b home =
      let q = last (stores_line line) es p in
      let k = last_store es p b in
      let before = own-bound b home in
      undurable-there b home
      ∙ lacks-not k (least (closes es line k) p) (λ some.
      earlier-closing es line p k q before (done-parts q (least (closes es line q) p) (sym clean-there ∙ clean) (omega arith)))

  -- no byte is unwritten where a write-back follows the last store that meets the line
  none_unwritten-from_first : 0 < least (writes_back es line (last (stores_line line) es p)) p → (b : ℕ) → line_of_byte b ≡ line → is_unwritten es p b ≡ false
  none_unwritten-from_first first b home =
      let k = last_store es p b in
      unwritten-there b home
      ∙ lacks-not k (least (writes_back es line k) p) (λ some. earlier-first es line p k (last (stores_line line) es p) (own-bound b home) first)

  -- a line that is not clean was stored to
  stored-from_unclean : is_clean es p line ≡ false → 0 < last (stores_line line) es p
  stored-from_unclean unclean = elim (cases_lt 0 (last (stores_line line) es p)) [
    | inl some ↦ some
    | inr none ↦
        let q = last (stores_line line) es p in
        let bad : false ≡ true = sym unclean ∙ clean-there ∙ done-from q (least (closes es line q) p) (λ some. omega arith) in cc
  ]

  -- a line is pending where it is not clean and a write-back follows the last store that met it
  pending-parts : is_pending es p line ≡ true → (is_clean es p line ≡ false) × (0 < least (writes_back es line (last (stores_line line) es p)) p)
  pending-parts pending =
      let w = least (writes_back es line (last (stores_line line) es p)) p in
      let both = and_parts (not (is_clean es p line)) (nat_lt 0 w) (sym pending-there ∙ pending) in
      (not-true (is_clean es p line) both.0, ltb-true 0 w both.1)

  pending-from : is_clean es p line ≡ false → 0 < least (writes_back es line (last (stores_line line) es p)) p → is_pending es p line ≡ true
  pending-from unclean first = pending-there ∙ and_from _ _ (not_from_false (is_clean es p line) unclean) (lt-ltb 0 _ first)

  module _ (sized : HasBytes es p) where
    -- a line is clean where none of its bytes is undurable
    clean-from_none_undurable : ((b : ℕ) → line_of_byte b ≡ line → is_undurable es p b ≡ false) → is_clean es p line ≡ true
    clean-from_none_undurable none =
        let q = last (stores_line line) es p in
        clean-there ∙ done-from q (least (closes es line q) p) (λ some.
        let b = last-byte sized some in
        lacks-has q (least (closes es line q) p)
        (ap (λ k. nat_lt 0 k && least (closes es line k) p == 0) (sym b.is) ∙ sym (undurable-there b.byte b.home) ∙ none b.byte b.home) some)

    -- the byte of the last store that meets a line that is not clean is undurable
    some_undurable-from_unclean : is_clean es p line ≡ false → (b : ℕ) × (line_of_byte b ≡ line) × (is_undurable es p b ≡ true)
    some_undurable-from_unclean unclean =
        let q = last (stores_line line) es p in
        let some = stored-from_unclean unclean in
        let b = last-byte sized some in
        let unclosed : least (closes es line q) p ≡ 0 = elim (cases_lt 0 (least (closes es line q) p)) [
          | inl has ↦ let bad : false ≡ true = sym unclean ∙ clean-there ∙ done-from q (least (closes es line q) p) (λ more. has) in cc
          | inr none ↦ omega arith
        ] in
        (b.byte, b.home, undurable-there b.byte b.home ∙ ap (λ k. nat_lt 0 k && least (closes es line k) p == 0) b.is ∙ lacks-from q (least (closes es line q) p) some unclosed)

    -- where none of its bytes is unwritten, a write-back follows the last store that meets the line
    first-from_none_unwritten : 0 < last (stores_line line) es p → ((b : ℕ) → line_of_byte b ≡ line → is_unwritten es p b ≡ false) →
        0 < least (writes_back es line (last (stores_line line) es p)) p
    first-from_none_unwritten some none =
        let q = last (stores_line line) es p in
        let b = last-byte sized some in
        lacks-has q (least (writes_back es line q) p)
        (ap (λ k. nat_lt 0 k && least (writes_back es line k) p == 0) (sym b.is) ∙ sym (unwritten-there b.byte b.home) ∙ none b.byte b.home) some

module _ (es : List Event) (p line : ℕ) (aligned : line % LINE_SIZE ≡ 0) (sized : HasBytes es p) where
  clean_follows : (is_clean es p line ≡ true) ↔ NoByteOf line (is_undurable es p)
  clean_follows = (
    λ is. λ b low high. none_undurable-from_clean es p line is b (line-unique b line aligned low high),
    λ none. clean-from_none_undurable es p line sized (λ b home. let own = line-bounds b in none b (omega (arith, own.0)) (omega (arith, own.1))),
  )

  pending_follows : (is_pending es p line ≡ true) ↔ (SomeByteOf line (is_undurable es p) × NoByteOf line (is_unwritten es p))
  pending_follows = (
    λ is.
        let both = pending-parts es p line is in
        let found = some_undurable-from_unclean es p line sized both.0 in
        let own = line-bounds found.0 in (
          (found.0, omega (arith, own.0, found.1), omega (arith, own.1, found.1), found.2),
          λ b low high. none_unwritten-from_first es p line both.1 b (line-unique b line aligned low high),
        ),
    λ parts.
        let some = parts.0 in
        let none = parts.1 in
        let unclean = false_from_ne_true (is_clean es p line) (λ is.
        let bad : false ≡ true = sym (none_undurable-from_clean es p line is some.0 (line-unique some.0 line aligned some.1 some.2)) ∙ some.3 in cc) in
        pending-from es p line unclean (first-from_none_unwritten es p line sized (stored-from_unclean es p line unclean)
        (λ b home. let own = line-bounds b in none b (omega (arith, own.0)) (omega (arith, own.1)))),
  )

pub lines_follow_from_their_bytes : LinesFollowFromTheirBytes
lines_follow_from_their_bytes es p line aligned sized = (clean_follows es p line aligned sized, pending_follows es p line aligned sized)
