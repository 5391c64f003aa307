-- What an order assertion finds (PMTest, ASPLOS 2019: isOrderedBefore). It speaks of pairs: a checked
-- byte of the one span and a checked byte of the other. EMPTY, SAMELINE and the least pair are defined
-- here; that a line's stores become durable in their order is x86 persistency (Raad et al., POPL 2020).
use Rattle.std.specs.Prelude.{ℕ, Bool, false, not, ◌&&◌, ◌||◌, ◌==◌, nat_lt, nat_le, List, Option, None, Some, is_some, is_none, if◌then◌else◌}
use Rattle.pmf_event.specs.{declared.event.Event.{Event}, declared.finding.Finding.{Finding}, declared.finding.Finding.TheVariants.{OrderedPass, OrderedFail, OrderedSameLine, OrderedEmpty}, declared.interval.Interval.{Interval}, declared.profile.Profile.{Profile}, declared.profile.Profile.TheVariants.{One, Two}, Span.{Extent}, Line.{line_of_byte}, Ranges.{first_byte}, Store.{last_store}, Interval.{interval_at}, Persist.{is_checked}}

-- whether what closes then, if it does, is closed by this epoch
abbrev pub is_closed_by : Option ℕ → ℕ → Bool
is_closed_by None epoch = false
is_closed_by (Some end) epoch = nat_le end epoch

-- whether the one interval closes no later than the other opens
abbrev pub precedes : Option Interval → Option Interval → Bool
precedes (Some x) (Some y) = is_closed_by x.closes y.opens
precedes _ _ = false

-- whether both bytes lie on one cache line
abbrev pub share_line : ℕ → ℕ → Bool
share_line x y = line_of_byte x == line_of_byte y

-- whether byte x was last stored before byte y
unfoldable pub is_stored_before : List Event → ℕ → ℕ → ℕ → Bool
is_stored_before es p x y = nat_lt (last_store es p x) (last_store es p y)

-- whether byte x is durable before byte y: its interval closes no later than y's opens; under profile
-- Two also where both lie on one line and x was stored before y
unfoldable pub is_ordered : Profile → List Event → ℕ → ℕ → ℕ → Bool
is_ordered One es p x y = precedes (interval_at es p x) (interval_at es p y)
is_ordered Two es p x y = precedes (interval_at es p x) (interval_at es p y) || (share_line x y && is_stored_before es p x y)

-- whether the pair is unordered: both bytes are checked, and x is not durable before y
unfoldable pub is_unordered : Profile → List Event → ℕ → ℕ → ℕ → Bool
is_unordered profile es p x y = is_checked es p x && is_checked es p y && not (is_ordered profile es p x y)

-- whether an unordered pair has an untorn crash image that shows it: the lines differ, or x was stored
-- after y
unfoldable pub is_certified : Profile → List Event → ℕ → ℕ → ℕ → Bool
is_certified profile es p x y = is_unordered profile es p x y && (not (share_line x y) || is_stored_before es p y x)

-- whether the byte has a partner in the span
unfoldable pub has_partner : (ℕ → ℕ → Bool) → Extent → ℕ → Bool
has_partner test b x = is_some (first_byte (test x) b)

-- the byte with this partner
abbrev pub paired : ℕ → Option ℕ → Option (ℕ × ℕ)
paired x None = None
paired x (Some y) = Some (x, y)

-- the byte with its least partner in the span
abbrev pub with_partner : (ℕ → ℕ → Bool) → Extent → Option ℕ → Option (ℕ × ℕ)
with_partner test b None = None
with_partner test b (Some x) = paired x (first_byte (test x) b)

-- the least pair that passes the test: the least byte of the one span that has a partner in the other,
-- and its least partner
unfoldable pub least_pair : (ℕ → ℕ → Bool) → Extent → Extent → Option (ℕ × ℕ)
least_pair test a b = with_partner test b (first_byte (has_partner test b) a)

-- fail with the least certified pair, and the place after which a crash shows it; without one, SAMELINE
-- with the least unordered pair; else pass
abbrev pub finding_of_pairs : List Event → ℕ → Option (ℕ × ℕ) → Option (ℕ × ℕ) → Finding
finding_of_pairs es p (Some (x, y)) unordered = OrderedFail x y (last_store es p y)
finding_of_pairs es p None (Some (x, y)) = OrderedSameLine x y
finding_of_pairs es p None None = OrderedPass

-- what an order assertion finds at p: EMPTY where one of the spans has no checked byte
unfoldable pub ordered_finding : Profile → List Event → ℕ → Extent → Extent → Finding
ordered_finding profile es p a b =
    if is_none (first_byte (is_checked es p) a) then OrderedEmpty
    else if is_none (first_byte (is_checked es p) b) then OrderedEmpty
    else finding_of_pairs es p (least_pair (is_certified profile es p) a b) (least_pair (is_unordered profile es p) a b)
