-- What does not hold: contradicted assertions, certified pairs, and pairs of two bytes that one store wrote.
use Rattle.std.proofs.{Common.{◌≡◌, ℕ, ◌+◌, ◌-◌, ◌≤◌, Bool, true, false, not, ◌&&◌, ◌||◌, if◌then◌else◌, List, length, refl, sym, ◌∙◌, ap, arith, inl, inr, subst, Option, lt-ltb, ltb-false, nat_lt}, lemmas.Bool.{cases_lt, cases_eq, and_from, and_parts, false_from_ne_true}, lemmas.Bool.Decides.{Decides-eqb}, lemmas.Grind.{common_steps}}
use Rattle.pmf_event.{specs.declared.event.Event.{Event}, specs.declared.profile.Profile.{Profile}, specs.declared.profile.Profile.TheVariants.{Two}, specs.Line.{line_of_byte}, specs.Span.{Extent, covers_byte}, specs.Store.{event_at, last_store}, specs.Interval.{interval_at}, specs.Persist.{is_checked}, specs.Order.{precedes, share_line, is_stored_before, is_ordered, is_unordered, is_certified}, proofs.PlacesLemmas.{greatest-bound}}
use Rattle.pmf_image.{specs.Image.{Image, count_of, floor_of, is_in, cut_of, reach_of, shows}, specs.declared.certificate.Certificate.{Certificate}, specs.Certificate.{image_of}, specs.Contradiction.{ContradictsEvent}, specs.Holds.{OrderedHolds, EventHolds}, specs.Laws.{ContradictedDoNotHold, CertifiedPairsDoNotHold, PairsAreOneByte, ProfileTwoIsExact, at_store}, proofs.ImageLemmas.{written-from_checked, last_store-stores, last_store-bound, shown-reaches, count_of-here, count_of-mono, reached-shown, holds-where_closed, allows_each_cut, allows_each_torn}, proofs.OrderedLemmas.{shown-ordered}, proofs.FailureLemmas.{not_holds-where_open, shown-where_open, certificates-allowed, pair-shown, unordered-parts, shows-bound}}

-- ---- contradicted assertions

not_holds-event : (es : List Event) (p : ℕ) (c : Certificate) → c.crash ≤ length es → (o : Option Event) → ContradictsEvent es p c o → EventHolds es p o → ⊥
not_holds-event es p c within o contradicted holds = grind (arith, common_steps, certificates-allowed)

pub not_holds-contradicted : ContradictedDoNotHold
not_holds-contradicted es p c within contradicted holds = not_holds-event es p c within (event_at es p) contradicted holds

-- ---- certified pairs

pub checked-parts : (profile : Profile) (es : List Event) (p x y : ℕ) → is_unordered profile es p x y ≡ true →
    (is_checked es p x ≡ true) × (is_checked es p y ≡ true) × (is_ordered profile es p x y ≡ false)
unfolding is_unordered
checked-parts profile es p x y is = unordered-parts (is_checked es p x) (is_checked es p y) (is_ordered profile es p x y) is

pub not_holds-certified : CertifiedPairsDoNotHold
unfolding is_certified
not_holds-certified profile es p a b x y in_a in_b certified holds =
    let shown = pair-shown profile es p x y certified in
    let is = and_parts (is_unordered profile es p x y) (not (share_line x y) || is_stored_before es p y x) certified in
    let parts = checked-parts profile es p x y is.0 in
    let c = at_store es p y in
    shown.1 (holds c.crash (last_store-bound es p y) (image_of es c) (certificates-allowed es c) x y in_a in_b parts.0 parts.1 shown.0)

-- ---- two bytes that one store wrote

-- at a store of its line, the floor is below that store
floor-below_store : (es : List Event) (k line : ℕ) → floor_of es k line ≤ count_of es (k - 1) line
unfolding floor_of
floor-below_store es k line = grind (arith, common_steps, greatest-bound, count_of-mono)

pub reach-torn : (es : List Event) (n b : ℕ) (image : Image) → is_in image.torn b ≡ true → reach_of es n image b ≡ cut_of es n image (line_of_byte b) + 1
unfolding reach_of
reach-torn es n b image is = ap (λ v. cut_of es n image (line_of_byte b) + (if v then 1 else 0)) is

pub reach-whole : (es : List Event) (n b : ℕ) (image : Image) → is_in image.torn b ≡ false → reach_of es n image b ≡ cut_of es n image (line_of_byte b)
unfolding reach_of
reach-whole es n b image is = ap (λ v. cut_of es n image (line_of_byte b) + (if v then 1 else 0)) is ∙ (omega arith)

-- of two bytes of one line with one last store, a torn image shows it at the second alone
not_holds-torn : (es : List Event) (p : ℕ) (a b : Extent) (x y : ℕ) → covers_byte a x ≡ true → covers_byte b y ≡ true →
    is_checked es p x ≡ true → is_checked es p y ≡ true → line_of_byte x ≡ line_of_byte y → last_store es p x ≡ last_store es p y →
    (x ≡ y → ⊥) → OrderedHolds es p a b → ⊥
not_holds-torn es p a b x y in_a in_b x_checked y_checked share one apart holds =
    let k = last_store es p y in
    let line = line_of_byte y in
    let y_written = written-from_checked es p y y_checked in
    let here = count_of-here es y k y_written (last_store-stores es p y y_written) in
    let torn = allows_each_torn es k y (count_of es (k - 1) line) (floor-below_store es k line) (omega arith) in
    let y_reach = reach-torn es k y torn.image ((torn.torn y).1 refl) in
    let low = reached-shown es k y k torn.image y_written (omega arith) (last_store-stores es p y y_written) (let cut = torn.here in omega arith) in
    let high = shows-bound es k y torn.image in
    let shown = holds k (last_store-bound es p y) torn.image torn.allowed x y in_a in_b x_checked y_checked (omega arith) in
    let x_is = shown-reaches es k x torn.image (omega arith) in
    let x_reach = reach-whole es k x torn.image (false_from_ne_true _ (λ is. apart ((torn.torn x).0 is))) in
    let at_k : shows es k torn.image x ≡ k = shown ∙ one in
    let rank : count_of es k (line_of_byte x) ≤ reach_of es k torn.image x = subst (λ j. count_of es j (line_of_byte x) ≤ reach_of es k torn.image x) at_k x_is.1 in
    let moved : count_of es k (line_of_byte x) ≡ count_of es k line = ap (count_of es k) share in
    let cut : cut_of es k torn.image (line_of_byte x) ≡ count_of es (k - 1) line = ap (cut_of es k torn.image) share ∙ torn.here in
    omega (arith, rank, moved, cut, x_reach, here)

-- ---- pairs that profile Two leaves unordered

not_stored_before : (es : List Event) (p x y : ℕ) → is_stored_before es p x y ≡ false → last_store es p y ≤ last_store es p x
unfolding is_stored_before
not_stored_before es p x y not_before = ltb-false (last_store es p x) (last_store es p y) not_before

-- bytes of one line that profile Two leaves unordered: the first isn't stored before the second
unordered-later : (es : List Event) (p x y : ℕ) → share_line x y ≡ true → is_ordered Two es p x y ≡ false → is_stored_before es p x y ≡ false
unfolding is_ordered
unordered-later es p x y share is = by (precedes (interval_at es p x) (interval_at es p y)) (share_line x y) (is_stored_before es p x y) share is where
  by : (u v w : Bool) → v ≡ true → (u || (v && w)) ≡ false → w ≡ false
  by true v w same is = let bad : true ≡ false = is in cc
  by false true w same is = is
  by false false w same is = let bad : false ≡ true = same in cc

certified-from : (profile : Profile) (es : List Event) (p x y : ℕ) → is_unordered profile es p x y ≡ true → (not (share_line x y) || nat_lt (last_store es p y) (last_store es p x)) ≡ true →
    is_certified profile es p x y ≡ true
unfolding is_certified is_stored_before
certified-from profile es p x y unordered certain = and_from _ _ unordered certain

not_holds-unordered : (es : List Event) (p : ℕ) (a b : Extent) (x y : ℕ) → covers_byte a x ≡ true → covers_byte b y ≡ true →
    is_unordered Two es p x y ≡ true → (x ≡ y → ⊥) → OrderedHolds es p a b → ⊥
not_holds-unordered es p a b x y in_a in_b unordered apart holds =
    let parts = checked-parts Two es p x y unordered in
    elim (share_line x y) as (λ v. share_line x y ≡ v → ⊥) [
      | true ↦ λ share.
          let least = not_stored_before es p x y (unordered-later es p x y share parts.2) in
          elim (cases_lt (last_store es p y) (last_store es p x)) [
            | inl later ↦ not_holds-certified Two es p a b x y in_a in_b (certified-from Two es p x y unordered (rw (share, lt-ltb _ _ later) refl)) holds
            | inr one ↦ not_holds-torn es p a b x y in_a in_b parts.0 parts.1 ((Decides-eqb (line_of_byte x) (line_of_byte y)).0 share) (omega arith) apart holds
          ]
      | false ↦ λ apart_lines. not_holds-certified Two es p a b x y in_a in_b (certified-from Two es p x y unordered (rw apart_lines refl)) holds
    ] refl

one_byte-from_holds : (es : List Event) (p : ℕ) (a b : Extent) → OrderedHolds es p a b → PairsAreOneByte es p a b
one_byte-from_holds es p a b holds x y in_a in_b unordered = grind (arith, common_steps, cases_eq, not_holds-unordered)

unordered-from : (es : List Event) (p x y : ℕ) → is_checked es p x ≡ true → is_checked es p y ≡ true → is_ordered Two es p x y ≡ false → is_unordered Two es p x y ≡ true
unfolding is_unordered
unordered-from es p x y x_checked y_checked other = and_from _ _ (and_from _ _ x_checked y_checked) (ap not other)

holds-from_one_byte : (es : List Event) (p : ℕ) (a b : Extent) → PairsAreOneByte es p a b → OrderedHolds es p a b
holds-from_one_byte es p a b each n within image allowed x y in_a in_b x_checked y_checked shown =
    elim (is_ordered Two es p x y) as (λ v. is_ordered Two es p x y ≡ v → shows es n image x ≡ last_store es p x) [
      | true ↦ λ ordered. shown-ordered es p n image allowed within x y (written-from_checked es p x x_checked) (written-from_checked es p y y_checked) shown Two ordered
      | false ↦ λ other.
          let same = each x y in_a in_b (unordered-from es p x y x_checked y_checked other) in
          subst (λ z. shows es n image z ≡ last_store es p z) (sym same) shown
    ] refl

pub holds-by_profile_two : ProfileTwoIsExact
holds-by_profile_two es p a b = (one_byte-from_holds es p a b, holds-from_one_byte es p a b)

-- the laws
pub ruleset laws = (holds-where_closed, not_holds-where_open, allows_each_cut, allows_each_torn, certificates-allowed, shown-where_open, pair-shown, not_holds-contradicted, not_holds-certified)
