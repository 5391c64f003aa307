-- What lacks nothing holds.
use Rattle.std.proofs.Common.{◌≡◌, Bool, true, false, not, ◌&&◌, refl, sym}
use Rattle.pmf_event.{specs.declared.profile.Profile.TheVariants.{One}, specs.Interval.{interval_at, is_open}, specs.Persist.{is_checked}, specs.Order.{is_ordered, is_unordered}, proofs.IntervalLemmas.{no_Closing-from_open}}
use Rattle.pmf_image.proofs.{ImageLemmas.{holds-where_closed}, OrderedLemmas.{holds-where_ordered}}
use Rattle.pmf_cause.{specs.Laws.{WhatIsFencedBeforeHolds, WhatIsFencedInTimeHolds}, proofs.LawLemmas.{closing-where_nothing, unordered-open}}

pub shut : (v : Bool) → (v ≡ true → ⊥) → v ≡ false
shut true never = absurd (never refl)
shut false never = refl

sure : (v : Bool) → (v ≡ false → ⊥) → v ≡ true
sure true never = refl
sure false never = absurd (never refl)

pub in_time : WhatIsFencedInTimeHolds
in_time es p s nothing = holds-where_closed es p s (λ b inside checked. shut (is_open (interval_at es p b)) (λ gap. no_Closing-from_open es p b gap (closing-where_nothing es _ (nothing b inside checked))))

unordered : (u v w : Bool) → u ≡ true → v ≡ true → w ≡ false → (u && v && not w) ≡ true
unordered true true false one other is = refl
unordered true true true one other is = sym is
unordered true false w one other is = other
unordered false v w one other is = one

pub before : WhatIsFencedBeforeHolds
unfolding is_unordered
before es p a b nothing = holds-where_ordered One es p a b (λ x y in_a in_b x_checked y_checked. sure (is_ordered One es p x y) (λ is.
    unordered-open One es p x y (unordered (is_checked es p x) (is_checked es p y) (is_ordered One es p x y) x_checked y_checked is) (closing-where_nothing es _ (nothing x y in_a in_b x_checked y_checked))))
