-- The counts of all that was met, from what was counted.
use Rattle.std.proofs.Common.{◌≡◌, ℕ, List, ◌++◌, length, sum_by}
use Rattle.pmf_why.specs.{declared.kind.Kind.{Kind}, declared.taking.Told.{Told}, declared.plan.Counts.{Counts}, declared.taking.Telling.{Telling}, Ending.{counts_at_end, left_in}, Why.{text_of_numbers, text_of_sums}}

pub counted : (t : Telling) (rows told untold pass fail : ℕ) (ks : List Kind) (ts : List Told) (cs ds : List Counts) → rows ≡ length t.kinds.items → told ≡ length t.told.items →
    untold ≡ left_in t.asked.all ks ts → ks ≡ t.kinds.items → ts ≡ t.told.items → pass ≡ sum_by (λ (c : Counts). c.pass) cs → cs ≡ t.counts.items → fail ≡ sum_by (λ (c : Counts). c.fail) ds → ds ≡ t.counts.items →
    counts_at_end t ≡ text_of_numbers rows told untold ++ text_of_sums pass fail
unfolding counts_at_end
counted t rows told untold pass fail ks ts cs ds a b c d e f g h i = cc
