-- What is written at the end of what is kept. No public clause cites this.
use Rattle.std.specs.{Prelude.{ℕ, ◌-◌, ◌==◌, Bool, List, ◌++◌, length, count_by, flat_map, sum_by, Option, None, if◌then◌else◌}}
use Rattle.pmf_request.specs.declared.settings.Reasons.{Reasons}
use Rattle.pmf_why.specs.{declared.kind.Kind.{Kind}, declared.taking.Told.{Told}, declared.plan.Counts.{Counts}, declared.taking.Telling.{Telling}, Kinds.{is_one_kind}, Why.{text_of_none, text_of_numbers, text_of_sums}, WhyText.{text_of_more}}

-- how many rows of these kinds a row that is told stands for: each for itself, or for all of its kind
unfoldable pub like_in : Bool → List Kind → Told → ℕ
like_in all kinds told = if all then 1 else count_by (is_one_kind told.kind) kinds

-- of what is told, for how many more it stands
unfoldable pub likes_in : Bool → List Kind → List Told → List ℕ
likes_in all kinds told = flat_map (λ t. text_of_more t.name t.row (like_in all kinds t)) told

-- for how many rows none stands
unfoldable pub left_in : Bool → List Kind → List Told → ℕ
left_in all kinds told = length kinds - sum_by (λ t. like_in all kinds t) told

-- the event that is asked for, where there is no row
abbrev pub missed_in : Reasons → List Kind → Option ℕ
missed_in asked kinds = if length kinds == 0 then asked.event else None

-- the counts of all
unfoldable pub counts_at_end : Telling → List ℕ
counts_at_end t = text_of_numbers (length t.kinds.items) (length t.told.items) (left_in t.asked.all t.kinds.items t.told.items)
    ++ text_of_sums (sum_by (λ (c : Counts). c.pass) t.counts.items) (sum_by (λ (c : Counts). c.fail) t.counts.items)

-- these, or that the event that is asked for has no row, behind what is alike
unfoldable pub text_at_end : Telling → List ℕ
text_at_end t = likes_in t.asked.all t.kinds.items t.told.items ++ text_of_none (missed_in t.asked t.kinds.items) (counts_at_end t)
