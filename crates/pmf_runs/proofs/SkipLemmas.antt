-- What a question comes to where no state can answer it.
use Rattle.std.proofs.Common.{◌≡◌, ℕ, zero, suc, ◌+◌, Bool, false, refl, sym, ◌∙◌, ap, if◌then◌else◌, Option, None, Some}
use Rattle.pmf_event.{proofs.RangeLemmas.{lesser-none, lesser-assoc}, specs.Ranges.{first_from, least_from, lesser}}

pub first-none : (test : ℕ → Bool) (b n : ℕ) → ((k : ℕ) → test k ≡ false) → first_from test b n ≡ None
unfolding first_from
first-none test b zero fails = refl
first-none test b (suc n) fails = ap (λ t. if t then Some b else first_from test (b + 1) n) (fails b) ∙ first-none test (b + 1) n fails

pub least-none : (key : ℕ → Option ℕ) (least : Option ℕ) (b n : ℕ) → ((k : ℕ) → lesser least (key k) ≡ least) → lesser least (least_from key b n) ≡ least
unfolding least_from
least-none key least b zero same = lesser-none least
least-none key least b (suc n) same = sym (lesser-assoc least (key b) (least_from key (b + 1) n)) ∙ ap (λ x. lesser x (least_from key (b + 1) n)) (same b) ∙ least-none key least (b + 1) n same

-- an empty range has no answer
pub first-empty : (test : ℕ → Bool) (b n : ℕ) → n ≡ 0 → None ≡ first_from test b n
unfolding first_from
first-empty test b n none = sym (ap (first_from test b) none)

pub least-empty : (key : ℕ → Option ℕ) (b n : ℕ) → n ≡ 0 → None ≡ least_from key b n
unfolding least_from
least-empty key b n none = sym (ap (least_from key b) none)
