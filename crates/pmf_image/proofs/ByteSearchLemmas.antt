-- The search for a byte that answers yes.
use Rattle.std.proofs.{Common.{◌≡◌, ℕ, ◌<◌, ◌≤◌, ◌-◌, Bool, true, false, ◌&&◌, nat_lt, List, ◌∙◌, ap, arith}, Math.Bool.{and-false}, lemmas.Bool.{cases_lt}, lemmas.Grind.{common_steps}}
use Rattle.pmf_event.specs.{declared.event.Event.{Event}, Store.{last_store}, Exclusion.{is_included}, Persist.{is_checked}, Transactions.{is_scoped}}
use Rattle.pmf_image.{specs.declared.certificate.Certificate.{Certificate}, specs.declared.questions.Question.{Question}, specs.declared.questions.Question.TheVariants.{ScopeFallsShort}, specs.Certificate.{shows_in}, specs.Borders.{Alike}, specs.Questions.{is_asked, compares, answer_of}, proofs.BorderLemmas.{answer-alike}}

-- no byte from first on and below end passes the test
pub record NoByte (test : ℕ → Bool) (first end : ℕ) : Type 0 where
  pub from : first ≤ end
  pub none : (b : ℕ) → first ≤ b → b < end → test b ≡ false

-- ---- the answer for one byte

pub not_asked : (q : Question) (es : List Event) (p b : ℕ) → is_included es p b ≡ false → is_asked q es p b ≡ false
unfolding is_asked is_checked is_included
not_asked q es p b out = grind (arith, common_steps, and-false)

and-true_right : (u v : Bool) → v ≡ true → (u && v) ≡ u
and-true_right u v is = grind (arith, common_steps)

pub asked-scoped : (q : Question) (es : List Event) (p b : ℕ) → q ≡ ScopeFallsShort → is_included es p b ≡ true → is_asked q es p b ≡ is_scoped es (p - 1) b
unfolding is_asked
asked-scoped q es p b is included = ap (λ k. is_asked k es p b) is ∙ and-true_right (is_scoped es (p - 1) b) (is_included es p b) included

pub asked-checked : (q : Question) (es : List Event) (p b : ℕ) → (q ≡ ScopeFallsShort → ⊥) → is_included es p b ≡ true → is_asked q es p b ≡ nat_lt 0 (last_store es p b)
unfolding is_asked is_checked is_included
asked-checked q es p b other included = grind (arith, common_steps)

pub answer-none : (q : Question) (es : List Event) (p : ℕ) (c : Certificate) (b : ℕ) → is_asked q es p b ≡ false → answer_of q es p c b ≡ false
unfolding answer_of
answer-none q es p c b none = ap (λ v. v && compares q (shows_in es c b) (last_store es p b)) none

pub answer-asked : (q : Question) (es : List Event) (p : ℕ) (c : Certificate) (b : ℕ) → is_asked q es p b ≡ true →
    answer_of q es p c b ≡ compares q (shows_in es c b) (last_store es p b)
unfolding answer_of
answer-asked q es p c b asked = ap (λ v. v && compares q (shows_in es c b) (last_store es p b)) asked

-- ---- the search

-- where one byte of a stretch answers no, all do
pub no_byte-stretch : (q : Question) (es : List Event) (p : ℕ) (c : Certificate) (first b end : ℕ) → NoByte (answer_of q es p c) first b →
    answer_of q es p c b ≡ false → b < end → ((x : ℕ) → b ≤ x → x < end → Alike es c b x) → NoByte (answer_of q es p c) first end
no_byte-stretch q es p c first b end before other above alike = grind (arith, common_steps, cases_lt, answer-alike)

pub ruleset asking = (not_asked, asked-scoped, asked-checked)

pub ruleset passing = (answer-none, answer-asked)
