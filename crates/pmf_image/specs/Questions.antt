-- What is asked of one byte, in order to say whether a certificate's image contradicts an assertion. Defined
-- here.
use Rattle.std.specs.Prelude.{◌≡◌, ℕ, ◌-◌, ◌<◌, ◌≤◌, Bool, true, not, ◌&&◌, ◌==◌, nat_lt, List}
use Rattle.pmf_event.specs.{declared.event.Event.{Event}, Store.{last_store}, Exclusion.{is_included}, Persist.{is_checked}, Transactions.{is_scoped}}
use Rattle.pmf_image.specs.{declared.certificate.Certificate.{Certificate}, declared.questions.Question.{Question}, declared.questions.Question.TheVariants.{FallsShort, IsShown, IsLost, ScopeFallsShort}, Certificate.{shows_in}}

-- whether byte b is one of those that are asked at p: a checked one, or an included one of the scope just
-- before p
unfoldable pub is_asked : Question → List Event → ℕ → ℕ → Bool
is_asked FallsShort es p b = is_checked es p b
is_asked IsShown es p b = is_checked es p b
is_asked IsLost es p b = is_checked es p b
is_asked ScopeFallsShort es p b = is_scoped es (p - 1) b && is_included es p b

-- whether the answer is yes where the byte shows this place, and its last store is at that
unfoldable pub compares : Question → ℕ → ℕ → Bool
compares FallsShort shown last = nat_lt shown last
compares IsShown shown last = shown == last
compares IsLost shown last = not (shown == last)
compares ScopeFallsShort shown last = nat_lt shown last

-- whether byte b is asked at p, and its answer is yes
unfoldable pub answer_of : Question → List Event → ℕ → Certificate → ℕ → Bool
answer_of q es p c b = is_asked q es p b && compares q (shows_in es c b) (last_store es p b)

-- a byte from first on and below end that passes the test
pub record SomeByte (test : ℕ → Bool) (first end : ℕ) : Type 0 where
  pub byte : ℕ
  pub from : first ≤ byte
  pub before : byte < end
  pub passes : test byte ≡ true
