-- What the number of a stream's failed calls says (defined here).
use Rattle.std.specs.Prelude.{◌≡◌, ℕ, ◌+◌, ◌-◌, ◌^◌, ◌<◌, Result, MatchResult}

-- one more failed call can be counted in 64 bits
abbrev pub CanCountOneMore : ℕ → Type 0
CanCountOneMore failures = failures < 2 ^ 64 - 1

-- an Ok leaves the number of failed calls, and an Err raises it by one
abbrev pub CountsFailure : {X E : Type 0} → ℕ → ℕ → Result X E → Type 0
CountsFailure old new result = MatchResult result (λ _. new ≡ old) (λ _. new ≡ old + 1)
