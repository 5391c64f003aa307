-- Texts that are written in two steps.
use Rattle.std.{proofs.Common.{◌≡◌, ℕ, List, ◌++◌, Result, Ok, Err, ap, sym, ◌∙◌, append_assoc}, specs.Result.{OnOk}}

pub told_then : {E : Type 0} (r : Result (Unit {0}) E) (new mid old front behind all : List ℕ) → mid ≡ old ++ front → all ≡ front ++ behind → OnOk r (new ≡ mid ++ behind) → OnOk r (new ≡ old ++ all)
told_then (Ok u) new mid old front behind all first is then = then ∙ ap (λ (bs : List ℕ). bs ++ behind) first ∙ append_assoc old front behind ∙ ap (λ (bs : List ℕ). old ++ bs) (sym is)
told_then (Err e) new mid old front behind all first is then = then
