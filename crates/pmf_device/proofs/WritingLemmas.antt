-- What several writes of one text append together.
use Rattle.std.{proofs.Common.{ℕ, ◌+◌, ◌-◌, List, Option, length, take, drop, ap, subst}, proofs.Math.Seq.{take-add}, proofs.lemmas.List.{take_rest}, proofs.KnownBytes.{Appends-trans}, specs.Io.KnownBytes.{Appends}}

-- the front of a text, and then some of what is left of it, make a longer front
pub appends_more : (a b c : Option (List ℕ)) (text : List ℕ) (written count : ℕ) → Appends a b (take written text)
    → Appends b c (take count (take (length text - written) (drop written text))) → Appends a c (take (written + count) text)
appends_more a b c text written count p q =
    let whole = ap (take count) (take_rest text written) in
    let joined = Appends-trans a b c _ _ p (subst (Appends b c) whole q) in
    rw take-add joined
