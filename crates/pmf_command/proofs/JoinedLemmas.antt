-- A join of the files with some names, and one of none.
use Rattle.std.proofs.Common.{◌≡◌, ◌⊎◌, ◌<◌, ℕ, List, [], ◌∷◌, ◌++◌, length, map, Bor, Option, arith}
use Rattle.pmf_request.specs.declared.request.Joining.{Joining}
use Rattle.pmf_ledger.specs.declared.form.Form.{Form}
use Rattle.pmf_command.specs.{Answered.{AreEach, IsUnread, JoinsAs, JoinsNamed}, declared.status.{Status.{Status}, Status.TheVariants.{Refused}}}

pub JoinsNamed-none : (by : Joining) (form : Form) (names : List (Bor (List ℕ))) (known : List ℕ → Option (List ℕ)) (held holds : Option (List ℕ)) (status : Status) → length names ≡ 0 → status ≡ Refused →
    JoinsNamed by form (map (λ name. name.now) names) known held holds status
JoinsNamed-none by form [] known held holds status none is = is
JoinsNamed-none by form (name ∷ names) known held holds status none is = absurd (omega (arith, none))

pub JoinsNamed-some : (by : Joining) (form : Form) (names : List (Bor (List ℕ))) (known : List ℕ → Option (List ℕ)) (held holds : Option (List ℕ)) (status : Status) → 0 < length names →
    (IsUnread status ⊎ JoinsAs by form (map (λ name. name.now) names) known held holds status) → JoinsNamed by form (map (λ name. name.now) names) known held holds status
JoinsNamed-some by form [] known held holds status some says = absurd (omega (arith, some))
JoinsNamed-some by form (name ∷ names) known held holds status some says = says

-- one more to one more
pub each-push : {X Y : Type 0} (Is : X → Y → Type 0) (xs : List X) (ys : List Y) (x : X) (y : Y) → AreEach Is xs ys → Is x y → AreEach Is (xs ++ x ∷ []) (ys ++ y ∷ [])
each-push Is [] [] x y are next = (next, tt)
each-push Is (w ∷ xs) (z ∷ ys) x y are next = (are.0, each-push Is xs ys x y are.1 next)
each-push Is [] (z ∷ ys) x y are next = absurd are
each-push Is (w ∷ xs) [] x y are next = absurd are
