-- States of a byte that agree in each field are the same: the law of their `==`.
use Rattle.std.{specs.Prelude.{◌≡◌, ℕ, Bool, true, ◌&&◌, ◌==◌}, specs.Cmp.{booleans_Decides}, proofs.Common.{◌∙◌, ap}, proofs.Math.Bool.{beq}, proofs.lemmas.Bool.{and_parts}, proofs.lemmas.Bool.Decides.{Decides-eqb}}
use Rattle.pmf_shadow.specs.declared.byte.ByteState.{ByteState}

-- a state by its fields
abbrev pub state_of : ℕ → ℕ → ℕ → Bool → Bool → Bool → ByteState
state_of last opens written_back is_stored is_written_back out =
    record { last = last; opens = opens; written_back = written_back; is_stored = is_stored; is_written_back = is_written_back; excluded = out }

-- whether two states agree in each field
abbrev pub is_like : ByteState → ByteState → Bool
is_like x y =
    x.last == y.last && (x.opens == y.opens && (x.written_back == y.written_back && (beq x.is_stored y.is_stored && (beq x.is_written_back y.is_written_back && beq x.excluded y.excluded))))

-- equal fields make equal states
pub equal_states : (x y : ByteState) → is_like x y ≡ true → x ≡ y
equal_states x y is =
    let last = and_parts _ _ is in
    let opens = and_parts _ _ last.1 in
    let written_back = and_parts _ _ opens.1 in
    let is_stored = and_parts _ _ written_back.1 in
    let is_written_back = and_parts _ _ is_stored.1 in
    ap (λ v. state_of v x.opens x.written_back x.is_stored x.is_written_back x.excluded) ((Decides-eqb x.last y.last).0 last.0)
    ∙ ap (λ v. state_of y.last v x.written_back x.is_stored x.is_written_back x.excluded) ((Decides-eqb x.opens y.opens).0 opens.0)
    ∙ ap (λ v. state_of y.last y.opens v x.is_stored x.is_written_back x.excluded) ((Decides-eqb x.written_back y.written_back).0 written_back.0)
    ∙ ap (λ v. state_of y.last y.opens y.written_back v x.is_written_back x.excluded) ((booleans_Decides x.is_stored y.is_stored).0 is_stored.0)
    ∙ ap (λ v. state_of y.last y.opens y.written_back y.is_stored v x.excluded) ((booleans_Decides x.is_written_back y.is_written_back).0 is_written_back.0)
    ∙ ap (λ v. state_of y.last y.opens y.written_back y.is_stored y.is_written_back v) ((booleans_Decides x.excluded y.excluded).0 is_written_back.1)
