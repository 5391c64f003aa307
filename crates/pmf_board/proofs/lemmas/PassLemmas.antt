-- What a pass's type keeps, after each step.
use Rattle.std.proofs.{Common.{◌≡◌, ℕ, ◌+◌, ◌-◌, ◌<◌, ◌≤◌, Bool, true, false, ◌&&◌, eqb, ◌⊎◌, inl, inr, [], refl, sym, ap, subst, arith, eqb-true}, lemmas.Bool.{cases_lt}}
use Rattle.pmf_board.{specs.declared.entry.Entry.{Entry}, specs.Views.{task, times, seen, took, marked, kept, both}, specs.Passes.{BoardId, IsSound}, specs.Steps.{Mine}, proofs.lemmas.KeepLemmas.{bit, times-took, times-both}}

-- what the fields of a pass keep
abbrev pub IsInside : ℕ → BoardId → Mine → Type 0
IsInside shares z me = (shares ≡ me.0.shares) × (me.1 ≡ []) × IsSound z me.0

-- a seat's board and what it knows, put for equal ones
pub at-equal : (shares : ℕ) (z z' : BoardId) (me me' : Mine) → z' ≡ z → me' ≡ me → IsInside shares z me → IsInside shares z' me'
at-equal shares z z' me me' p q is = subst (λ (x : BoardId × Mine). IsInside shares x.0 x.1) (λ i. (sym p i, sym q i)) is

pub after-seen : (shares : ℕ) (z : BoardId) (me : Mine) (s : ℕ) (e : Entry) → IsInside shares z me → IsInside shares z (seen me.0 s e, me.1)
after-seen shares z me s e is = (is.0, is.1, record { some = is.2.some; all = is.2.all; within = is.2.within })

pub after-marked : (shares : ℕ) (z : BoardId) (me : Mine) (s h : ℕ) → IsInside shares z me → IsInside shares z (marked me.0 s h, me.1)
after-marked shares z me s h is = (is.0, is.1, record { some = is.2.some; all = is.2.all; within = is.2.within })

pub after-took : (shares : ℕ) (z : BoardId) (me : Mine) (s n : ℕ) → s < z.words → IsInside shares z me → IsInside shares z (took me.0 (task s n), me.1)
after-took shares z me s n there is = (is.0, is.1, record { some = is.2.some; all = is.2.all; within = λ t k held. by t k (eqb s t) refl held })
  where
    by : (t k : ℕ) (b : Bool) → eqb s t ≡ b → 0 < times t k (took me.0 (task s n)) → t < z.words
    by t k true e held = subst (λ (j : ℕ). j < z.words) (eqb-true s t e) there
    by t k false e held = let none = ap (λ b. bit (b && eqb n k)) e in is.2.within t k (omega (arith, held, times-took me.0 s n t k, none))

pub after-split : (shares : ℕ) (z : BoardId) (me : Mine) → 1 < shares → IsInside shares z me → IsInside (shares - 1) z (kept me.0, me.1)
after-split shares z me two is = (ap (λ n. n - 1) is.0, is.1, record { some = omega (arith, two, is.0); all = omega (arith, is.2.all); within = is.2.within })

pub after-join : (a b : ℕ) (z : BoardId) (me me' : Mine) → IsInside a z me → IsInside b z me' → a + b ≤ 65 → IsInside (a + b) z (both me.0 me'.0, me.1)
after-join a b z me me' is is' few = (
  omega (arith, is.0, is'.0),
  is.1,
  record { some = omega (arith, is.2.some); all = omega (arith, is.0, is'.0, few); within = λ s k held. by s k (cases_lt 0 (times s k me.0)) held },
)
  where
    by : (s k : ℕ) → (0 < times s k me.0) ⊎ (times s k me.0 ≤ 0) → 0 < times s k (both me.0 me'.0) → s < z.words
    by s k (inl mine) held = is.2.within s k mine
    by s k (inr none) held = is'.2.within s k (omega (arith, held, none, times-both me.0 me'.0 s k))
