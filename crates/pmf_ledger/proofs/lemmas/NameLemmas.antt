-- The order of names is one, and a section that is put where its name belongs leaves the names rising.
use Rattle.std.{proofs.Common.{◌≡◌, ℕ, ◌-◌, ◌<◌, ◌≤◌, List, length, arith, get_or, ◌⊎◌, AllPairs, insert, Ordering, Less, Equal, Greater, rules}, specs.Ordering.{nat_cmp, ordering_then}, proofs.lemmas.List.Edits.{length-insert, get_or-insert_below, get_or-insert_at, get_or-insert_above}, proofs.lemmas.Grind.{common_steps}}
use Rattle.pmf_event.specs.declared.name.Name.{Name}
use Rattle.pmf_ledger.specs.Names.{IsBefore}

pub before-trans : (a b c : Name) → IsBefore a b → IsBefore b c → IsBefore a c
before-trans a b c first then = grind (arith, common_steps)

pub before-itself : (a : Name) → IsBefore a a → ⊥
before-itself a before = grind (arith, common_steps)

module _ {X : Type 0} (xs : List X) (k : ℕ) (y d : X) (within : k ≤ length xs) where
  -- behind the place each element stands one later
  behind_place : (i : ℕ) → k < i → get_or (insert xs k y) i d ≡ get_or xs (i - 1) d
  behind_place i far = grind (arith, common_steps, get_or-insert_above)

-- an element that is put where those before it come before it, and those behind it after it
pub AllPairs-insert : {X : Type 0} (R : X → X → Type 0) (xs : List X) (k : ℕ) (y : X) → k ≤ length xs → AllPairs R xs →
    ((i : ℕ) (d : X) → i < k → R (get_or xs i d) y) → ((i : ℕ) (d : X) → k ≤ i → i < length xs → R y (get_or xs i d)) → AllPairs R (insert xs k y)
AllPairs-insert R xs k y within pairs before behind = search (rules, length-insert, get_or-insert_below, get_or-insert_at, behind_place)

-- a name that was not found to come before another doesn't
pub before-unless_less : (a b : Name) (found : Ordering) → (found ≡ Less → ⊥) → (found ≡ Equal → a ≡ b) → (found ≡ Greater → IsBefore b a) → IsBefore a b → ⊥
before-unless_less a b found other equal greater before = grind (arith, common_steps, before-itself, before-trans)

named : ℕ → ℕ → Name
named run number = record { run = run; number = number }

-- of two names one comes before the other, or they are the same
pub before-total : (a b : Name) → IsBefore a b ⊎ ((a ≡ b) ⊎ IsBefore b a)
unfolding named
before-total a b = grind (arith, common_steps)

-- the order of names is the one by which std compares them
abbrev pub compared : Name → Name → Ordering
compared a b = ordering_then (nat_cmp a.run b.run) (nat_cmp a.number b.number)

pub compares-before : (a b : Name) → IsBefore a b → compared a b ≡ Less
compares-before a b before = grind (arith, common_steps)

-- and what it answers tells which comes before
abbrev pub Tells : Name → Name → Ordering → Type 0
Tells a b Less = IsBefore a b
Tells a b Equal = a ≡ b
Tells a b Greater = IsBefore b a

pub compares_tells : (a b : Name) → Tells a b (compared a b)
compares_tells a b = grind (arith, common_steps, before-total, compares-before)
