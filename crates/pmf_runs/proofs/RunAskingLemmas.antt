-- What a map of runs answers about a range, by its root.
use Rattle.std.proofs.Common.{arith, ◌≡◌, ℕ, Bool, refl, Option, None, Some}
use Rattle.pmf_runs.{specs.declared.flagged.Flagged.{Flagged}, specs.declared.group.Group.{Group}, specs.declared.level.Level.{Level}, specs.declared.runs.RunMap.{RunMap}, specs.declared.state.State.{Ghosts}, specs.Runs.{root_state, state_at, passing, keyed}, proofs.RunLemmas.{gap-is, root-is}, proofs.AskingLemmas.{Question}}

pub passing-is : {S M : Type 0} {laws : Ghosts S M} (passes : S → Bool) (runs : RunMap S M laws) (b : ℕ) → passing passes runs b ≡ passes (state_at runs b)
unfolding passing
passing-is passes runs b = refl

pub keyed-is : {S M : Type 0} {laws : Ghosts S M} (key : S → Option ℕ) (runs : RunMap S M laws) (b : ℕ) → keyed key runs b ≡ key (state_at runs b)
unfolding keyed
keyed-is key runs b = refl

-- without a root each number has the gap's state
pub gap-asked : {V A X : Type 0} {ask : (ℕ → V) → ℕ → ℕ → A} {join : X → A → X} (law : Question ask join) {S M : Type 0} {laws : Ghosts S M} (value : S → V) (asked : ℕ → V) (runs : RunMap S M laws) (v : V) (first n : ℕ) →
    ((b : ℕ) → asked b ≡ value (state_at runs b)) → v ≡ value runs.gap → runs.root ≡ None → ask (λ b. v) first n ≡ ask asked first n
gap-asked law value asked runs v first n is at none = grind (arith, gap-is)

pub root-asked : {V A X : Type 0} {ask : (ℕ → V) → ℕ → ℕ → A} {join : X → A → X} (law : Question ask join) {S M : Type 0} {laws : Ghosts S M} (value : S → V) (asked : ℕ → V) (runs : RunMap S M laws) (root : Level (Flagged (Group S M laws))) (first n : ℕ) →
    ((b : ℕ) → asked b ≡ value (state_at runs b)) → runs.root ≡ Some root → ask (λ b. value (root_state root runs.gap b)) first n ≡ ask asked first n
root-asked law value asked runs root first n is some = grind (arith, root-is)
