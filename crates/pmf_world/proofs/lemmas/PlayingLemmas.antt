-- A schedule played step by step.
use Rattle.std.proofs.{Common.{◌≡◌, ◌≢◌, ℕ, ◌+◌, ◌<◌, List, [], ◌∷◌, ◌++◌, length, take, get_or, reverse, refl, sym, subst, append_assoc, arith, Result, Ok, Err, OnOk, append-nil, length-take-le}, lemmas.List.{length-reverse, reverse-append, take_more}, lemmas.Grind.{common_steps}}
use Rattle.pmf_world.specs.{declared.step.WorldAnswer.{WorldAnswer}, declared.step.WorldFault.{WorldFault}, declared.step.WorldStep.{WorldStep}, Steps.{WorldState, stepped, after}, Worlds.{WorldValue, Steps, Refuses}, Lines.{outcome_of, text_of_step, text_of_steps}, Playing.{PlaysStep, PlaysAll}}
use Rattle.pmf_world.specs.declared.step.WorldFault.TheVariants as fault

module _ (old new : WorldValue) (text grown : List ℕ) (number : ℕ) (step : WorldStep) where
  pub played-ok : (told : WorldAnswer) → Steps old step told new → grown ≡ text ++ text_of_step number (Ok told) → PlaysStep old text number step new grown
  unfolding after
  played-ok told steps is = grind (arith, common_steps)

  pub played-err : (f : WorldFault) → f ≢ fault.OutOfMemory → Refuses old step f → new ≡ old → grown ≡ text ++ text_of_step number (Err f) → PlaysStep old text number step new grown
  unfolding after
  played-err f other refuses same is = grind (arith, common_steps)

text-none : (first : WorldState) (before : List WorldStep) → text_of_steps first before [] ≡ []
unfolding text_of_steps
text-none first before = refl

text-next : (first : WorldState) (before : List WorldStep) (next : WorldStep) (rest : List WorldStep) →
    text_of_steps first before (next ∷ rest) ≡ text_of_step (length before + 1) (outcome_of (stepped (after first before) next)) ++ text_of_steps first (next ∷ before) rest
unfolding text_of_steps
text-next first before next rest = refl

-- the text line of a step, where these came before
abbrev line_of : WorldState → List WorldStep → WorldStep → List ℕ
line_of first before step = text_of_step (length before + 1) (outcome_of (stepped (after first before) step))

-- the text of one step more
text-more : (first : WorldState) (before done : List WorldStep) (step : WorldStep) →
    text_of_steps first before (done ++ step ∷ []) ≡ text_of_steps first before done ++ line_of first (reverse done ++ before) step
text-more first before [] step = grind (arith, common_steps, text-next, text-none, append-nil)
text-more first before (d ∷ ds) step = grind (arith, common_steps, text-next, reverse-append, append_assoc, text-more first (d ∷ before) ds step)

pub PlaysAll-start : (world : WorldValue) → PlaysAll world [] world []
unfolding after
PlaysAll-start world = grind (arith, common_steps, text-none)

PlaysAll-more : (old mid new : WorldValue) (done : List WorldStep) (step : WorldStep) (number : ℕ) (text grown : List ℕ) → number ≡ length done + 1 →
    PlaysAll old done mid text → PlaysStep mid text number step new grown → PlaysAll old (done ++ step ∷ []) new grown
PlaysAll-more old mid new done step number text grown counts all one = grind (arith, common_steps, length-reverse, append-nil, text-more, reverse-append)

-- the step that stands here was played behind those before it
pub PlaysAll-at : (old mid new : WorldValue) (steps : List WorldStep) (k : ℕ) (d : WorldStep) (text grown : List ℕ) → k < length steps →
    PlaysAll old (take k steps) mid text → PlaysStep mid text (k + 1) (get_or steps k d) new grown → PlaysAll old (take (k + 1) steps) new grown
PlaysAll-at old mid new steps k d text grown within all one =
    let long = length-take-le k steps (omega (arith, within)) in
    let counts : k + 1 ≡ length (take k steps) + 1 = omega (arith, long) in
    subst (λ ss. PlaysAll old ss new grown) (sym (take_more steps k d within))
    (PlaysAll-more old mid new (take k steps) (get_or steps k d) (k + 1) text grown counts all one)

-- what holds where all went well
pub on-ok : {T E P Q : Type 0} (r : Result T E) → (P → Q) → OnOk r P → OnOk r Q
on-ok r f p = grind (arith, common_steps)
