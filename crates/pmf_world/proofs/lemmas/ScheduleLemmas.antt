-- A schedule read text line by text line.
use Rattle.std.{proofs.Common.{◌≡◌, ℕ, suc, ◌+◌, ◌<◌, ◌≤◌, List, [], ◌∷◌, ◌++◌, length, take, drop, get_or, Some, None, refl, sym, ◌∙◌, ap, append_assoc, arith, Result, Ok, Err, append-nil, take-append-drop}, specs.List.{slice_split}, proofs.lemmas.List.{length_push, take_all, take_more}, proofs.lemmas.Grind.{common_steps}}
use Rattle.pmf_world.specs.{declared.step.WorldStep.{WorldStep}, Schedule.{TellsSome, is_line_end, step_of_line, line_before, steps_of_lines, schedule_of}}

-- these steps in front of what the rest tells
abbrev pub steps_then : List WorldStep → Result (List WorldStep) ℕ → Result (List WorldStep) ℕ
steps_then before (Ok steps) = Ok (before ++ steps)
steps_then before (Err n) = Err n

steps_then-none : (told : Result (List WorldStep) ℕ) → steps_then [] told ≡ told
steps_then-none told = grind (arith, common_steps)

-- an empty text line, and one that tells a step
empty-then : (n : ℕ) (text : List ℕ) (told : Result (List WorldStep) ℕ) → length text ≡ 0 → told ≡ line_before n text told
empty-then n text told none = grind (arith, common_steps)

step-then : (n : ℕ) (text : List ℕ) (told : Result (List WorldStep) ℕ) (steps : List WorldStep) (step : WorldStep) →
    0 < length text → step_of_line text ≡ Some step → steps_then (steps ++ step ∷ []) told ≡ steps_then steps (line_before n text told)
step-then n text told steps step some tells = grind (arith, common_steps, append_assoc)

-- the first k of these text lines tell these steps, whatever follows them; the next one has number n
unfoldable pub Leads : List (List ℕ) → ℕ → ℕ → List WorldStep → Type 0
Leads texts k n steps = (rest : List (List ℕ)) → steps_then steps (steps_of_lines n rest) ≡ steps_of_lines 1 (take k texts ++ rest)

-- k of these text lines were read, and told these steps; the next one has number n
pub record IsAt (texts : List (List ℕ)) (k n : ℕ) (steps : List WorldStep) : Type 0 where
  pub number : n ≡ k + 1
  pub leads : Leads texts k n steps

pub IsAt_start : (texts : List (List ℕ)) → IsAt texts 0 1 []
unfolding Leads
IsAt_start texts = record { number = refl; leads = λ rest. steps_then-none (steps_of_lines 1 rest) }

module _ (texts : List (List ℕ)) (k n : ℕ) (steps : List WorldStep) (here : IsAt texts k n steps) where
  -- the text lines that were read tell these steps
  pub front : steps_of_lines 1 (take k texts) ≡ Ok steps
  unfolding steps_of_lines Leads
  front = ap (steps_of_lines 1) (sym (append-nil (take k texts))) ∙ sym (here.leads []) ∙ ap (λ ss. Ok ss) (append-nil steps)

  pub at_end : length texts ≤ k → steps_of_lines 1 texts ≡ Ok steps
  at_end past = ap (steps_of_lines 1) (sym (take_all k texts past)) ∙ front

  module _ (text : List ℕ) (within : k < length texts) (is : text ≡ get_or texts k text) where
    one_more : (rest : List (List ℕ)) → take k texts ++ text ∷ rest ≡ take (k + 1) texts ++ rest
    one_more rest =
        sym (append_assoc (take k texts) (text ∷ []) rest) ∙ ap (λ front. front ++ rest) (ap (λ t. take k texts ++ t ∷ []) is ∙ sym (take_more texts k text within))

    more : (rest : List (List ℕ)) → steps_then steps (line_before n text (steps_of_lines (n + 1) rest)) ≡ steps_of_lines 1 (take (k + 1) texts ++ rest)
    unfolding steps_of_lines Leads
    more rest = let one : n + 1 ≡ suc n = omega arith in rw one (here.leads (text ∷ rest) ∙ ap (steps_of_lines 1) (one_more rest))

    pub at_empty : length text ≡ 0 → IsAt texts (k + 1) (n + 1) steps
    unfolding Leads
    at_empty none = record {
      number = let so = here.number in omega (arith, so);
      leads = λ rest. ap (steps_then steps) (empty-then n text (steps_of_lines (n + 1) rest) none) ∙ more rest;
    }

    module _ (some : 0 < length text) where
      pub at_step : (step : WorldStep) → step_of_line text ≡ Some step → IsAt texts (k + 1) (n + 1) (steps ++ step ∷ [])
      unfolding Leads
      at_step step tells = record {
        number = let so = here.number in omega (arith, so);
        leads = λ rest. step-then n text (steps_of_lines (n + 1) rest) steps step some tells ∙ more rest;
      }

      pub at_bad : step_of_line text ≡ None → steps_of_lines 1 texts ≡ Err n
      at_bad tells =
          let rest = drop (k + 1) texts in
          let all : take (k + 1) texts ++ rest ≡ texts = take-append-drop (k + 1) texts in
          ap (steps_of_lines 1) (sym all) ∙ sym (more rest) ∙ grind (arith, common_steps)

pub told : (text : List ℕ) → schedule_of text ≡ steps_of_lines 1 (slice_split is_line_end text)
unfolding schedule_of
told text = refl

-- memory is wanted where a step was told
module _ (schedule : List ℕ) (k n : ℕ) (steps : List WorldStep) (here : IsAt (slice_split is_line_end schedule) k n steps) (text : List ℕ) where
  pub tells_some : k < length (slice_split is_line_end schedule) → text ≡ get_or (slice_split is_line_end schedule) k text → 0 < length text →
      (step : WorldStep) → step_of_line text ≡ Some step → TellsSome schedule
  tells_some within is some step tells =
      let texts = slice_split is_line_end schedule in let new = steps ++ step ∷ [] in let long = length_push steps step in
      (k + 1, new, omega (arith, long), front texts (k + 1) (n + 1) new (at_step texts k n steps here text within is some step tells))
