-- The reports of ledgers, one by one; and how many ledgers there are.
use Rattle.std.proofs.{Common.{◌≡◌, ℕ, suc, ◌+◌, List, [], ◌∷◌, ◌++◌, length, take, slice_get, Some, None, codes, refl, sym, ap, ◌∙◌, append_assoc, arith, decimal, append-nil, length-take-le}, lemmas.List.{take_more}, lemmas.Option.{slice_get_within, slice_get_cases, get_or_from_slice_get}, lemmas.Grind.{common_steps}}
use Rattle.pmf_ledger.specs.{LedgerValue.{LedgerValue}, Report.{report_of}}
use Rattle.pmf_world.specs.{declared.step.WorldStep.{WorldStep}, Steps.{WorldState, stepped, world_of, after}, Lines.{text_of_ledgers}}

-- the text line of ledger k, and its report
abbrev text_of : ℕ → LedgerValue → List ℕ
text_of k ledger = codes "ledger " ++ decimal k ++ codes "\n" ++ report_of ledger.sections

text-none : (k : ℕ) → text_of_ledgers k [] ≡ []
unfolding text_of_ledgers
text-none k = refl

four : (a b c d e : List ℕ) → a ++ b ++ c ++ d ++ e ≡ (a ++ b ++ c ++ d) ++ e
four a b c d e = simp append_assoc refl

text-next : (k : ℕ) (l : LedgerValue) (ls : List LedgerValue) → text_of_ledgers k (l ∷ ls) ≡ text_of k l ++ text_of_ledgers (suc k) ls
unfolding text_of_ledgers
text-next k l ls = four (codes "ledger ") (decimal k) (codes "\n") (report_of l.sections) (text_of_ledgers (suc k) ls)

-- the text of one ledger more
text-more : (k n : ℕ) (ledgers : List LedgerValue) (ledger : LedgerValue) → n ≡ k + length ledgers →
    text_of_ledgers k (ledgers ++ ledger ∷ []) ≡ text_of_ledgers k ledgers ++ text_of_ledgers n (ledger ∷ [])
text-more k n [] ledger is = grind (arith, common_steps, text-none)
text-more k n (l ∷ ls) ledger is = grind (arith, common_steps, text-next, append_assoc, text-more (suc k) n ls ledger (omega (arith, is)))

module _ (front text grown : List ℕ) (k : ℕ) (ledgers : List LedgerValue) (so_far : text ≡ front ++ text_of_ledgers 0 (take k ledgers)) where
  pub ledger-more : (ledger : LedgerValue) → slice_get ledgers k ≡ Some ledger → grown ≡ text ++ text_of_ledgers k (ledger ∷ []) → grown ≡ front ++ text_of_ledgers 0 (take (k + 1) ledgers)
  ledger-more ledger there is =
      let within = slice_get_within ledgers k ledger there in
      let here = get_or_from_slice_get ledgers k ledger ledger there in
      let more = take_more ledgers k ledger within ∙ ap (λ l. take k ledgers ++ l ∷ []) here in
      let long = length-take-le k ledgers (omega (arith, within)) in
      let count : k ≡ 0 + length (take k ledgers) = omega (arith, long) in
      is ∙ ap (λ t. t ++ text_of_ledgers k (ledger ∷ [])) so_far ∙ append_assoc front (text_of_ledgers 0 (take k ledgers)) (text_of_ledgers k (ledger ∷ []))
      ∙ ap (λ t. front ++ t) (sym (ap (text_of_ledgers 0) more ∙ text-more 0 k (take k ledgers) ledger count))

  pub ledger-none : slice_get ledgers k ≡ None → grown ≡ text → grown ≡ front ++ text_of_ledgers 0 (take (k + 1) ledgers)
  ledger-none none is = grind (arith, common_steps, slice_get_cases)

pub ledgers-start : (front : List ℕ) (ledgers : List LedgerValue) → front ≡ front ++ text_of_ledgers 0 (take 0 ledgers)
ledgers-start front ledgers = sym (ap (λ t. front ++ t) (text-none 0) ∙ append-nil front)

stepped-sets : (w : WorldState) (s : WorldStep) → length (world_of w (stepped w s)).sets ≡ length w.sets
stepped-sets w s = grind (arith, common_steps)

-- as many ledgers as at first
pub after-sets : (first : WorldState) (steps : List WorldStep) → length (after first steps).sets ≡ length first.sets
unfolding after
after-sets first [] = refl
after-sets first (s ∷ ss) = stepped-sets (after first ss) s ∙ after-sets first ss
