use Rattle.std.proofs.{Common.{rules, arith}, lemmas.List.Sorted.{answers_always}}
use Rattle.pmf_ledger.proofs.lemmas.RepeatLemmas.{before-compares}
use Rattle.pmf_ledger.proofs.repeats.sorted.Goals as goal

pub returns-clause-sorted : goal.returns-clause-sorted
returns-clause-sorted c =
    let sorted = c.sort_unstable_by_key.ensures.sorted (λ p. p) (answers_always _ _ _ (λ f a r g h. search rules)) in
    λ k d inside before. before-compares _ _ before (sorted k d (omega arith) inside)
