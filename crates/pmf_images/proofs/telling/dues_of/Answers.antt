use Rattle.std.proofs.Common.{arith, rules}
use Rattle.std.proofs.lemmas.List.Sorted.{IsNonDecreasingBy-from_sort_by_key}
use Rattle.pmf_images.specs.declared.telling.Due.{Due}
use Rattle.pmf_images.proofs.TellingLemmas.{due_sorted}
use Rattle.pmf_images.proofs.telling.dues_of.Goals as goal

pub returns : goal.returns
returns c =
    let long = c.loop-index.invariant.long in
    let all = c.loop-index-test.false in
    let few = c.loop-index.auto.index-end in
    due_sorted c.args.places.now c.args.asked.now c.loop-index.dues.items _ (omega arith) (λ k d a less. c.loop-index.invariant.each k d a (omega arith))
    c.sort_unstable_by_key.ensures.permutation
    (IsNonDecreasingBy-from_sort_by_key (λ (d : Due). d.place) _ c.sort_unstable_by_key.ensures.sorted (λ a r q k. search rules))
