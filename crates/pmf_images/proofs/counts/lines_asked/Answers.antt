use Rattle.std.proofs.Common.{arith}
use Rattle.std.proofs.lemmas.List.Sorted.{IsNonDecreasingBy-from_sort}
use Rattle.pmf_images.proofs.CountLemmas.{sorted_lines, all_lines}
use Rattle.pmf_images.proofs.counts.lines_asked.Goals as goal

pub returns-clause-lines : goal.returns-clause-lines
returns-clause-lines c =
    let long = c.loop-one.invariant.long in
    let all = c.loop-one-test.false in
    let few = c.loop-one.auto.one-index-end in
    sorted_lines c.args.asked.now c.loop-one.lines.items _ (omega arith) (λ k d a less. c.loop-one.invariant.each k d a (omega arith)) c.sort_unstable.ensures.permutation
    (IsNonDecreasingBy-from_sort (λ x. x) _ c.sort_unstable.ensures.sorted)

pub returns-clause-all : goal.returns-clause-all
returns-clause-all c =
    let long = c.loop-one.invariant.long in
    let all = c.loop-one-test.false in
    let few = c.loop-one.auto.one-index-end in
    all_lines c.args.asked.now c.loop-one.lines.items _ (omega arith) (λ k d a less. c.loop-one.invariant.each k d a (omega arith)) c.sort_unstable.ensures.permutation
