use Rattle.std.proofs.Common.{map, subst, IsPermutation, MatchOption}
use Rattle.pmf_ledger.{specs.Repeats.{AreOwn, IsLeastTwiceIn, names_of}, proofs.lemmas.RepeatLemmas.{names-values, repeats-permuted}}
use Rattle.pmf_ledger.proofs.repeats.least_repeat.Goals as goal

pub returns : goal.returns
returns c =
    let sections = c.args.sections.now in let given = names_of (map (λ s. s.value) sections) in let sorted = c.sorted-names.result.items in let moved : IsPermutation given sorted =
    subst (λ ns. IsPermutation ns sorted) (names-values (λ s. s.value) sections) (subst (λ ns. IsPermutation ns sorted) c.in_ok-names_of.ensures c.sorted-names.ensures.same) in
    repeats-permuted given sorted moved c.repeated.result (subst (λ ns. MatchOption c.repeated.result (AreOwn ns) (IsLeastTwiceIn ns)) c.as_slice.ensures.value c.repeated.ensures)
