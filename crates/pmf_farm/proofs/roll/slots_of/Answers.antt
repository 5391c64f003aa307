use Rattle.std.proofs.Common.{rules}
use Rattle.pmf_farm.proofs.lemmas.RollLemmas.{slots_more}
use Rattle.pmf_farm.proofs.roll.slots_of.Goals as goal

pub loop-place-preserved : goal.loop-place-preserved
loop-place-preserved c =
    let more = slots_more (λ s. s.value) c.args.profile c.args.sections.now c.loop-place.place c.index-sections-place.result c.loop-place-test.true c.index-sections-place.is in
    let (held, _) = c.loop-place.invariant in
    (search (rules, more, held), search rules)
