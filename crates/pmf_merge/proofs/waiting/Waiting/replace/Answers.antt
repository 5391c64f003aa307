use Rattle.pmf_merge.proofs.lemmas.WaitingLemmas.{between_heads, no_head}
use Rattle.pmf_merge.proofs.waiting.Waiting.replace.Goals as goal

pub returns : goal.returns
returns c = λ heads after is at puts.
    let without = no_head heads c.args.index in
    c.put.ensures _ after (c.remove.ensures heads _ is at without) without.0 (between_heads heads c.args.index c.args.new after puts)
