use Rattle.std.proofs.Common.{arith}
use Rattle.pmf_image.proofs.ContradictionLemmas.{ordered-not_shown, ordered-from}
use Rattle.pmf_image.proofs.contradicting.ordered_contradicted.Goals as goal

pub returns-then-not-finds : goal.returns-then-not-finds
returns-then-not-finds c =
    ordered-not_shown c.args.events.now c.args.place c.args.certificate c.args.first c.args.second c.finds.result _ _
    c.first.ensures.value c.end-end.ensures.value c.finds.ensures c.if-not-finds.true

pub returns : goal.returns
returns c =
    ordered-from c.args.events.now c.args.place c.args.certificate c.args.first c.args.second c.finds.result c.finds-2.result _ _ _ _ (omega arith)
    c.first.ensures.value c.end-end.ensures.value c.finds.ensures c.if-not-finds.false
    c.first-2.ensures.value c.end-end-2.ensures.value c.finds-2.ensures
