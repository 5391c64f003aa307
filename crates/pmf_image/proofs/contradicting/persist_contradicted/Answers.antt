use Rattle.std.proofs.Common.{arith}
use Rattle.pmf_image.proofs.ContradictionLemmas.{persist-from}
use Rattle.pmf_image.proofs.contradicting.persist_contradicted.Goals as goal

pub returns : goal.returns
returns c =
    persist-from c.args.events.now c.args.place c.args.certificate c.args.span c.finds.result _ _ (omega arith)
    c.first.ensures.value c.end-end.ensures.value c.finds.ensures
