use Rattle.pmf_image.proofs.ContradictionLemmas.{contradicts-from, contradicts-no_assertion}
use Rattle.pmf_image.proofs.contradicting.contradicts.Goals as goal

pub returns-in-Persist : goal.returns-in-Persist
returns-in-Persist c =
    contradicts-from c.args.events.now c.args.place c.args.certificate _ c.requires.some c.at.ensures.place c.persist_contradicted.result _ c.in-Persist.is
    c.persist_contradicted.ensures

pub returns-in-Ordered : goal.returns-in-Ordered
returns-in-Ordered c =
    contradicts-from c.args.events.now c.args.place c.args.certificate _ c.requires.some c.at.ensures.place c.ordered_contradicted.result _ c.in-Ordered.is
    c.ordered_contradicted.ensures

pub returns-in-CheckEnd : goal.returns-in-CheckEnd
returns-in-CheckEnd c =
    contradicts-from c.args.events.now c.args.place c.args.certificate _ c.requires.some c.at.ensures.place c.scope_contradicted.result _ c.in-CheckEnd.is
    c.scope_contradicted.ensures

pub returns-in_default : goal.returns-in_default
returns-in_default c =
    contradicts-no_assertion c.args.events.now c.args.place c.args.certificate _ c.requires.some c.at.ensures.place
    c.in_default.not-Persist c.in_default.not-Ordered c.in_default.not-CheckEnd
