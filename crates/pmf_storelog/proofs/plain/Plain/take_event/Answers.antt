use Rattle.std.proofs.Common.{refl, ap}
use Rattle.pmf_event.specs.Section.{Trace}
use Rattle.pmf_storelog.proofs.AheadLemmas.{plain_event}
use Rattle.pmf_storelog.proofs.plain.Plain.take_event.Goals as goal

pub returns-in-Ok-clause-plain : goal.returns-in-Ok-clause-plain
returns-in-Ok-clause-plain c = λ records text is says same.
    plain_event records c.args.self.now _ is text refl c.args.event says (ap (λ (t : Trace). t.events) c.in-Ok.ensures.ok) refl
