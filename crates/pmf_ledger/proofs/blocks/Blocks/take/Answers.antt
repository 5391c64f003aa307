use Rattle.std.proofs.Common.{Err, refl, ap}
use Rattle.pmf_ledger.proofs.lemmas.ReadingLemmas.{HasRead-taken, first_other, taken_stage}
use Rattle.pmf_ledger.proofs.blocks.Blocks.take.Goals as goal

pub returns-in-Ok-clause-reaches : goal.returns-in-Ok-clause-reaches
returns-in-Ok-clause-reaches c = λ r read. (HasRead-taken r c.args.self.now read c.args.verdict.section _ (c.in-Ok.ensures.taken r.profile r.blocks read.pile) refl, taken_stage r c.args.verdict.section)

pub returns-in-Err-Conflict-clause-reaches : goal.returns-in-Err-Conflict-clause-reaches
returns-in-Err-Conflict-clause-reaches c = λ r read of_text.
    first_other r c.args.self.now read c.args.verdict.section c.name-name.result c.name-name.ensures ((c.in-Err-Conflict.ensures.conflict r.profile r.blocks read.pile).0 (ap (λ fault. Err fault) c.in-Err-Conflict.field-0-is))

pub returns-in-Err-OutOfMemory-clause-memory : goal.returns-in-Err-OutOfMemory-clause-memory
returns-in-Err-OutOfMemory-clause-memory c = λ r read wants other.
    let bad = (c.in-Err-OutOfMemory.ensures.conflict r.profile r.blocks read.pile).1 other in
    let is = c.in-Err-OutOfMemory.field-0-is in cc
