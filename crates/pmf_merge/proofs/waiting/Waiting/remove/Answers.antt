use Rattle.std.proofs.Common.{◌∙◌}
use Rattle.pmf_merge.proofs.lemmas.WaitingLemmas.{waits_no_more}
use Rattle.pmf_merge.proofs.waiting.Waiting.remove.Goals as goal

pub returns-in-Some : goal.returns-in-Some
returns-in-Some c = λ names after is at puts. waits_no_more names after c.args.self.now c.args.index is (record { places = c.remove.new.self }) c.in-Some.name (at ∙ c.in-Some.is) puts c.remove.ensures.updates
