use Rattle.std.proofs.Common.{None, refl}
use Rattle.pmf_runs.proofs.FlagLemmas.{changes-plain, changes-set}
use Rattle.pmf_runs.proofs.flagged.Flagged.change_whole.Goals as goal

pub returns-in-None-clause-states : goal.returns-in-None-clause-states
returns-in-None-clause-states g c = changes-plain g.S.State.flagged g.P.Part.state c.args.self.now c.give.new.self _ None None (g.C.Change.changed c.args.change.now) c.give.ensures.same c.give.ensures.flag c.give.ensures.flag c.rewrite.ensures.0

pub returns-then-altered-clause-states : goal.returns-then-altered-clause-states
returns-then-altered-clause-states g c = changes-set g.S.State.flagged g.P.Part.state (g.C.Change.changed c.args.change.now) c.args.self.now _ c.in-Some.flag refl refl c.in-Some.ensures g.met.S.State.forgets
