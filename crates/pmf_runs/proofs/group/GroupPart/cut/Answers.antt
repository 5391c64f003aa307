use Rattle.pmf_runs.{specs.Pages.{pages_state}, proofs.ChangingLemmas.{covers-same}}
use Rattle.pmf_runs.proofs.group.GroupPart.cut.Goals as goal

pub invariant_of-self : goal.invariant_of-self
invariant_of-self g c = record {
  covered = covers-same g.S.State.covers c.args.self.now.summary (pages_state c.args.self.now.level) (pages_state c.begin.new.self) c.args.self.now.covered c.begin.ensures.same;
}
