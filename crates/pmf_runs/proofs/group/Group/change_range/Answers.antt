use Rattle.std.proofs.Common.{Some}
use Rattle.pmf_runs.{specs.Pages.{pages_state}, proofs.ChangingLemmas.{covers-same, covers-changed}}
use Rattle.pmf_runs.proofs.group.Group.change_range.Goals as goal

pub invariant_of-self : goal.invariant_of-self
invariant_of-self g c = record {
  covered = covers-same g.S.State.covers c.args.self.now.summary (pages_state c.args.self.now.level) (pages_state c.change_range.new.self) c.args.self.now.covered c.in_err-done.ensures.unchanged;
}

pub renewed-summary-requires : goal.renewed-summary-requires
renewed-summary-requires g c =
    covers-changed g.S.State.covers c.args.self.now.summary c.widened.result (Some c.args.first) (Some c.args.end) (g.C.Change.changed c.args.change.now)
    (pages_state c.args.self.now.level) (pages_state c.change_range.new.self) c.args.self.now.covered c.widened.ensures.before c.widened.ensures.after c.in_ok-done.ensures.ok.0
