use Rattle.std.proofs.Common.{sym, subst, None}
use Rattle.pmf_runs.{specs.Pages.{pages_state, pages_joined}, proofs.ChangingLemmas.{covers-same, splits-same}}
use Rattle.pmf_runs.proofs.group.Group.halve.Goals as goal

pub invariant_of-self : goal.invariant_of-self
invariant_of-self g c = record {
  covered = covers-same g.S.State.covers c.args.self.now.summary (pages_state c.args.self.now.level) (pages_state c.halve.new.self) c.args.self.now.covered c.in_err-rest.ensures.unchanged;
}

pub returns-clause-ok : goal.returns-clause-ok
returns-clause-ok g c = (
  splits-same _ (pages_state c.args.self.now.level) (pages_state c.halve.new.self) (pages_state c.in_ok-rest.rest) (pages_state c.around.result.level) c.in_ok-rest.ensures.ok.0 c.around.ensures.same,
  λ joined. let both = c.in_ok-rest.ensures.ok.1 joined in (both.0, subst (λ l. pages_joined l None None) (sym c.around.ensures.level) both.1),
)
