use Rattle.std.proofs.Common.{◌/◌}
use Rattle.pmf_shadow.proofs.{FrontLemmas.{always_err, keeps_both}, WalkLemmas.{both_changed}}
use Rattle.pmf_shadow.proofs.front.ByteMap.change_both.Goals as goal

pub returns-in_err-change_runs-clause-unchanged : goal.returns-in_err-change_runs-clause-unchanged
returns-in_err-change_runs-clause-unchanged g c =
    let ready = c.make_ready.new.self in
    let one = c.spill.new.self in
    let two = c.spill-2.new.self in
    always_err c.from_residual-in_err-change_runs.result
    (keeps_both c.args.self.now two _ (keeps_both c.args.self.now one two (keeps_both c.args.self.now ready one c.make_ready.ensures c.spill.ensures.same) c.spill-2.ensures.same) c.in_err-change_runs.ensures.unchanged)

pub returns-clause-ok : goal.returns-clause-ok
returns-clause-ok g c =
    let ready = c.make_ready.new.self in
    let one = c.spill.new.self in
    let two = c.spill-2.new.self in
    let kept = keeps_both c.args.self.now one two (keeps_both c.args.self.now ready one c.make_ready.ensures c.spill.ensures.same) c.spill-2.ensures.same in
    let low = c.spill-2.ensures.others (c.args.first / 64) c.in_ok-spill.ensures.gone in
    both_changed c.args.self.now two c.change_runs.new.self c.change_front.new.self c.args.first c.args.end (g.C.Change.changed c.args.change.now) c.requires.some kept low c.in_ok-spill-2.ensures.gone
    c.change_runs.ensures.front c.in_ok-change_runs.ensures.ok c.change_front.ensures
