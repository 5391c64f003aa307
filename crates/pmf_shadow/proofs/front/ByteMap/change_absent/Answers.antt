use Rattle.std.proofs.Common.{◌+◌, ◌*◌}
use Rattle.pmf_shadow.proofs.FrontLemmas.{on_ok, on_err, kept_changed, keeps_both}
use Rattle.pmf_shadow.proofs.front.ByteMap.change_absent.Goals as goal

pub returns-in-None-clause-ok : goal.returns-in-None-clause-ok
returns-in-None-clause-ok g c =
    on_ok c.change_line_behind.result (kept_changed c.args.self.now c.to_take.new.self _ (64 * c.args.line + 8 * c.args.from) (64 * c.args.line + 8 * c.args.upto) (g.C.Change.changed c.args.change.now) c.to_take.ensures.same) c.change_line_behind.ensures.ok

pub returns-in-None-clause-unchanged : goal.returns-in-None-clause-unchanged
returns-in-None-clause-unchanged g c = on_err c.change_line_behind.result (keeps_both c.args.self.now c.to_take.new.self _ c.to_take.ensures.same) c.change_line_behind.ensures.unchanged

pub returns-in-Some-clause-ok : goal.returns-in-Some-clause-ok
returns-in-Some-clause-ok g c =
    on_ok c.take_changed.result (kept_changed c.args.self.now c.to_take.new.self _ (64 * c.args.line + 8 * c.args.from) (64 * c.args.line + 8 * c.args.upto) (g.C.Change.changed c.args.change.now) c.to_take.ensures.same) c.take_changed.ensures.ok

pub returns-in-Some-clause-unchanged : goal.returns-in-Some-clause-unchanged
returns-in-Some-clause-unchanged g c = on_err c.take_changed.result (keeps_both c.args.self.now c.to_take.new.self _ c.to_take.ensures.same) c.take_changed.ensures.unchanged
