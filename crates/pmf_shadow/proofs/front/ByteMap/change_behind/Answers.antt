use Rattle.std.proofs.Common.{refl, ◌/◌, ◌-◌}
use Rattle.pmf_shadow.proofs.FrontLemmas.{on_ok, on_err, behind_changed, keeps_both, keeps_itself, kept_behind, all_behind}
use Rattle.pmf_shadow.proofs.front.ByteMap.change_behind.Goals as goal

pub returns-then-is_empty-clause-ok : goal.returns-then-is_empty-clause-ok
returns-then-is_empty-clause-ok g c =
    let old = c.args.self.now in
    on_ok c.change.result (behind_changed old old _ c.args.first c.args.end (g.C.Change.changed c.args.change.now) (keeps_itself old) (all_behind old (c.args.first / 64) ((c.args.end - 1) / 64) (c.is_empty.ensures.0 c.if-is_empty.true)) refl) c.change.ensures.ok

pub returns-then-is_empty-clause-unchanged : goal.returns-then-is_empty-clause-unchanged
returns-then-is_empty-clause-unchanged g c = on_err c.change.result (kept_behind c.args.self.now _ refl) c.change.ensures.unchanged

pub returns-clause-ok : goal.returns-clause-ok
returns-clause-ok g c = on_ok c.change-2.result (behind_changed c.args.self.now c.spill_lines.new.self _ c.args.first c.args.end (g.C.Change.changed c.args.change.now) c.in_ok-spill_lines.ensures.same c.in_ok-spill_lines.ensures.behind refl) c.change-2.ensures.ok

pub returns-clause-unchanged : goal.returns-clause-unchanged
returns-clause-unchanged g c = on_err c.change-2.result (λ kept. keeps_both c.args.self.now c.spill_lines.new.self _ c.in_ok-spill_lines.ensures.same (kept_behind c.spill_lines.new.self _ refl kept)) c.change-2.ensures.unchanged
