use Rattle.std.proofs.Common.{refl, ◌+◌, ◌*◌}
use Rattle.pmf_shadow.proofs.{FrontLemmas.{on_ok, on_err, behind_changed, keeps_itself, kept_behind}, WalkLemmas.{line_alone}}
use Rattle.pmf_shadow.proofs.front.ByteMap.change_line_behind.Goals as goal

pub returns-clause-ok : goal.returns-clause-ok
returns-clause-ok g c =
    let old = c.args.self.now in
    let alone = line_alone old c.args.line c.args.from c.args.upto c.requires.order c.requires.upto c.requires.absent in
    on_ok c.change.result (behind_changed old old _ (64 * c.args.line + 8 * c.args.from) (64 * c.args.line + 8 * c.args.upto) (g.C.Change.changed c.args.change.now) (keeps_itself old) alone refl) c.change.ensures.ok

pub returns-clause-unchanged : goal.returns-clause-unchanged
returns-clause-unchanged g c = on_err c.change.result (kept_behind c.args.self.now _ refl) c.change.ensures.unchanged
