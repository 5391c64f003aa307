use Rattle.std.proofs.{Common.{◌≡◌, [], arith}, lemmas.Grind.{common_steps}}
use Rattle.pmf_storelog.proofs.AheadLemmas.{stretch_reached}
use Rattle.pmf_storelog.proofs.progress.Progress.take_stretch.Goals as goal

pub returns-then-branch-clause-ok : goal.returns-then-branch-clause-ok
returns-then-branch-clause-ok c = λ piece is within.
    let empty : c.args.self.now.carry.items ≡ [] = grind (arith, common_steps) in
    stretch_reached piece c.args.stretch is c.args.self.now _ empty empty c.args.start c.if-stretch-start.false c.in_ok-take_plain.ensures.grows
    (λ run before records taken plain. rw c.if-branch.true at (c.in_ok-take_plain.ensures.ok run before records taken plain))
