use Rattle.std.proofs.Common.{◌+◌, ◌*◌, ◌-◌, ◌/◌, ◌%◌, arith, refl}
use Rattle.pmf_shadow.proofs.{FrontLemmas.{changes_none, kept_changed, keeps_both, on_ok, on_err}, WalkLemmas.{on_one_line}}
use Rattle.pmf_shadow.proofs.front.ByteMap.change.Goals as goal

pub returns-then-end-first-clause-ok : goal.returns-then-end-first-clause-ok
returns-then-end-first-clause-ok g c = changes_none c.args.self.now c.args.first c.args.end (g.C.Change.changed c.args.change.now) (omega (arith, c.if-end-first.true))

pub returns-clause-ok : goal.returns-clause-ok
returns-clause-ok g c =
    let from = 64 * (c.args.first / 64) + 8 * (c.args.first % 64 / 8) in
    let upto = 64 * (c.args.first / 64) + 8 * (c.args.first % 64 / 8 + (c.args.end - c.args.first) / 8) in
    on_ok c.change_absent.result
    (λ changes. on_one_line c.args.self.now _ c.args.first c.args.end (g.C.Change.changed c.args.change.now) (c.are_words.ensures (c.if-not-are_words.false))
    (kept_changed c.args.self.now c.change_on.new.self _ from upto (g.C.Change.changed c.args.change.now) (c.if-change_on.ensures.unchanged refl) changes))
    c.change_absent.ensures.ok

pub returns-clause-unchanged : goal.returns-clause-unchanged
returns-clause-unchanged g c = on_err c.change_absent.result (keeps_both c.args.self.now c.change_on.new.self _ (c.if-change_on.ensures.unchanged refl)) c.change_absent.ensures.unchanged
