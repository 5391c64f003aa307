use Rattle.std.proofs.Common.{◌∙◌, refl, arith}
use Rattle.pmf_shadow.proofs.WalkLemmas.{front_none, front_step, front_end}
use Rattle.pmf_shadow.proofs.front.ByteMap.change_front.Goals as goal

pub loop-line-init : goal.loop-line-init
loop-line-init g c =
    let order = c.requires in
    record {
      from = omega arith;
      upto = omega arith;
      front = λ b. refl;
      changes = front_none c.args.self.now c.args.first (g.C.Change.changed c.args.change.now);
    }

pub returns-then-at-end : goal.returns-then-at-end
returns-then-at-end g c =
    let inv = c.loop-line.invariant in
    front_end c.args.self.now c.loop-line.self c.args.first c.loop-line.line c.args.end (g.C.Change.changed c.args.change.now) inv.from inv.upto inv.changes inv.front
    (λ q low high. c.next_front-at.ensures.none q low (omega (arith, c.if-at-end.true)))

pub loop-line-preserved : goal.loop-line-preserved
loop-line-preserved g c =
    let inv = c.loop-line.invariant in
    let from = inv.from in
    let low = c.next_front-at.ensures.from in
    let high = c.next_front-at.ensures.upto in
    record {
      from = omega arith;
      upto = omega (arith, c.if-at-end.false);
      front = λ b. c.change_on.ensures.front b ∙ inv.front b;
      changes = front_step c.args.self.now c.loop-line.self c.change_on.new.self c.args.first c.loop-line.line c.next_front-at.result (g.C.Change.changed c.args.change.now) c.change_on.result from low inv.changes inv.front
          c.next_front-at.ensures.none c.change_on.ensures.there c.change_on.ensures.changes c.change_on.ensures.unchanged;
    }
