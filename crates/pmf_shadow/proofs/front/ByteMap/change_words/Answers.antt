use Rattle.std.proofs.Common.{◌/◌, ◌∙◌, arith}
use Rattle.pmf_shadow.proofs.FrontLemmas.{changes_none, one_line, there_kept}
use Rattle.pmf_shadow.proofs.front.ByteMap.change_words.Goals as goal

pub loop-at-init : goal.loop-at-init
loop-at-init g c =
    let some = c.requires.words.some in
    record {
      from = omega arith;
      upto = omega arith;
      word = c.requires.words.begins;
      there = c.requires.there;
      changes = changes_none c.args.self.now c.args.first c.args.first (g.C.Change.changed c.args.change.now) (omega arith);
    }

pub loop-at-preserved : goal.loop-at-preserved
loop-at-preserved g c =
    let is = c.min-stop.ensures in
    let test = c.loop-at-test.true in
    let from = c.loop-at.invariant.from in
    let word = c.loop-at.invariant.word in
    let ends = c.requires.words.ends in
    record {
      from = grind arith;
      upto = grind arith;
      word = grind arith;
      there = there_kept c.loop-at.self c.change_on.new.self _ _ c.change_on.ensures.front c.loop-at.invariant.there;
      changes = one_line c.args.self.now c.loop-at.self c.change_on.new.self c.args.first c.loop-at.at c.min-stop.result c.args.end (g.C.Change.changed c.args.change.now) from (grind arith) word (grind arith)
          c.loop-at.invariant.changes (c.change_on.ensures.changes (c.change_on.ensures.there ∙ (c.loop-at.invariant.there.each (c.loop-at.at / 64) (omega arith) (omega arith))));
    }
