use Rattle.std.proofs.Common.{◌∙◌, sym, arith}
use Rattle.pmf_lint.proofs.EndingLemmas.{behind_last, longer_behind, nothing_behind, whole_last}
use Rattle.pmf_lint.proofs.ending.start_of_last.Goals as goal

pub loop-start-init : goal.loop-start-init
loop-start-init c = record { within = omega arith; alone = nothing_behind c.args.log.now }

pub loop-start-preserved : goal.loop-start-preserved
loop-start-preserved c =
    let within = c.loop-start.invariant.within in
    let some = c.loop-start-test.true in record {
      within = omega arith;
      alone = longer_behind c.args.log.now c.loop-start.start some within (sym c.ends_record.ensures ∙ c.if-ends_record.false) c.loop-start.invariant.alone;
    }

pub returns-then-ends_record : goal.returns-then-ends_record
returns-then-ends_record c = record {
  within = c.loop-start.invariant.within;
  there = behind_last c.args.log.now c.loop-start.start c.loop-start-test.true c.loop-start.invariant.within (sym c.ends_record.ensures ∙ c.if-ends_record.true) c.loop-start.invariant.alone;
}

pub returns-clause-there : goal.returns-clause-there
returns-clause-there c = whole_last c.args.log.now c.loop-start.start (omega (arith, c.loop-start-test.false)) c.loop-start.invariant.alone
