use Rattle.std.proofs.Common.{arith, ◌∙◌}
use Rattle.pmf_device.proofs.WritingLemmas.{appends_more}
use Rattle.pmf_device.proofs.writing.write_text.Goals as goal

pub loop-written-preserved : goal.loop-written-preserved
loop-written-preserved g c = record {
  within = omega (arith, c.in-Ok.ensures.within);
  appended = appends_more _ _ _ c.args.text.now c.loop-written.written c.in-Ok.count c.loop-written.invariant.appended c.in-Ok.ensures.bytes;
  counted = c.in-Ok.ensures.counted ∙ c.loop-written.invariant.counted;
}
