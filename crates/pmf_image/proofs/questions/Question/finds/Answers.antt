use Rattle.std.proofs.Common.{sym, ◌∙◌}
use Rattle.pmf_image.proofs.ByteSearchLemmas.{no_byte-stretch}
use Rattle.pmf_image.proofs.questions.Question.finds.Goals as goal

pub loop-byte-preserved : goal.loop-byte-preserved
loop-byte-preserved c =
    let alike = c.end_of_stretch-byte.ensures in
    no_byte-stretch c.args.self c.args.events.now c.args.place c.args.certificate c.args.first c.loop-byte.byte c.end_of_stretch-byte.result c.loop-byte.invariant
    (sym c.passes.ensures ∙ c.if-passes.false) alike.above alike.alike
