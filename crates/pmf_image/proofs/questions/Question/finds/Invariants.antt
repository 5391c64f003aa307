use Rattle.std.proofs.Common.{◌-◌}
use Rattle.pmf_image.{specs.Questions.{answer_of}, proofs.ByteSearchLemmas.{NoByte}}
use Rattle.pmf_image.proofs.questions.Question.finds.Given as goal

abbrev pub invariant-loop-byte : goal.invariant-loop-byte
invariant-loop-byte l = NoByte (answer_of l.self l.events l.place l.fn.certificate) l.first l.byte

abbrev pub decreases-loop-byte : goal.decreases-loop-byte
decreases-loop-byte l = l.end - l.byte
