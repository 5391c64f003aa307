-- Each arm writes the text of its answer: only the grouping of the pieces differs.
use Rattle.std.proofs.Common.{append_assoc}
use Rattle.pmf_world.specs.Lines.{text_of_answer}
use Rattle.pmf_world.proofs.lines.push_answer.Goals as goal

pub returns-in-Task : goal.returns-in-Task
unfolding text_of_answer
returns-in-Task c = rw c.in-Task.is (simp append_assoc c.write.ensures.bytes)

pub returns-in-Sent : goal.returns-in-Sent
unfolding text_of_answer
returns-in-Sent c = rw c.in-Sent.is c.write-in-Sent.ensures.bytes
