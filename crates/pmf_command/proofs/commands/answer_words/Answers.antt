use Rattle.std.proofs.Common.{inl, inr}
use Rattle.pmf_command.proofs.commands.answer_words.Goals as goal

pub returns : goal.returns
returns g c = inr (c.in-Ok.request, c.in-Ok.ensures, rw c.begin_names.ensures.held at c.answer.ensures)

pub returns-in-Err : goal.returns-in-Err
returns-in-Err g c = inl (_, c.in-Err.ensures, c.report_words.ensures)
