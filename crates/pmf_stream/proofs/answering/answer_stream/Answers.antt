use Rattle.pmf_stream.{specs.Asked.{IsAnswerOf, IsRefusalOf}, proofs.lemmas.AnsweringLemmas.{Answers-written}}
use Rattle.pmf_stream.proofs.answering.answer_stream.Goals as goal

pub returns-clause-answer : goal.returns-clause-answer
returns-clause-answer g c =
    let left = g.R.Source.left c.args.reader.now in
    let rest = g.R.Source.left c.read_all.new.reader in
    let asked = c.args.query.now in
    Answers-written (IsAnswerOf (g.Q.Query.IsAnswer asked) left rest) (IsRefusalOf (g.Q.Query.IsRefusal asked) left rest) _ _ c.in-Ok-answer.answer.told c.in-Ok-answer.answer.text.items c.write_answer.result
    (c.in-Ok.log.items, c.in-Ok.ensures.ok, rw c.deref.ensures.value at c.in-Ok-answer.ensures)
    (rw c.deref-2.ensures.value at c.write_answer.ensures.written)
