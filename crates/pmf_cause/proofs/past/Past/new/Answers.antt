use Rattle.pmf_event.specs.{Line.{line_of_byte}, Store.{flushes}, Transactions.{adds}}
use Rattle.pmf_places.proofs.PlaceLemmas.{last_from_none}
use Rattle.pmf_cause.proofs.{StoredLemmas.{no_stores}}
use Rattle.pmf_cause.proofs.past.Past.new.Goals as goal

pub returns-clause-past : goal.returns-clause-past
returns-clause-past c = λ es. record {
  stored = no_stores c.args.watch.stored c.new.result c.new.ensures.states es;
  flushed = λ b has. last_from_none c.new-2.result b (flushes (line_of_byte b)) (c.new-2.ensures.states b) es;
  added = λ b has. last_from_none c.new-3.result b (adds b) (c.new-3.ensures.states b) es;
  marks = c.new-4.ensures es;
}
