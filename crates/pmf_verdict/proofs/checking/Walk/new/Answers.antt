use Rattle.std.proofs.Common.{sym, ◌∙◌}
use Rattle.pmf_verdict.proofs.RowsLemmas.{rows_upto-none}
use Rattle.pmf_verdict.proofs.checking.Walk.new.Goals as goal

pub returns-clause-walks : goal.returns-clause-walks
returns-clause-walks c = λ es. record {
  stands = c.for_walk.ensures (λ k. k) es;
  tracks = c.new.ensures (λ k. k) es;
  rows_are = c.new-2.ensures ∙ sym (rows_upto-none c.args.profile es);
}
