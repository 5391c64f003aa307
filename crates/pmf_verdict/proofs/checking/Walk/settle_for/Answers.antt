use Rattle.pmf_verdict.proofs.checking.Walk.settle_for.Goals as goal

pub returns-clause-walks : goal.returns-clause-walks
returns-clause-walks c = λ es p walks. record {
  stands = c.settle_for.ensures (λ k. k) es p walks.stands;
  tracks = walks.tracks;
  rows_are = walks.rows_are;
}
