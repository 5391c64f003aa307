use Rattle.pmf_lint.proofs.upkeep.Walk.settle.Goals as goal

pub returns : goal.returns
returns c = λ es p walked. record {
  shadow = c.settle.ensures (λ k. k) es p walked.shadow;
  flushed = walked.flushed;
  fences = walked.fences;
  idle = walked.idle;
  overwriting = walked.overwriting;
  empty = walked.empty;
}
