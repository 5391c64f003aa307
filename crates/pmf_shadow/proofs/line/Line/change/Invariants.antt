use Rattle.std.proofs.Common.{◌<◌, ◌≤◌}
use Rattle.pmf_runs.specs.Ranks.{ChangesItems}
use Rattle.pmf_shadow.proofs.line.Line.change.Given as goal

abbrev pub invariant-loop-word : goal.invariant-loop-word
invariant-loop-word g l = record {
  upto : l.from < l.word → l.word ≤ l.upto;
  changes : ChangesItems l.from l.word (g.C.Change.changed l.change) l.initial.self.words l.self.words;
}
