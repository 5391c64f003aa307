use Rattle.std.proofs.Common.{◌≡◌, ◌++◌, List, take, flat_map}
use Rattle.pmf_request.specs.declared.settings.Reasons.{Reasons}
use Rattle.pmf_verdict.specs.Checked.{rows_in}
use Rattle.pmf_why.specs.{Reasons.{Bad, asked_row}, Rows.{part_of}, Telling.{Grows, HasRows}}
use Rattle.pmf_why.proofs.taking.Telling.take_rows.Given as goal

abbrev pub invariant-loop-index : goal.invariant-loop-index
invariant-loop-index l = record {
  grows : Grows l.initial.self.told.items l.self.told.items;
  counts : l.self.counts.items ≡ l.initial.self.counts.items;
  rows : (asked : Reasons) (before : List Bad) → HasRows asked before l.initial.self →
      HasRows asked (before ++ flat_map (asked_row asked (part_of l.taken)) (take l.index-counter (rows_in l.taken.verdict.now))) l.self;
}
