use Rattle.std.proofs.{Common.{◌∙◌, ◌++◌, ◌+◌, refl, sym, ap, subst, arith, List, length, flat_map, take, append-nil}, lemmas.List.{take_all}}
use Rattle.pmf_event.specs.declared.row.Row.{Row}
use Rattle.pmf_verdict.specs.Checked.{rows_in}
use Rattle.pmf_why.{specs.Reasons.{Bad, asked_row, asked_rows}, specs.Rows.{part_of}, specs.Telling.{HasRows}, proofs.GrowLemmas.{grows_none, grows_on}, proofs.MeetLemmas.{row_more}}
use Rattle.pmf_why.proofs.taking.Telling.take_rows.Goals as goal

pub loop-index-init : goal.loop-index-init
loop-index-init c = record {
  grows = grows_none _ _ refl;
  counts = refl;
  rows = λ asked before has. subst (λ (bads : List Bad). HasRows asked bads c.args.self.now) (sym (append-nil before)) has;
}

pub loop-index-preserved : goal.loop-index-preserved
loop-index-preserved c = record {
  grows = grows_on _ _ _ c.loop-index.invariant.grows c.in_ok-meet_row.ensures.grows;
  counts = c.in_ok-meet_row.ensures.counts ∙ c.loop-index.invariant.counts;
  rows = λ asked before has.
      let f = asked_row asked (part_of c.args.taken.now) in
      let are = c.rows-row-items.ensures.value in
      let then = c.in_ok-meet_row.ensures.rows asked _
      (subst (λ (rows : List Row). HasRows asked (before ++ flat_map f (take c.loop-index.index-counter rows)) c.loop-index.self) (sym are) (c.loop-index.invariant.rows asked before has)) in
      subst (λ (rows : List Row). HasRows asked (before ++ flat_map f (take (c.loop-index.index-counter + 1) rows)) c.meet_row.new.self) are
      (subst (λ (bads : List Bad). HasRows asked bads c.meet_row.new.self) (row_more before f c.rows-row-items.result.now c.loop-index.index-counter _ c.loop-index-test.true) then);
}

pub returns-clause-rows : goal.returns-clause-rows
unfolding asked_rows
returns-clause-rows c = λ asked before has.
    let part = part_of c.args.taken.now in
    subst (λ (rows : List Row). HasRows asked (before ++ flat_map (asked_row asked part) rows) c.loop-index.self)
    (take_all c.loop-index.index-counter (rows_in c.args.taken.now.verdict.now) (omega (arith, c.loop-index-test.false, ap length c.rows-row-items.ensures.value))) (c.loop-index.invariant.rows asked before has)
