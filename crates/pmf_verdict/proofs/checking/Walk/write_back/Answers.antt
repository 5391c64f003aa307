use Rattle.std.proofs.Common.{◌≡◌, suc, ◌++◌, map, sym, ◌∙◌, ap, subst, refl, Option}
use Rattle.pmf_event.specs.{declared.finding.Finding.{Finding}, FlushWarnings.{is_pending, lines_where, doubled_finding, if_any, flush_findings}}
use Rattle.pmf_shadow.specs.Shadow.{StandsFor}
use Rattle.pmf_txcheck.specs.{Laws.{is_untracked}, Tracking.{Tracks}}
use Rattle.pmf_verdict.{specs.declared.checking.Walk.{Walk}, specs.Rows.{row_at, rows_upto}, proofs.RowsLemmas.{rows_upto-flush}, proofs.WalkLemmas.{stands-next, tracks-still}}
use Rattle.pmf_verdict.proofs.checking.Walk.write_back.Goals as goal

pub returns-clause-walks : goal.returns-clause-walks
unfolding flush_findings is_untracked
returns-clause-walks c = λ es p walks here place.
    let old = c.args.self.now in
    let one = c.check_flush-found.result.doubled in
    let other = c.check_flush-found.result.needless in
    let first = c.in_ok-push_if_any.ensures in
    let second = c.in_ok-push_if_any-2.ensures in
    let shadow = ap (λ (w : Walk). w.shadow) second ∙ ap (λ (w : Walk). w.shadow) first in
    let transactions = ap (λ (w : Walk). w.transactions) second ∙ ap (λ (w : Walk). w.transactions) first in
    let stands = subst (λ s. StandsFor s (λ k. k) es p) (sym shadow) walks.stands in
    let found : flush_findings es p c.args.span ≡ if_any one ++ if_any other =
    sym (ap (λ (o : Option Finding). if_any o ++ if_any other) (c.check_flush-found.ensures.doubled (λ k. k) es p walks.stands)
    ∙ ap (λ (o : Option Finding). if_any (doubled_finding (lines_where (is_pending es p) c.args.span)) ++ if_any o) (c.check_flush-found.ensures.needless (λ k. k) es p walks.stands)) in
    record {
      stands = stands-next (suc p) _ _ _ (c.in_ok-flush.ensures.follows (suc p)) es p here refl stands;
      tracks = subst (λ t. Tracks t (λ k. k) es (suc p)) (sym transactions) (tracks-still old old es p _ here walks refl);
      rows_are = ap (λ (w : Walk). w.rows) second
          ∙ ap (λ rs. rs ++ map (row_at c.args.place) (if_any other)) (ap (λ (w : Walk). w.rows) first)
          ∙ ap (λ rs. (rs ++ map (row_at c.args.place) (if_any one)) ++ map (row_at c.args.place) (if_any other)) walks.rows_are
          ∙ ap (λ q. (rows_upto old.profile es p ++ map (row_at q) (if_any one)) ++ map (row_at q) (if_any other)) place
          ∙ sym (rows_upto-flush old.profile es p c.args.span one other here found)
          ∙ ap (λ q. rows_upto q es (suc p)) (sym (ap (λ (w : Walk). w.profile) second ∙ ap (λ (w : Walk). w.profile) first));
    }
