use Rattle.std.proofs.Common.{sym, ◌∙◌, ap, subst}
use Rattle.pmf_verdict.{specs.Checked.{Checked, rows_in}, specs.Explained.{FailuresAreReal}, specs.Kept.{IsTold}, specs.Sound.{PersistsHold, OrdersHold, ScopesHold}, specs.Exact.{IsExact, SameLinesAreOneStore}, proofs.HoldingLemmas.{rows_exact, same_lines}, proofs.FitLemmas.{failures_real}, proofs.KeptLemmas.{rows_told}, proofs.SoundLemmas.{passes_hold, orders_hold, scopes_hold}}
use Rattle.pmf_verdict.proofs.verdict.Verdict.rows.Goals as goal

pub returns : goal.returns
returns c =
    let es = c.args.self.now.section.events in
    let profile = c.args.self.now.profile in
    let is = c.as_slice.ensures ∙ c.self.invariant ∙ ap (λ (v : Checked). rows_in v) c.self.view_is in
    record {
      value = is;
      sound = subst (λ rows. PersistsHold es rows) (sym is) (passes_hold profile es);
      sound_orders = subst (λ rows. OrdersHold es rows) (sym is) (orders_hold profile es);
      sound_scopes = subst (λ rows. ScopesHold es rows) (sym is) (scopes_hold profile es);
      real = subst (λ rows. FailuresAreReal es rows) (sym is) (failures_real profile es);
      exact = subst (λ rows. IsExact profile es rows) (sym is) (rows_exact profile es);
      same_lines = subst (λ rows. SameLinesAreOneStore profile es rows) (sym is) (same_lines profile es);
      told = subst (λ rows. IsTold es rows) (sym is) (rows_told profile es);
    }
