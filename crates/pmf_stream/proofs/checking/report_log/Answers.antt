use Rattle.std.proofs.Common.{sym, ap, ◌∙◌}
use Rattle.pmf_ledger.specs.declared.totals.Totals.{Totals}
use Rattle.pmf_ledger.proofs.lemmas.AllKeptLemmas.{no_fail_is_kept, no_empty_is_filled}
use Rattle.pmf_stream.proofs.checking.report_log.Goals as goal

pub returns-clause-reports : goal.returns-clause-reports
returns-clause-reports c =
    let totals = rw c.in-Some.is at c.in_ok-text.ensures.totals in record {
      taken = c.requires.taken;
      ledger = c.args.ledger.now;
      gathered = c.requires.ledger;
      written = rw (c.in-Some.is, c.form_of.ensures) at c.in_ok-text.ensures.written;
      skipped = c.skipped.ensures;
      passes = ap (λ (t : Totals). t.pass) totals;
      fails = ap (λ (t : Totals). t.fail) totals;
      kept = λ none. no_fail_is_kept _ _ c.args.ledger.now c.requires.ledger (sym (ap (λ (t : Totals). t.fail) totals) ∙ none);
      filled = no_empty_is_filled _ _ c.args.ledger.now c.requires.ledger;
    }
