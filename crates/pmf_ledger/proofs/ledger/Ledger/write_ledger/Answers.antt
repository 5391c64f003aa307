use Rattle.std.proofs.Common.{◌≤◌, length, sym, subst}
use Rattle.pmf_ledger.{specs.declared.loading.TheConstants.{LEDGER_LIMIT}, specs.Loading.{LoadsAs}, proofs.lemmas.LedgerTextLemmas.{loads-written}}
use Rattle.pmf_ledger.proofs.ledger.Ledger.write_ledger.Goals as goal

pub returns-clause-loads_back : goal.returns-clause-loads_back
returns-clause-loads_back c =
    let ledger = c.args.self.now in let is = c.in_ok-text.ensures.text in
    λ short. subst (λ bytes. LoadsAs bytes ledger) (sym is) (loads-written ledger c.in_ok-text.ensures.rises c.in_ok-text.ensures.checked c.in_ok-text.ensures.spelled (subst (λ bytes. length bytes ≤ LEDGER_LIMIT) is short))
