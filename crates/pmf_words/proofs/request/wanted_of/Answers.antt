use Rattle.std.proofs.Common.{codes, refl}
use Rattle.clap.specs.Words.{found_of}
use Rattle.pmf_words.proofs.RequestLemmas.{flag-named, not-both}
use Rattle.pmf_words.proofs.request.wanted_of.Goals as goal

pub returns-then-ledger : goal.returns-then-ledger
returns-then-ledger c =
    let f = found_of c.args.join.now in
    let ledger = flag-named f (codes "ledger") c.get_flag-ledger.result c.get_flag-ledger.ensures.value c.get_flag-ledger.ensures.other in
    let summary = flag-named f (codes "summary") c.get_flag-summary.result c.get_flag-summary.ensures.value c.get_flag-summary.ensures.other in
    record { ledger = λ given. refl; summary = λ given. not-both _ (summary.given given) c.if-summary.false; report = λ out _. not-both _ c.if-ledger.true (ledger.left_out out) }

pub returns-then-summary-2 : goal.returns-then-summary-2
returns-then-summary-2 c =
    let f = found_of c.args.join.now in
    let ledger = flag-named f (codes "ledger") c.get_flag-ledger.result c.get_flag-ledger.ensures.value c.get_flag-ledger.ensures.other in
    let summary = flag-named f (codes "summary") c.get_flag-summary.result c.get_flag-summary.ensures.value c.get_flag-summary.ensures.other in
    record { ledger = λ given. not-both _ (ledger.given given) c.if-ledger.false; summary = λ given. refl; report = λ _ out. not-both _ c.if-summary-2.true (summary.left_out out) }

pub returns : goal.returns
returns c =
    let f = found_of c.args.join.now in
    let ledger = flag-named f (codes "ledger") c.get_flag-ledger.result c.get_flag-ledger.ensures.value c.get_flag-ledger.ensures.other in
    let summary = flag-named f (codes "summary") c.get_flag-summary.result c.get_flag-summary.ensures.value c.get_flag-summary.ensures.other in
    record { ledger = λ given. not-both _ (ledger.given given) c.if-ledger.false; summary = λ given. not-both _ (summary.given given) c.if-summary-2.false; report = λ _ _. refl }
