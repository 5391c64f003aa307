use Rattle.std.proofs.Common.{◌++◌, codes, ◌-◌, ap, subst, arith}
use Rattle.std.proofs.lemmas.List.{take_all}
use Rattle.pmf_ledger.{specs.BlockReading.{EndsWithin, GivesBlock}, specs.LedgerText.{version_of}, proofs.lemmas.LoneBlockLemmas.{begun, count, read_alone}}
use Rattle.pmf_ledger.proofs.lone_block.LoneBlock.read.Goals as goal

pub overflow_sub-lines : goal.overflow_sub-lines
overflow_sub-lines c =
    let taken = c.in-Ok.ensures.takes _ _ c.behind_version-reader.ensures in
    let between = c.is_between.ensures _ _ taken.1 c.if-not-is_between.false in
    let all = take_all c.in-Ok.fed.taken c.args.bytes.now (omega (arith, c.if-fed-bytes.false)) in
    let here = subst (λ xs. EndsWithin ((version_of c.args.profile ++ codes "\n") ++ xs) c.feed.new.self.front.items taken.1.line taken.0) all taken.1.within in
    let lines = count c.args.profile c.args.bytes.now c.feed.new.self.front.items taken.1.line taken.0 here between.1 in
    let is = c.line-lines.ensures taken.0 taken.1.line taken.1.lines in omega (arith, lines, is)

pub returns : goal.returns
returns c =
    let taken = c.in-Ok.ensures.takes _ _ c.behind_version-reader.ensures in
    let between = c.is_between.ensures _ _ taken.1 c.if-not-is_between.false in
    let all = take_all c.in-Ok.fed.taken c.args.bytes.now (omega (arith, c.if-fed-bytes.false)) in
    let here = subst (λ xs. EndsWithin ((version_of c.args.profile ++ codes "\n") ++ xs) c.feed.new.self.front.items taken.1.line taken.0) all taken.1.within in
    let is = c.line-lines.ensures taken.0 taken.1.line taken.1.lines in
    read_alone c.args.profile c.args.bytes.now c.feed.new.self.front.items taken.1.line taken.0 here between.1
    (record { verdict = c.in_ok-verdict.verdict; lines = c.line-lines.result - 2 }) between.0 (subst (λ g. GivesBlock (begun c.args.profile) taken.0 g) c.in_ok-verdict.was taken.2) (ap (λ n. n - 2) is)
