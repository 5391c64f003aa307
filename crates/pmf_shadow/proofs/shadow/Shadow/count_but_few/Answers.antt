use Rattle.std.proofs.Common.{◌/◌, arith}
use Rattle.pmf_event.specs.declared.span.TheConstants.{ADDRESS_LIMIT}
use Rattle.pmf_runs.specs.Lines.{line_has}
use Rattle.pmf_shadow.{specs.Bytes.{passing}, proofs.TotalsLemmas.{count_within}}
use Rattle.pmf_shadow.proofs.shadow.Shadow.count_but_few.Goals as goal

pub overflow_sub-result : goal.overflow_sub-result
overflow_sub-result g c =
    let room = c.requires.room in
    (count_within (line_has (passing (g.T.Test.passes c.args.test.now) c.args.self.now.bytes)) c.args.first c.args.end (ADDRESS_LIMIT / 64) c.args.all c.in_ok-before.before c.in_ok-behind.behind c.requires.ordered (omega arith) c.requires.all c.in_ok-before.ensures
    c.in_ok-behind.ensures).0

pub overflow_sub-result-2 : goal.overflow_sub-result-2
overflow_sub-result-2 g c =
    let room = c.requires.room in
    (count_within (line_has (passing (g.T.Test.passes c.args.test.now) c.args.self.now.bytes)) c.args.first c.args.end (ADDRESS_LIMIT / 64) c.args.all c.in_ok-before.before c.in_ok-behind.behind c.requires.ordered (omega arith) c.requires.all c.in_ok-before.ensures
    c.in_ok-behind.ensures).1

pub returns : goal.returns
returns g c =
    let room = c.requires.room in
    (count_within (line_has (passing (g.T.Test.passes c.args.test.now) c.args.self.now.bytes)) c.args.first c.args.end (ADDRESS_LIMIT / 64) c.args.all c.in_ok-before.before c.in_ok-behind.behind c.requires.ordered (omega arith) c.requires.all c.in_ok-before.ensures
    c.in_ok-behind.ensures).2
