use Rattle.std.proofs.Common.{◌+◌, ◌-◌, ◌∙◌, ap, sym, arith, false, if◌then◌else◌}
use Rattle.pmf_runs.specs.Lines.{line_has}
use Rattle.pmf_shadow.specs.Bytes.{passing}
use Rattle.pmf_shadow.proofs.WalkLemmas.{counted_behind, count_upto, line_counted}
use Rattle.pmf_shadow.proofs.front.ByteMap.with_lines.Goals as goal

pub overflow_add-result : goal.overflow_add-result
overflow_add-result g c =
    let is = counted_behind c.args.self.now (g.T.Test.passes c.args.test.now) c.args.line c.args.next c.count_lines.result c.requires.some c.requires.alike (sym c.in-None.ensures.value) c.count_lines.ensures in
    let few = count_upto (line_has (passing (g.T.Test.passes c.args.test.now) c.args.self.now)) c.args.line (c.args.next - c.args.line) in
    let less = c.requires.few in
    let some = c.requires.some in
    let fits = c.ranges.next.fits in
    omega arith

pub returns-in-None-clause-is : goal.returns-in-None-clause-is
returns-in-None-clause-is g c =
    ap (λ n. c.args.count + n) (counted_behind c.args.self.now (g.T.Test.passes c.args.test.now) c.args.line c.args.next c.count_lines.result c.requires.some c.requires.alike (sym c.in-None.ensures.value) c.count_lines.ensures)

pub returns-in-None-clause-few : goal.returns-in-None-clause-few
returns-in-None-clause-few g c =
    let is = counted_behind c.args.self.now (g.T.Test.passes c.args.test.now) c.args.line c.args.next c.count_lines.result c.requires.some c.requires.alike (sym c.in-None.ensures.value) c.count_lines.ensures in
    let few = count_upto (line_has (passing (g.T.Test.passes c.args.test.now) c.args.self.now)) c.args.line (c.args.next - c.args.line) in
    let less = c.requires.few in
    let some = c.requires.some in
    omega arith

pub returns-then-is_some-clause-is : goal.returns-then-is_some-clause-is
returns-then-is_some-clause-is g c =
    ap (λ t. if t then c.args.count + 1 else c.args.count) (sym c.if-is_some.true)
    ∙ line_counted c.args.self.now (g.T.Test.passes c.args.test.now) c.args.line c.args.next c.args.count c.in-Some.found.now _ c.first_where.result c.is_some.result c.requires.some c.requires.alike (sym c.in-Some.ensures.value)
    (c.first_where.ensures (record { last = 0; opens = 0; written_back = 0; is_stored = false; is_written_back = false; excluded = false })) c.is_some.ensures

pub returns-else-is_some-clause-is : goal.returns-else-is_some-clause-is
returns-else-is_some-clause-is g c =
    ap (λ t. if t then c.args.count + 1 else c.args.count) (sym c.if-is_some.false)
    ∙ line_counted c.args.self.now (g.T.Test.passes c.args.test.now) c.args.line c.args.next c.args.count c.in-Some.found.now _ c.first_where.result c.is_some.result c.requires.some c.requires.alike (sym c.in-Some.ensures.value)
    (c.first_where.ensures (record { last = 0; opens = 0; written_back = 0; is_stored = false; is_written_back = false; excluded = false })) c.is_some.ensures
