use Rattle.std.proofs.Common.{◌≡◌, ◌+◌, ◌-◌, min, sym, ◌∙◌, ap, arith}
use Rattle.pmf_event.{specs.declared.span.TheConstants.{ADDRESS_LIMIT, SPAN_LIMIT}, specs.Span.{Extent}, specs.Ranges.{first_byte}, specs.Persist.{is_exposed}, proofs.RangeLemmas.{none-passes, first-passes}}
use Rattle.pmf_txcheck.{specs.Findings.{is_left_open_by}, proofs.SearchLemmas.{run-of_members, no-members, none-from_none_up_to, first-from_none_up_to, open-over_others, open-over_closed, open-here}}
use Rattle.pmf_txcheck.proofs.state.TxState.least_left_open.Goals as goal

pub between-span-requires-clause-some : goal.between-span-requires-clause-some
between-span-requires-clause-some c =
    let run = run-of_members c.args.self.now.stored c.loop-first.at ADDRESS_LIMIT c.in-Some.first c.unwrap_or-end.result _ _ c.first_where.ensures c.in-Some.is c.first_where-in-Some.ensures c.unwrap_or-end.ensures in
    run.some

pub between-span-requires-clause-ends : goal.between-span-requires-clause-ends
between-span-requires-clause-ends c =
    let run = run-of_members c.args.self.now.stored c.loop-first.at ADDRESS_LIMIT c.in-Some.first c.unwrap_or-end.result _ _ c.first_where.ensures c.in-Some.is c.first_where-in-Some.ensures c.unwrap_or-end.ensures in
    run.within

pub returns-in-Some-least_open : goal.returns-in-Some-least_open
returns-in-Some-least_open c = λ told tells es fs p q tracks scoped stands.
    let state = c.args.self.now in
    let first = c.in-Some.first in
    let end = c.unwrap_or-end.result in
    let byte = c.in-Some-least_open.byte in
    let run = run-of_members state.stored c.loop-first.at ADDRESS_LIMIT first end _ _ c.first_where.ensures c.in-Some.is c.first_where-in-Some.ensures c.unwrap_or-end.ensures in
    let within = run.within in
    let before = open-over_others state told es fs p q tracks scoped c.loop-first.at first (c.loop-first.invariant.none told tells es fs p q tracks scoped stands) run.before in
    let exposed = first-passes (is_exposed fs q) first (min (end - first) SPAN_LIMIT) byte
    (sym (c.least_open.ensures tells fs q stands ∙ ap (λ (s : Extent). first_byte (is_exposed fs q) s) c.between-span.ensures) ∙ c.in-Some-least_open.is) in
    let low = exposed.from in
    let high = exposed.within in
    first-from_none_up_to (is_left_open_by es p fs q) 0 ADDRESS_LIMIT byte
    (open-over_closed state told es fs p q tracks scoped first byte before (λ j from until. run.all j from (omega arith)) exposed.before)
    (omega arith) (omega arith) (open-here state told es fs p q tracks scoped byte (run.all byte low (omega arith)) exposed.passes)

pub loop-first-preserved : goal.loop-first-preserved
loop-first-preserved c =
    let state = c.args.self.now in
    let first = c.in-Some.first in
    let end = c.unwrap_or-end.result in
    let run = run-of_members state.stored c.loop-first.at ADDRESS_LIMIT first end _ _ c.first_where.ensures c.in-Some.is c.first_where-in-Some.ensures c.unwrap_or-end.ensures in
    let within = run.within in
    let behind : c.end-at.result ≡ first + min (end - first) SPAN_LIMIT = c.end-at.ensures.value ∙ ap (λ (s : Extent). s.first + s.size) c.between-span.ensures in record {
      within = omega arith;
      none = λ told tells es fs p q tracks scoped stands.
          let before = open-over_others state told es fs p q tracks scoped c.loop-first.at first (c.loop-first.invariant.none told tells es fs p q tracks scoped stands) run.before in
          let closed = none-passes (is_exposed fs q) first (min (end - first) SPAN_LIMIT)
          (sym (c.least_open.ensures tells fs q stands ∙ ap (λ (s : Extent). first_byte (is_exposed fs q) s) c.between-span.ensures) ∙ c.in_default-least_open.is) in
          open-over_closed state told es fs p q tracks scoped first c.end-at.result before (λ j from until. run.all j from (omega arith)) (λ j from until. closed j from (omega arith));
    }

pub loop-first-smaller : goal.loop-first-smaller
loop-first-smaller c =
    let run = run-of_members c.args.self.now.stored c.loop-first.at ADDRESS_LIMIT c.in-Some.first c.unwrap_or-end.result _ _ c.first_where.ensures c.in-Some.is c.first_where-in-Some.ensures c.unwrap_or-end.ensures in
    let from = run.from in
    let some = run.some in
    let within = run.within in
    let behind = c.end-at.ensures.value ∙ ap (λ (s : Extent). s.first + s.size) c.between-span.ensures in omega arith

pub returns : goal.returns
returns c = λ told tells es fs p q tracks scoped stands.
    let state = c.args.self.now in
    let others = no-members state.stored c.loop-first.at ADDRESS_LIMIT _ c.first_where.ensures c.in_default.is in
    none-from_none_up_to (is_left_open_by es p fs q) 0 ADDRESS_LIMIT ADDRESS_LIMIT
    (open-over_others state told es fs p q tracks scoped c.loop-first.at ADDRESS_LIMIT (c.loop-first.invariant.none told tells es fs p q tracks scoped stands) others) (omega arith)
