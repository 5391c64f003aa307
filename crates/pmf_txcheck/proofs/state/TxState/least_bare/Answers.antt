use Rattle.std.proofs.Common.{◌-◌, min, sym, ◌∙◌, ap, arith}
use Rattle.pmf_event.{specs.declared.span.TheConstants.{SPAN_LIMIT}, specs.Span.{Extent}, specs.Ranges.{first_byte}, specs.Exclusion.{is_included}, proofs.RangeLemmas.{first-passes}}
use Rattle.pmf_txcheck.{specs.Findings.{lacks_backup_by}, proofs.SearchLemmas.{run-of_others, no-others, none-from_none_up_to, first-from_none_up_to, bare-over_backed, bare-over_excluded, bare-all_excluded, bare-here}}
use Rattle.pmf_txcheck.proofs.state.TxState.least_bare.Goals as goal

pub between-requires-clause-some : goal.between-requires-clause-some
between-requires-clause-some c =
    let run = run-of_others c.args.self.now.backup c.loop-bare.at c.args.end c.in-Some.bare c.unwrap_or-until.result _ _ c.first_where.ensures c.in-Some.is c.first_where-in-Some.ensures c.unwrap_or-until.ensures in
    run.some

pub between-requires-clause-ends : goal.between-requires-clause-ends
between-requires-clause-ends c =
    let run = run-of_others c.args.self.now.backup c.loop-bare.at c.args.end c.in-Some.bare c.unwrap_or-until.result _ _ c.first_where.ensures c.in-Some.is c.first_where-in-Some.ensures c.unwrap_or-until.ensures in
    let within = run.within in omega arith

pub returns-in-Some-least_included : goal.returns-in-Some-least_included
returns-in-Some-least_included c = λ told tells es fs p q tracks inside stands.
    let state = c.args.self.now in
    let first = c.args.first in
    let bare = c.in-Some.bare in
    let until = c.unwrap_or-until.result in
    let byte = c.in-Some-least_included.byte in
    let run = run-of_others state.backup c.loop-bare.at c.args.end bare until _ _ c.first_where.ensures c.in-Some.is c.first_where-in-Some.ensures c.unwrap_or-until.ensures in
    let from = run.from in
    let within = run.within in
    let started = c.loop-bare.invariant.from in
    let before = bare-over_backed state told es fs p q tracks inside first c.loop-bare.at bare (c.loop-bare.invariant.none told tells es fs p q tracks inside stands) run.before in
    let included = first-passes (is_included fs q) bare (min (until - bare) SPAN_LIMIT) byte
    (sym (c.least_included.ensures tells fs q stands ∙ ap (λ (s : Extent). first_byte (is_included fs q) s) c.between.ensures) ∙ c.in-Some-least_included.is) in
    let low = included.from in
    let high = included.within in
    first-from_none_up_to (lacks_backup_by es p fs q) first c.args.end byte
    (bare-over_excluded state told es fs p q tracks inside first bare (min (until - bare) SPAN_LIMIT) byte before included)
    (omega arith) (omega arith) (bare-here state told es fs p q tracks inside byte included.passes (run.all byte low (omega arith)))

pub loop-bare-preserved : goal.loop-bare-preserved
loop-bare-preserved c =
    let state = c.args.self.now in
    let first = c.args.first in
    let bare = c.in-Some.bare in
    let until = c.unwrap_or-until.result in
    let run = run-of_others state.backup c.loop-bare.at c.args.end bare until _ _ c.first_where.ensures c.in-Some.is c.first_where-in-Some.ensures c.unwrap_or-until.ensures in
    let from = run.from in
    let some = run.some in
    let within = run.within in
    let started = c.loop-bare.invariant.from in record {
      from = omega arith;
      none = λ told tells es fs p q tracks inside stands k low high.
          let before = bare-over_backed state told es fs p q tracks inside first c.loop-bare.at bare (c.loop-bare.invariant.none told tells es fs p q tracks inside stands) run.before in
          let excluded = sym (c.least_included.ensures tells fs q stands ∙ ap (λ (s : Extent). first_byte (is_included fs q) s) c.between.ensures) ∙ c.in_default-least_included.is in
          bare-all_excluded state told es fs p q tracks inside first bare (min (until - bare) SPAN_LIMIT) before excluded k low (omega arith);
    }

pub loop-bare-smaller : goal.loop-bare-smaller
loop-bare-smaller c =
    let run = run-of_others c.args.self.now.backup c.loop-bare.at c.args.end c.in-Some.bare c.unwrap_or-until.result _ _ c.first_where.ensures c.in-Some.is c.first_where-in-Some.ensures c.unwrap_or-until.ensures in
    let from = run.from in
    let some = run.some in
    let within = run.within in omega arith

pub returns : goal.returns
returns c = λ told tells es fs p q tracks inside stands.
    let state = c.args.self.now in
    let first = c.args.first in
    let backed = no-others state.backup c.loop-bare.at c.args.end _ c.first_where.ensures c.in_default.is in
    none-from_none_up_to (lacks_backup_by es p fs q) first c.args.end c.args.end
    (bare-over_backed state told es fs p q tracks inside first c.loop-bare.at c.args.end (c.loop-bare.invariant.none told tells es fs p q tracks inside stands) backed) (omega arith)
