use Rattle.std.proofs.Common.{ap, ◌∙◌, Some}
use Rattle.pmf_event.specs.declared.event.Event.{Event}
use Rattle.pmf_cause.proofs.StoredLemmas.{flush_passed, store_passed, stored, written_back}
use Rattle.pmf_cause.proofs.past.store.Goals as goal

pub returns-in_ok-change-in-Store : goal.returns-in_ok-change-in-Store
returns-in_ok-change-in-Store c = λ es p here at_place before.
    stored c.args.lines.now c.args.stored.now c.change.new.self c.first.result c.end.result c.args.place es p at_place before c.in-Store.span
    (here ∙ ap (λ (e : Event). Some e) c.in-Store.is) c.first.ensures.value c.end.ensures.value c.in_ok-change-in-Store.ensures.ok

pub returns-in_ok-change-in-Flush : goal.returns-in_ok-change-in-Flush
returns-in_ok-change-in-Flush c = λ es p here at_place before.
    written_back c.args.lines.now c.args.stored.now c.change-in-Flush.new.self c.lines_of-first.result.0 c.lines_of-first.result.1 c.args.place es p at_place before c.in-Flush.span
    (here ∙ ap (λ (e : Event). Some e) c.in-Flush.is) c.lines_of-first.ensures c.in_ok-change-in-Flush.ensures.ok

pub returns-then-not-are_met : goal.returns-then-not-are_met
returns-then-not-are_met c = λ es p here at_place before.
    store_passed es p c.args.event.now here c.args.lines.now c.args.stored.now c.in-Store.span c.in-Store.is (c.are_met.ensures c.if-not-are_met.true) before

pub returns-then-not-are_met-2 : goal.returns-then-not-are_met-2
returns-then-not-are_met-2 c = λ es p here at_place before.
    flush_passed es p c.args.event.now here c.args.lines.now c.args.stored.now c.in-Flush.span c.in-Flush.is (c.are_met-in-Flush.ensures c.if-not-are_met-2.true) before
