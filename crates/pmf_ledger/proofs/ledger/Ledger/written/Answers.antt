use Rattle.std.proofs.{Common.{◌+◌, ◌^◌, sym, ◌∙◌, ap, subst, rules, arith}, lemmas.List.{flat_map_more, take_more}, lemmas.Grind.{common_steps}}
use Rattle.pmf_ledger.{specs.Report.{IsWithin, both}, proofs.lemmas.CountLemmas.{Sums, Sums_more, Sums-none}}
use Rattle.pmf_ledger.proofs.ledger.Ledger.written.Goals as goal

pub loop-verdict-init : goal.loop-verdict-init
loop-verdict-init c = record { text = search rules; sums = subst (Sums c.deref-verdict-items.result.now 0) (sym c.none-totals.ensures) (Sums-none c.deref-verdict-items.result.now) }

pub loop-verdict-preserved : goal.loop-verdict-preserved
loop-verdict-preserved c =
    let sections = c.deref-verdict-items.result.now in let index = c.loop-verdict.verdict-index in let verdict = c.verdict-item.result in
    let more = Sums_more sections index c.loop-verdict.totals verdict c.loop-verdict-test.true c.verdict-item.is
    (subst (IsWithin 1 (2 ^ 64)) c.of-counts.ensures.value c.of-counts.ensures.small) c.loop-verdict.invariant.sums in
    record {
      text = grind (arith, common_steps, flat_map_more, take_more);
      sums = subst (Sums sections (index + 1)) (sym (c.add.ensures ∙ ap (both c.loop-verdict.totals) c.of-counts.ensures.value)) more;
    }
