use Rattle.std.proofs.Common.{◌∙◌}
use Rattle.pmf_why.proofs.{CountLemmas.{counted}, TellingLemmas.{told_then}}
use Rattle.pmf_why.proofs.taking.Telling.push_counts.Goals as goal

pub returns : goal.returns
returns c = told_then c.push_sums.result _ _ _ _ _ _ c.in_ok-push_numbers.ensures
    (counted c.args.self.now c.len-rows.result c.len-told.result c.left_in-untold.result c.sum_pass-pass.result c.sum_fail-fail.result c.deref.result.now c.deref-2.result.now c.deref-3.result.now c.deref-4.result.now
    (c.len-rows.ensures ∙ c.args.self.now.kinds.ok.0) (c.len-told.ensures ∙ c.args.self.now.told.ok.0) c.left_in-untold.ensures c.deref.ensures.value c.deref-2.ensures.value c.sum_pass-pass.ensures c.deref-3.ensures.value c.sum_fail-fail.ensures c.deref-4.ensures.value)
    c.push_sums.ensures
