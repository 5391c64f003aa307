use Rattle.std.proofs.Common.{ap}
use Rattle.pmf_why.{specs.WhyText.{text_of_lack}, proofs.TellingLemmas.{told_then}}
use Rattle.pmf_why.proofs.telling.push_lack.Goals as goal

pub returns-in_ok-push_with-in-FencedLate : goal.returns-in_ok-push_with-in-FencedLate
unfolding text_of_lack
returns-in_ok-push_with-in-FencedLate c = told_then c.push_late_fence.result _ _ _ _ _ _ c.in_ok-push_with-in-FencedLate.ensures (ap (text_of_lack c.args.stands.now c.args.due) c.in-FencedLate.is) c.push_late_fence.ensures
