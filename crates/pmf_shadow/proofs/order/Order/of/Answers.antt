use Rattle.std.proofs.Common.{nat_eq, is_some}
use Rattle.std.specs.HashMap.{get}
use Rattle.pmf_shadow.proofs.ListedLemmas.{sorted_listed, sorted_rises}
use Rattle.pmf_shadow.proofs.order.Order.of.Goals as goal

pub invariant_of-result : goal.invariant_of-result
invariant_of-result c = record { rises = sorted_rises _ c.sort_unstable.ensures.sorted }

pub returns : goal.returns
returns c = sorted_listed c.in_ok-numbers.numbers.items _ (λ q. is_some (get nat_eq c.args.lines.now q)) c.sort_unstable.ensures.permutation c.in_ok-numbers.ensures
