use Rattle.std.proofs.Common.{subst, arith}
use Rattle.pmf_lint.{specs.Counting.{Lists}, proofs.StoreNameLemmas.{none_there}}
use Rattle.pmf_lint.proofs.storing.take_if.Goals as goal

pub returns-else-index-located : goal.returns-else-index-located
returns-else-index-located c = λ names lists.
    subst (Lists c.args.listing.now) (none_there c.args.marked c.args.located.now c.args.index names (omega (arith, c.if-index-located.false))) lists
