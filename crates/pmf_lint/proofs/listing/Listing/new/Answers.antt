use Rattle.pmf_lint.proofs.NamingLemmas.{lists_none}
use Rattle.std.proofs.Common.{refl}
use Rattle.pmf_lint.proofs.listing.Listing.new.Goals as goal

pub returns : goal.returns
returns c = lists_none _ c.new.ensures.items refl
