use Rattle.std.proofs.Common.{refl}
use Rattle.pmf_lint.proofs.NamingLemmas.{tallies_none}
use Rattle.pmf_lint.proofs.counting.NameCounts.new.Goals as goal

pub returns : goal.returns
returns c = tallies_none _ refl c.in_ok-known.ensures.names c.in_ok-known.ensures.none c.new.ensures c.none.ensures
