use Rattle.std.proofs.Common.{rules}
use Rattle.pmf_ledger.proofs.tests.lone_blocks.take.Goals as goal

pub returns : goal.returns
returns g c = let next = c.take.ensures.taken c.requires.taken.0 c.requires.lone.1 c.requires.taken.1 c.requires.lone.0 c.requires.taken.2 c.requires.lone.2 (search rules) in (_, next.0, next.1)
