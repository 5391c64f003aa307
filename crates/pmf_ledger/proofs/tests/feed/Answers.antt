use Rattle.pmf_ledger.proofs.tests.feed.Goals as goal

pub returns-clause-taken : goal.returns-clause-taken
returns-clause-taken c = let next = c.in_ok-fed.ensures.takes c.requires.0 c.requires.1 c.requires.2 in (_, next.0, next.1)
