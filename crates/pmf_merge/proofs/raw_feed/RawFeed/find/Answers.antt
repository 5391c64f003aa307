use Rattle.pmf_merge.proofs.lemmas.RawFeedLemmas.{no_text_goes_on}
use Rattle.pmf_merge.proofs.raw_feed.RawFeed.find.Goals as goal

pub returns-in-Some-clause-refused : goal.returns-in-Some-clause-refused
returns-in-Some-clause-refused g c = λ start told fed. c.keep.ensures.refused start (g.R.Source.left c.loop-more.source) told (c.loop-more.invariant.fed start told fed)

pub returns-clause-refused : goal.returns-clause-refused
returns-clause-refused g c = λ start told fed.
    let over = c.loop-more.invariant.over c.loop-more-test.false in c.end.ensures.refused start (g.R.Source.left c.loop-more.source) told (c.loop-more.invariant.fed start told fed) over.0 over.1

pub returns-then-is_garbled-clause-refused : goal.returns-then-is_garbled-clause-refused
returns-then-is_garbled-clause-refused g c = λ start told fed.
    let here = c.loop-more.invariant.fed start told fed in let garbled = c.is_garbled.ensures c.if-is_garbled.true in
    c.refused.ensures start (no_text_goes_on start (g.R.Source.left c.loop-more.source) told c.loop-more.self here garbled.0 garbled.1)
