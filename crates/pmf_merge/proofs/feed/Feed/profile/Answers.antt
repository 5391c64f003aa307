use Rattle.pmf_merge.proofs.feed.Feed.profile.Goals as goal

pub returns : goal.returns
returns c = λ start left text r fed. c.profile.ensures text r fed.taken
