use Rattle.pmf_merge.proofs.feed.Feed.next_of_piece.Goals as goal

pub look_ahead-requires : goal.look_ahead-requires
look_ahead-requires g c = (c.type_bounds.sync-T, c.requires.4.within)

pub feed-requires : goal.feed-requires
feed-requires g c =
    let asked = c.requires in
    let here = c.look_ahead.ensures.fed asked.0 asked.1 asked.2 asked.3 asked.4 in
    (asked.0, asked.1, asked.2, asked.3, c.in-None.ensures.next asked.0 asked.1 asked.2 asked.3 here)

pub returns-in-Some-clause-next : goal.returns-in-Some-clause-next
returns-in-Some-clause-next g c = λ start left text r fed. c.in-Some.ensures.next start left text r (c.look_ahead.ensures.fed start left text r fed)
