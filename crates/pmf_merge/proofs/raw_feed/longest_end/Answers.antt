use Rattle.pmf_merge.proofs.lemmas.RawFeedLemmas.{end_short}
use Rattle.pmf_merge.proofs.raw_feed.longest_end.Goals as goal

pub returns : goal.returns
returns c = end_short c.args._blocks c.ranges._blocks.fits
