use Rattle.std.proofs.{Common.{arith}, KnownBytes.{Consumes-nil}}
use Rattle.pmf_merge.proofs.feed.Feed.new.Goals as goal

pub returns : goal.returns
returns c = λ left. record { taken = c.new.ensures; rises = omega arith; within = omega arith; read = Consumes-nil left; ahead = c.new-2.ensures _ }
