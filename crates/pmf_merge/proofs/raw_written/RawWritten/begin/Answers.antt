use Rattle.std.proofs.{Common.{[], arith, append-nil, refl}, lemmas.Grind.{common_steps}}
use Rattle.pmf_merge.proofs.raw_written.RawWritten.begin.Goals as goal

pub returns : goal.returns
returns c = λ held. record { front = []; page = c.new.ensures held; whole = grind (arith, common_steps, append-nil); count = refl; last = grind (arith, common_steps) }
