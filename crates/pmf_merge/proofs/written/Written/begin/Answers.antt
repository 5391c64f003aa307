use Rattle.std.proofs.{Common.{arith, append-nil}, lemmas.Grind.{common_steps}}
use Rattle.pmf_merge.proofs.written.Written.begin.Goals as goal

pub returns : goal.returns
returns c = λ held. record { told = c.new-teller.ensures; front = _; page = c.new.ensures held; whole = grind (arith, common_steps, append-nil) }
