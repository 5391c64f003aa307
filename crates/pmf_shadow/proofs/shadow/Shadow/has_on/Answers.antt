use Rattle.std.proofs.Common.{◌+◌, ◌*◌, arith}
use Rattle.pmf_shadow.proofs.WalkLemmas.{alike_within}
use Rattle.pmf_shadow.proofs.shadow.Shadow.has_on.Goals as goal

pub first_on-requires : goal.first_on-requires
first_on-requires g c = alike_within c.args.self.now.bytes (c.args.line * 64) (c.args.line * 64 + 64) (omega arith)
