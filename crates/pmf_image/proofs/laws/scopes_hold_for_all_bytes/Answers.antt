use Rattle.std.proofs.Common.{◌-◌}
use Rattle.pmf_event.proofs.LimitLemmas.{bytes_lie_below_the_limit}
use Rattle.pmf_image.proofs.laws.scopes_hold_for_all_bytes.Goals as goal

pub returns : goal.returns
returns c = λ es p valid holds n later within image allowed b scoped included. holds n later within image allowed b ((bytes_lie_below_the_limit es (p - 1) b valid).1 scoped) scoped included
