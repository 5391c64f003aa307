use Rattle.std.proofs.Common.{option_map}
use Rattle.pmf_stream.proofs.ahead.side_by_side.Goals as goal

pub returns-in_default-clause-goes : goal.returns-in_default-clause-goes
returns-in_default-clause-goes g c = c.without_section.ensures c.args.profile (option_map (λ section. section.now) c.args.only)
