use Rattle.std.proofs.Common.{map, inl, inr}
use Rattle.pmf_command.proofs.requests.trust_named.Goals as goal

pub returns-in-Err : goal.returns-in-Err
returns-in-Err g c = inl c.in-Err.ensures.unopened

pub returns : goal.returns
returns g c = let merged = c.trust_all.ensures in inr (map g.F.File.Source.left c.in-Ok.sources.items, c.in-Ok.ensures.opened, (merged.0, merged.1, merged.2))
