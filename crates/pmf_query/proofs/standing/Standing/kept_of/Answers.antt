use Rattle.std.{proofs.Common.{[], ap, ◌∙◌}, specs.Option.{option_map, unwrap_or}}
use Rattle.pmf_query.proofs.standing.Standing.kept_of.Goals as goal

pub returns : goal.returns
returns c = c.deref-2.ensures.value ∙ ap (λ o. unwrap_or (option_map (λ found. found.items) o) []) c.in-Some.ensures.value
