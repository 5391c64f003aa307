use Rattle.std.proofs.Common.{rules, length, map}
use Rattle.pmf_world.proofs.lemmas.FloorLemmas.{opened}
use Rattle.pmf_world.proofs.floor.Floor.new.Goals as goal

pub returns : goal.returns
returns c = opened c.args.profile _ (map (λ s. s.value) c.args.sections.now) (length c.args.sections.now) c.args.workers _ _ _ (search rules) (search rules) (search rules) (search rules)
