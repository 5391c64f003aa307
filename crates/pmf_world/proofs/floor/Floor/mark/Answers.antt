use Rattle.std.proofs.Common.{rules, ◌<◌, subst, sym}
use Rattle.pmf_world.proofs.lemmas.FloorLemmas.{section_within}
use Rattle.pmf_world.proofs.floor.Floor.mark.Goals as goal

pub index_mut-requires : goal.index_mut-requires
index_mut-requires c = subst (λ n. c.args.section < n) (sym c.self.inside.board.ok.0) (section_within _ _ _ c.self.inside.workers.items _ c.args.worker c.args.section (search rules) c.self.invariant)
