use Rattle.pmf_verdict.specs.Checked.{Checked}
use Rattle.pmf_merge.{specs.Heads.{names_of}, proofs.lemmas.NamesLemmas.{least_of_names}}
use Rattle.pmf_merge.proofs.heads.Heads.least.Goals as goal

pub returns : goal.returns
returns c = let heads = c.args.self.now.heads.items in least_of_names (λ (v : Checked). v.section.name) heads c.first.result (c.first.ensures (names_of heads) c.requires)
