use Rattle.pmf_query.proofs.CursorLemmas.{part_of_rest}
use Rattle.pmf_query.proofs.walking.part_from.Goals as goal

pub returns-in-Some : goal.returns-in-Some
returns-in-Some c = part_of_rest c.args.log.now c.args.start c.in-Some.len c.requires.anew c.in-Some.ensures
