use Rattle.pmf_lint.proofs.UsualCountLemmas.{notes_same}
use Rattle.pmf_lint.proofs.noting.Notes.pass.Goals as goal

pub returns-in-Some : goal.returns-in-Some
returns-in-Some c = λ records notes. notes_same c.args.self records c.args.text.now _ c.in-Some.ensures notes
