use Rattle.std.proofs.Common.{refl}
use Rattle.pmf_lint.proofs.NotingLemmas.{notes_none}
use Rattle.pmf_lint.proofs.noting.Notes.none.Goals as goal

pub returns : goal.returns
returns c = notes_none _ refl refl refl refl refl
