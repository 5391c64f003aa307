use Rattle.std.proofs.Common.{List, sym, subst}
use Rattle.pmf_query.specs.{declared.locate.Located.{Located}, Locating.{AreLocations}}
use Rattle.pmf_query.proofs.standing.Standing.in_section.Goals as goal

pub returns : goal.returns
returns c = λ bytes stands. subst (λ (ls : List Located). AreLocations bytes c.args.section ls) (sym c.kept_of.ensures) (stands c.args.section)
