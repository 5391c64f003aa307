use Rattle.std.proofs.Common.{sym, ◌∙◌, refl}
use Rattle.pmf_shadow.proofs.{StandsLemmas.{stands-fence, follows-from}, TotalsLemmas.{unless_some}}
use Rattle.pmf_shadow.proofs.shadow.Shadow.fence.Goals as goal

pub returns : goal.returns
returns c = λ place. follows-from place c.args.self.now _ _ (λ told es p here at_place stands. stands-fence c.args.self.now _ told es p refl refl here stands)

pub invariant_of-self : goal.invariant_of-self
invariant_of-self c = record { counted = unless_some c.args.self.now.bytes _ c.args.self.now.totals (sym c.is_some.ensures ∙ c.if-is_some.false) }
