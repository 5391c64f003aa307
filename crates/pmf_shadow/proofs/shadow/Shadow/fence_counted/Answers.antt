use Rattle.std.proofs.Common.{refl}
use Rattle.pmf_shadow.proofs.StandsLemmas.{stands-fence, follows-from}
use Rattle.pmf_shadow.proofs.shadow.Shadow.fence_counted.Goals as goal

pub returns : goal.returns
returns c = λ place. follows-from place c.args.self.now _ _ (λ told es p here at_place stands. stands-fence c.args.self.now _ told es p refl refl here stands)
