use Rattle.std.proofs.Common.{refl}
use Rattle.pmf_cut.proofs.{PartLemmas.{stands-none}, WholeLemmas.{part-first}}
use Rattle.pmf_cut.proofs.part.Part.new.Goals as goal

pub returns-clause-stands : goal.returns-clause-stands
returns-clause-stands c = λ fs. stands-none _ fs refl refl refl (c.new.ensures (λ k. k) fs)

pub returns-clause-part : goal.returns-clause-part
returns-clause-part c = part-first _ (λ fs. stands-none _ fs refl refl refl (c.new.ensures (λ k. k) fs))
