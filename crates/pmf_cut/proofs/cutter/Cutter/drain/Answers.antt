use Rattle.std.proofs.Common.{refl}
use Rattle.pmf_cut.proofs.CuttingLemmas.{drained}
use Rattle.pmf_cut.proofs.cutter.Cutter.drain.Goals as goal

pub returns : goal.returns
returns c = drained c.args.self.now _ c.in_ok-texts.texts.items c.in_ok-texts.ensures refl refl (λ step records handed cuts has. record { step_is = cuts.step_is; has = has })
