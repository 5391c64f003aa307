use Rattle.std.proofs.Common.{refl, ap, ◌∙◌, nat_eq}
use Rattle.std.specs.HashMap.{get}
use Rattle.pmf_shadow.proofs.FrontLemmas.{taken, unchanged, absent, keeps_both}
use Rattle.pmf_shadow.proofs.front.ByteMap.take.Goals as goal

pub returns-in-Ok-clause-same : goal.returns-in-Ok-clause-same
returns-in-Ok-clause-same c =
    let none = ap (λ m. get nat_eq m c.args.line) c.to_take.ensures.front ∙ absent _ c.if-contains_key.ensures in
    keeps_both c.args.self.now c.to_take.new.self _ c.to_take.ensures.same (taken c.to_take.new.self _ c.args.line c.in-Some.found none c.in-Some.ensures.even c.in-Ok.ensures.updates.0 refl)

pub returns-in-Err-clause-same : goal.returns-in-Err-clause-same
returns-in-Err-clause-same c = keeps_both c.args.self.now c.to_take.new.self _ c.to_take.ensures.same (unchanged c.to_take.new.self _ c.in-Err.ensures.err refl)
