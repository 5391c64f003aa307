use Rattle.std.proofs.Common.{◌≡◌, ap, ◌∙◌}
use Rattle.pmf_cut.{proofs.CuttingLemmas.{ends_log}}
use Rattle.pmf_cut.proofs.cutter.Cutter.finish.Goals as goal

pub returns : goal.returns
returns c = λ step log handed read.
    let rest : c.deref.result.now ≡ c.args.self.now.waiting.items = c.deref.ensures.value ∙ ap (λ v. v.items) c.replace-rest.ensures.value in
    let whole : c.deref-2.result.now ≡ c.args.self.now.waiting.items = c.deref-2.ensures.value ∙ ap (λ v. v.items) c.replace-rest.ensures.value in
    let all = ends_log step log handed c.args.self.now c.take_part.new.self
    (λ ends step records handed cuts parts. rw (rest, whole) at c.in_ok-take_part.ensures ends step records handed (record { step_is = cuts.step_is; has = cuts.has }) parts) read in
    record { cut = rw (c.loop-file.invariant.0, c.loop-file.invariant.1) all.cut; waits = rw c.loop-file.invariant.0 all.waits }
